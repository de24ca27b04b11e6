use Rattle.law_transcripts.proofs.Deciding.{not_neither}
use Rattle.law_transcripts.proofs.each_text_is_sound_or_breaks_a_rule.Goals as goal

pub returns : goal.returns
returns c = not_neither
