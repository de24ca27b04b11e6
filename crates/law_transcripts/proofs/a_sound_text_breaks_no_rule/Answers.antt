use Rattle.proof_sound_transcripts.proofs.Apart.{not_both}
use Rattle.law_transcripts.proofs.a_sound_text_breaks_no_rule.Goals as goal

pub returns : goal.returns
returns c = not_both
