use Rattle.proof_sound_transcripts.proofs.Apart.{one_unsound}
use Rattle.law_transcripts.proofs.the_first_broken_rule_is_one.Goals as goal

pub returns : goal.returns
returns c = one_unsound
