use Rattle.law_transcripts.proofs.Verified.{quiet_has_all}
use Rattle.law_transcripts.proofs.a_quiet_bearer_has_delivered_all.Goals as goal

pub returns : goal.returns
returns c = quiet_has_all
