use Rattle.law_transcripts.proofs.Verified.{prefix}
use Rattle.law_transcripts.proofs.deliveries_are_a_prefix.Goals as goal

pub returns : goal.returns
returns c = prefix
