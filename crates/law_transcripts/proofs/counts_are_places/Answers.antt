use Rattle.law_transcripts.proofs.Counts.{counts_in_order}
use Rattle.law_transcripts.proofs.counts_are_places.Goals as goal

pub returns : goal.returns
returns c = counts_in_order
