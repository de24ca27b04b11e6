use Rattle.transcript_check.proofs.IndexLemmas.{new_index}
use Rattle.transcript_check.proofs.past.Past.new.Goals as goal

pub invariant_of-result : goal.invariant_of-result
invariant_of-result c = new_index c.new.result c.new-2.result c.new.ensures c.new-2.ensures
