use Rattle.links.proofs.KeptLemmas.{kept-none}
use Rattle.links.proofs.tunnels.Tunnels.new.Goals as goal

pub invariant_of-result : goal.invariant_of-result
invariant_of-result c = kept-none _ _ _ c.new.ensures c.new-2.ensures c.new-3.ensures
