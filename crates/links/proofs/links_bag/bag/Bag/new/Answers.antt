use Rattle.links.proofs.links_bag.BagLemmas.{bag-none}
use Rattle.links.proofs.links_bag.bag.Bag.new.Goals as goal

pub invariant_of-result : goal.invariant_of-result
invariant_of-result c = bag-none _ _ _ c.new.ensures.items c.new-2.ensures c.new-3.ensures
