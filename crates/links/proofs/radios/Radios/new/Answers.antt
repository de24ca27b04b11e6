use Rattle.links.proofs.RadioLemmas.{radios-none}
use Rattle.links.proofs.radios.Radios.new.Goals as goal

pub invariant_of-result : goal.invariant_of-result
invariant_of-result c = radios-none _ _ c.new-2.ensures c.new-3.ensures
