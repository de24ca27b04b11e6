use Rattle.std.proofs.Common.{◌≡◌}
use Rattle.std.specs.List.{flat_map}
use Rattle.run_defs.specs.Steps.{first_outstanding, entities_of}
use Rattle.run_defs.specs.UnitRuns.{Records}
use Rattle.run_links.specs.Networks.{OctetCore, state_of}
use Rattle.run_links.proofs.network.Network.outstanding.Given as goal

abbrev pub invariant-loop-ue : goal.invariant-loop-ue
invariant-loop-ue l = (units : Records) (core : OctetCore)
    → first_outstanding (state_of units core l.self) (flat_map entities_of l.ue-iterator)
    ≡ first_outstanding (state_of units core l.self) (flat_map entities_of l.self.plans)
