use Rattle.std.proofs.Common.{◌≡◌, ◌+◌, drop}
use Rattle.run_defs.specs.UnitRuns.{Records}
use Rattle.run_links.specs.Networks.{OctetWorld, OctetCore, state_of}
use Rattle.world.specs.settling.Bearers.{undelivered_of}
use Rattle.world.proofs.settling.limit.all_undelivered.Given as goal

abbrev pub invariant-loop-ue : goal.invariant-loop-ue
invariant-loop-ue l = (world : OctetWorld) (units : Records) (core : OctetCore)
    → l.packets + undelivered_of world (state_of units core l.network) (drop l.ue-index l.bearers)
    ≡ undelivered_of world (state_of units core l.network) l.bearers
