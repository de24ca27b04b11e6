use Rattle.std.proofs.Common.{◌≡◌, drop}
use Rattle.run_links.specs.Networks.{state_of}
use Rattle.world.specs.settling.Bearers.{are_quiet}
use Rattle.world.proofs.settling.quiet.are_quiet.Given as goal

abbrev pub invariant-loop-ue : goal.invariant-loop-ue
invariant-loop-ue g l =
    are_quiet (state_of (g.U.Units.records l.run_state.units) l.run_state.core l.run_state.network) (drop l.ue-index l.bearers)
    ≡ are_quiet (state_of (g.U.Units.records l.run_state.units) l.run_state.core l.run_state.network) l.bearers
