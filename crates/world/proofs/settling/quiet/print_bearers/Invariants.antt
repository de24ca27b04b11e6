use Rattle.std.proofs.Common.{◌≡◌, ◌++◌, drop}
use Rattle.run_links.specs.Networks.{state_of}
use Rattle.run_links.specs.Told.{printed}
use Rattle.world.specs.settling.Bearers.{lines_of}
use Rattle.world.proofs.settling.quiet.print_bearers.Given as goal

abbrev pub invariant-loop-ue : goal.invariant-loop-ue
invariant-loop-ue g l =
    l.lines ++ printed (lines_of (state_of (g.U.Units.records l.run_state.units) l.run_state.core l.run_state.network) (drop l.ue-index l.bearers))
    ≡ l.fn.lines ++ printed (lines_of (state_of (g.U.Units.records l.run_state.units) l.run_state.core l.run_state.network) l.bearers)
