use Rattle.std.proofs.Common.{drop}
use Rattle.run_defs.specs.Settling.{poll_each}
use Rattle.run_defs.specs.UnitRuns.{unit_world}
use Rattle.run_links.specs.Networks.{state_of}
use Rattle.world.specs.turns.Turns.{Continues}
use Rattle.world.proofs.turns.orders.poll_bearers.Given as goal

abbrev pub invariant-loop-bearer : goal.invariant-loop-bearer
invariant-loop-bearer g l = record {
  ready : g.U.Units.ready l.run_state.units;
  rest : Continues l.fn.lines
      (poll_each (unit_world g.C.MessageCodec.codec g.U.Units.answer) l.bearers (state_of (g.U.Units.records l.fn.run_state.units) l.fn.run_state.core l.fn.run_state.network))
      l.lines (poll_each (unit_world g.C.MessageCodec.codec g.U.Units.answer) (drop l.bearer-index l.bearers) (state_of (g.U.Units.records l.run_state.units) l.run_state.core l.run_state.network));
}
