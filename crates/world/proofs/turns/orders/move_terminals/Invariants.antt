use Rattle.std.proofs.Common.{drop}
use Rattle.run_defs.specs.UnitRuns.{unit_world}
use Rattle.run_links.specs.Networks.{state_of}
use Rattle.world.specs.turns.Turns.{Continues, move_terminals}
use Rattle.world.proofs.turns.orders.move_terminals.Given as goal

abbrev pub invariant-loop-ue : goal.invariant-loop-ue
invariant-loop-ue g l = record {
  ready : g.U.Units.ready l.run_state.units;
  rest : Continues l.fn.lines
      (move_terminals (unit_world g.C.MessageCodec.codec g.U.Units.answer) l.terminals (state_of (g.U.Units.records l.fn.run_state.units) l.fn.run_state.core l.fn.run_state.network))
      l.lines (move_terminals (unit_world g.C.MessageCodec.codec g.U.Units.answer) (drop l.ue-index l.terminals) (state_of (g.U.Units.records l.run_state.units) l.run_state.core l.run_state.network));
}
