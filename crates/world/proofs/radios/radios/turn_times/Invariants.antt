use Rattle.std.proofs.Common.{◌-◌}
use Rattle.run_defs.specs.Settling.{turn_times}
use Rattle.run_defs.specs.UnitRuns.{unit_world}
use Rattle.run_links.specs.Networks.{state_of}
use Rattle.world.specs.turns.Turns.{Continues}
use Rattle.world.specs.radios.RadioTurns.{turn_of}
use Rattle.world.proofs.radios.radios.turn_times.Given as goal

abbrev pub invariant-loop : goal.invariant-loop
invariant-loop g l = record {
  ready : g.U.Units.ready l.run_state.units;
  rest : Continues l.fn.lines
      (turn_times (unit_world g.C.MessageCodec.codec g.U.Units.answer) l.times (turn_of l.fn.turn) (state_of (g.U.Units.records l.fn.run_state.units) l.fn.run_state.core l.fn.run_state.network))
      l.lines (turn_times (unit_world g.C.MessageCodec.codec g.U.Units.answer) (l.times - l.counter) (turn_of l.left) (state_of (g.U.Units.records l.run_state.units) l.run_state.core l.run_state.network));
}
