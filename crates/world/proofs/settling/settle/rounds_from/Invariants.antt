use Rattle.std.proofs.Common.{◌-◌}
use Rattle.run_defs.specs.Settling.{rounds_from}
use Rattle.run_defs.specs.UnitRuns.{unit_world}
use Rattle.run_links.specs.Networks.{state_of}
use Rattle.world.specs.turns.Turns.{Continues}
use Rattle.world.proofs.settling.settle.rounds_from.Given as goal

abbrev pub invariant-loop-rounds : goal.invariant-loop-rounds
invariant-loop-rounds g l = record {
  ready : g.U.Units.ready l.run_state.units;
  rest : Continues l.fn.lines
      (rounds_from (unit_world g.C.MessageCodec.codec g.U.Units.answer) 0 l.limit
      (state_of (g.U.Units.records l.fn.run_state.units) l.fn.run_state.core l.fn.run_state.network))
      l.lines
      (rounds_from (unit_world g.C.MessageCodec.codec g.U.Units.answer) l.rounds (l.limit - l.rounds)
      (state_of (g.U.Units.records l.run_state.units) l.run_state.core l.run_state.network));
}
