use Rattle.std.proofs.Common.{◌-◌, List}
use Rattle.std.specs.Prelude.{Result}
use Rattle.scenario_text.specs.declared.line.OutLine.{OutLine}
use Rattle.run_defs.specs.Events.{pump_times}
use Rattle.run_defs.specs.UnitRuns.{unit_world}
use Rattle.run_links.specs.Networks.{OctetState, state_of}
use Rattle.world_steps.specs.declared.cause.Cause.{Cause}
use Rattle.world_steps.specs.Gives.{EventGives}
use Rattle.world_steps.proofs.control_messages.pumps.pump_times.Given as goal

abbrev pub invariant-loop : goal.invariant-loop
invariant-loop g l = record {
  ready : g.U.Units.ready l.run_state.units;
  rest : (lines : List OutLine) (t : OctetState) (result : Result (Unit {0}) Cause)
      → EventGives l.lines (pump_times (unit_world g.C.MessageCodec.codec g.U.Units.answer) (l.times - l.counter)
      (state_of (g.U.Units.records l.run_state.units) l.run_state.core l.run_state.network)) lines t result
      → EventGives l.initial.lines (pump_times (unit_world g.C.MessageCodec.codec g.U.Units.answer) l.times
      (state_of (g.U.Units.records l.initial.run_state.units) l.initial.run_state.core l.initial.run_state.network)) lines t result;
}
