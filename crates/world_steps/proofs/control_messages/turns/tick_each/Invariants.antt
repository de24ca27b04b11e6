use Rattle.std.proofs.Common.{List, drop}
use Rattle.std.specs.Prelude.{Result}
use Rattle.scenario_text.specs.declared.line.OutLine.{OutLine}
use Rattle.run_defs.specs.States.{tick_for}
use Rattle.run_defs.specs.Steps.{step}
use Rattle.run_defs.specs.Events.{order_each}
use Rattle.run_defs.specs.UnitRuns.{unit_world}
use Rattle.run_links.specs.Networks.{OctetState, state_of}
use Rattle.world_steps.specs.declared.cause.Cause.{Cause}
use Rattle.world_steps.specs.Gives.{EventGives}
use Rattle.world_steps.proofs.control_messages.turns.tick_each.Given as goal

abbrev pub invariant-loop-node : goal.invariant-loop-node
invariant-loop-node g l =
    let world = unit_world g.C.MessageCodec.codec g.U.Units.answer in
    record {
      ready : g.U.Units.ready l.run_state.units;
      rest : (lines : List OutLine) (t : OctetState) (result : Result (Unit {0}) Cause)
          → EventGives l.lines (order_each world (λ node. step world node (tick_for)) (drop l.node-index l.nodes)
          (state_of (g.U.Units.records l.run_state.units) l.run_state.core l.run_state.network)) lines t result
          → EventGives l.initial.lines (order_each world (λ node. step world node (tick_for)) l.nodes
          (state_of (g.U.Units.records l.initial.run_state.units) l.initial.run_state.core l.initial.run_state.network)) lines t result;
    }
