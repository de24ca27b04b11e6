use Rattle.std.proofs.Common.{◌∙◌}
use Rattle.run_defs.specs.UnitRuns.{unit_world}
use Rattle.run_links.specs.Networks.{state_of}
use Rattle.world_steps.proofs.control_messages.NodeTurns.{ticks}
use Rattle.world_steps.proofs.control_messages.turns.tick.Goals as goal

pub returns-clause-gives : goal.returns-clause-gives
returns-clause-gives g c =
    let records = g.U.Units.records in
    ticks (unit_world g.C.MessageCodec.codec g.U.Units.answer)
    (state_of (records c.args.run_state.now.units) c.args.run_state.now.core c.args.run_state.now.network)
    (state_of (records c.tick_each.new.run_state.units) c.tick_each.new.run_state.core c.tick_each.new.run_state.network) c.as_slice.result.now c.args.lines.now
    c.tick_each.new.lines c.tick_each.result (c.as_slice.ensures ∙ c.in_ok-nodes.ensures) c.tick_each.ensures.gives
