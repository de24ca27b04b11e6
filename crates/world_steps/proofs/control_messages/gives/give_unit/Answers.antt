use Rattle.std.proofs.Common.{sym, ◌∙◌}
use Rattle.run_defs.specs.UnitRuns.{unit_world}
use Rattle.run_links.specs.Networks.{state_of}
use Rattle.world_steps.proofs.control_messages.GivenControlMessages.{unit_lands, unit_moves, unit_stops}
use Rattle.world_steps.proofs.control_messages.gives.give_unit.Goals as goal

pub returns-then-not-takes_control_messages-clause-gives : goal.returns-then-not-takes_control_messages-clause-gives
returns-then-not-takes_control_messages-clause-gives g c l there =
    let codec = g.C.MessageCodec.codec in
    let answer = g.U.Units.answer in
    let units = g.U.Units.records c.args.run_state.now.units in
    unit_lands (unit_world codec answer) c.args.number l c.args.node (state_of units c.args.run_state.now.core c.args.run_state.now.network)
    (state_of units c.args.run_state.now.core c.land.new.self) c.args.lines.now c.land.new.lines
    (sym c.takes_control_messages.ensures ∙ c.if-not-takes_control_messages.true)
    (c.in_ok-land.ensures l there codec answer units c.args.run_state.now.core)

pub returns-in-Err-clause-gives : goal.returns-in-Err-clause-gives
returns-in-Err-clause-gives g c l there =
    let records = g.U.Units.records in
    unit_stops (unit_world g.C.MessageCodec.codec g.U.Units.answer) c.args.number l c.args.node
    (state_of (records c.args.run_state.now.units) c.args.run_state.now.core c.args.run_state.now.network)
    (state_of (records c.give_control_message.new.run_state.units) c.give_control_message.new.run_state.core c.give_control_message.new.run_state.network) c.in-Err.cause c.args.lines.now
    c.give_control_message.new.lines (sym c.takes_control_messages.ensures ∙ c.if-not-takes_control_messages.false) (c.in-Err.ensures.gives l there)

pub returns-clause-gives : goal.returns-clause-gives
returns-clause-gives g c l there =
    let records = g.U.Units.records in
    unit_moves (unit_world g.C.MessageCodec.codec g.U.Units.answer) c.args.number l c.args.node
    (state_of (records c.args.run_state.now.units) c.args.run_state.now.core c.args.run_state.now.network)
    (state_of (records c.give_control_message.new.run_state.units) c.give_control_message.new.run_state.core c.give_control_message.new.run_state.network) c.in-Ok.moved c.args.lines.now
    c.give_control_message.new.lines c.show_refused.new.lines (sym c.takes_control_messages.ensures ∙ c.if-not-takes_control_messages.false) (c.in-Ok.ensures.gives l there)
    c.in_ok-show_refused.ensures
