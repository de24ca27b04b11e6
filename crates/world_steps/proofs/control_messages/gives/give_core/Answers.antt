use Rattle.std.proofs.Common.{◌≡◌, length, sym, ap, ◌∙◌}
use Rattle.std.specs.Prelude.{is_some}
use Rattle.gnb_types.specs.declared.names.NodeId.TheVariants.{Core}
use Rattle.run_defs.specs.States.{control_message_for}
use Rattle.run_defs.specs.Events.{give_to}
use Rattle.run_defs.specs.UnitRuns.{core_answer, unit_world}
use Rattle.run_links.specs.Networks.{state_of}
use Rattle.world_steps.proofs.control_messages.GivenControlMessages.{control_messages_stay, room_for, core_moves, core_has_no_room, core_stops}
use Rattle.world_steps.proofs.control_messages.gives.give_core.Goals as goal

pub land-requires : goal.land-requires
land-requires g c = ap is_some (sym c.in-Some.ensures)

pub finish-requires-clause-room : goal.finish-requires-clause-room
finish-requires-clause-room g c =
    let codec = g.C.MessageCodec.codec in
    let answer = g.U.Units.answer in
    let units = g.U.Units.records c.args.run_state.now.units in
    let world = unit_world codec answer in
    let stay =
    control_messages_stay codec answer units c.args.run_state.now.core c.args.run_state.now.network c.land.new.self c.args.number c.in-Some.control_message.now c.args.lines.now
    c.land.new.lines (c.in_ok-land.ensures c.in-Some.control_message.now (sym c.in-Some.ensures) codec answer units c.args.run_state.now.core) in
    room_for world (state_of units c.args.run_state.now.core c.args.run_state.now.network) (length c.land.new.self.bag.control_messages) c.in-Ok.outputs stay
    (sym (c.too_many_control_messages.ensures world units c.args.run_state.now.core) ∙ c.if-too_many_control_messages.false)

pub returns-in-Err-clause-gives : goal.returns-in-Err-clause-gives
returns-in-Err-clause-gives g c l there =
    let world = unit_world g.C.MessageCodec.codec g.U.Units.answer in
    let s = state_of (g.U.Units.records c.args.run_state.now.units) c.args.run_state.now.core c.args.run_state.now.network in
    let shown = c.in-Some.control_message.now in
    core_stops (core_answer g.C.MessageCodec.codec c.args.run_state.now.core (control_message_for shown.from shown.message)) c.core_outputs-put.new.core
    (give_to world c.args.number l Core s) c.args.lines.now c.args.lines.now s c.in-Err.cause c.in-Err.ensures

pub returns-then-too_many_control_messages-clause-gives : goal.returns-then-too_many_control_messages-clause-gives
returns-then-too_many_control_messages-clause-gives g c l there =
    let codec = g.C.MessageCodec.codec in
    let answer = g.U.Units.answer in
    let units = g.U.Units.records c.args.run_state.now.units in
    let s = state_of units c.args.run_state.now.core c.args.run_state.now.network in
    let shown = c.in-Some.control_message.now in
    let same : shown ≡ l = cc (c.in-Some.ensures, there) in
    core_has_no_room codec answer s c.args.number shown l c.in-Ok.outputs c.core_outputs-put.new.core
    (state_of units c.core_outputs-put.new.core c.args.run_state.now.network) c.args.lines.now same c.in-Ok.ensures
    (sym (c.too_many_control_messages.ensures (unit_world codec answer) units c.args.run_state.now.core) ∙ c.if-too_many_control_messages.true)

pub returns-clause-gives : goal.returns-clause-gives
returns-clause-gives g c l there =
    let codec = g.C.MessageCodec.codec in
    let answer = g.U.Units.answer in
    let records = g.U.Units.records in
    let units = records c.args.run_state.now.units in
    let s = state_of units c.args.run_state.now.core c.args.run_state.now.network in
    let shown = c.in-Some.control_message.now in
    let same : shown ≡ l = cc (c.in-Some.ensures, there) in
    let after = c.core_outputs-put.new.core in
    core_moves codec answer s c.args.number shown l c.in-Ok.outputs after (state_of units after c.land.new.self)
    (state_of (records c.finish.new.self.units) c.finish.new.self.core c.finish.new.self.network) c.args.lines.now c.land.new.lines c.finish.new.lines
    c.finish.result same c.in-Ok.ensures
    (sym (c.too_many_control_messages.ensures (unit_world codec answer) units c.args.run_state.now.core) ∙ c.if-too_many_control_messages.false)
    (c.in_ok-land.ensures shown (sym c.in-Some.ensures) codec answer units after) c.finish.ensures.gives
