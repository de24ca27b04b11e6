use Rattle.std.proofs.Common.{sym, ap, subst}
use Rattle.std.specs.Prelude.{is_some}
use Rattle.gnb_types.specs.declared.names.NodeId.{NodeId}
use Rattle.run_defs.specs.Events.{give_to}
use Rattle.run_defs.specs.UnitRuns.{unit_world}
use Rattle.run_links.specs.Networks.{state_of}
use Rattle.world_steps.specs.Gives.{EventGives}
use Rattle.world_steps.proofs.control_messages.GivenControlMessages.{no_control_message, control_message_gives, is_to_unit}
use Rattle.world_steps.proofs.control_messages.gives.give.Goals as goal

pub returns-in-None-clause-gives : goal.returns-in-None-clause-gives
returns-in-None-clause-gives g c =
    no_control_message (unit_world g.C.MessageCodec.codec g.U.Units.answer) c.args.number
    (state_of (g.U.Units.records c.args.run_state.now.units) c.args.run_state.now.core c.args.run_state.now.network) c.args.lines.now c.push.new.self c.in-None.ensures
    c.in_ok-push-in-None.ensures.ok

pub returns-in-Core-clause-gives : goal.returns-in-Core-clause-gives
returns-in-Core-clause-gives g c =
    let records = g.U.Units.records in
    let world = unit_world g.C.MessageCodec.codec g.U.Units.answer in
    let s = state_of (records c.args.run_state.now.units) c.args.run_state.now.core c.args.run_state.now.network in
    let t = state_of (records c.give_core.new.run_state.units) c.give_core.new.run_state.core c.give_core.new.run_state.network in
    let l = c.in-Some.control_message.now in
    control_message_gives world c.args.number l s t c.args.lines.now c.give_core.new.lines c.give_core.result c.in-Some.ensures
    (subst (λ (n : NodeId). EventGives c.args.lines.now (give_to world c.args.number l n s) c.give_core.new.lines t c.give_core.result) (sym c.in-Core.is)
    (c.give_core.ensures.gives l (sym c.in-Some.ensures)))

pub returns-clause-gives : goal.returns-clause-gives
returns-clause-gives g c =
    let records = g.U.Units.records in
    let world = unit_world g.C.MessageCodec.codec g.U.Units.answer in
    let s = state_of (records c.args.run_state.now.units) c.args.run_state.now.core c.args.run_state.now.network in
    let t = state_of (records c.give_unit.new.run_state.units) c.give_unit.new.run_state.core c.give_unit.new.run_state.network in
    let l = c.in-Some.control_message.now in
    control_message_gives world c.args.number l s t c.args.lines.now c.give_unit.new.lines c.give_unit.result c.in-Some.ensures
    (is_to_unit world c.args.number l l.to s t c.args.lines.now c.give_unit.new.lines c.give_unit.result c.in_default.not-Core
    (c.give_unit.ensures.gives l (sym c.in-Some.ensures)))

pub give_unit-requires-clause-there : goal.give_unit-requires-clause-there
give_unit-requires-clause-there g c = ap is_some (sym c.in-Some.ensures)
