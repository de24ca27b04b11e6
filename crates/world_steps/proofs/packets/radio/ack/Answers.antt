use Rattle.run_defs.specs.UnitRuns.{unit_world}
use Rattle.run_links.specs.Networks.{state_of}
use Rattle.world_steps.proofs.packets.Aired.{ack_refuses, ack_empty, ack_moves, ack_stops}
use Rattle.world_steps.proofs.packets.radio.ack.Goals as goal

pub returns-in-Err-clause-gives : goal.returns-in-Err-clause-gives
returns-in-Err-clause-gives g c =
    ack_refuses (unit_world g.C.MessageCodec.codec g.U.Units.answer) c.args.key (state_of (g.U.Units.records c.args.run_state.now.units) c.args.run_state.now.core c.args.run_state.now.network) c.in-Err.reason c.args.lines.now c.push.new.self
    c.in-Err.ensures c.in_ok-push-in-Err.ensures.ok

pub returns-in-None-clause-gives : goal.returns-in-None-clause-gives
returns-in-None-clause-gives g c =
    ack_empty (unit_world g.C.MessageCodec.codec g.U.Units.answer) c.args.key (state_of (g.U.Units.records c.args.run_state.now.units) c.args.run_state.now.core c.args.run_state.now.network) c.in-Ok.home c.args.lines.now c.push-in-None.new.self
    c.in-Ok.ensures c.in-None.ensures c.in_ok-push.ensures.ok

pub returns-in-Err-ack_item-clause-gives : goal.returns-in-Err-ack_item-clause-gives
returns-in-Err-ack_item-clause-gives g c =
    ack_stops (unit_world g.C.MessageCodec.codec g.U.Units.answer) c.args.key (state_of (g.U.Units.records c.args.run_state.now.units) c.args.run_state.now.core c.args.run_state.now.network)
    (state_of (g.U.Units.records c.ack_item.new.run_state.units) c.ack_item.new.run_state.core c.ack_item.new.run_state.network) c.in-Ok.home c.in_default.field-0.now c.in-Err-ack_item.cause c.args.lines.now c.ack_item.new.lines
    c.in-Ok.ensures c.in_default.ensures c.in-Err-ack_item.ensures.gives

pub returns-clause-gives : goal.returns-clause-gives
returns-clause-gives g c =
    ack_moves (unit_world g.C.MessageCodec.codec g.U.Units.answer) c.args.key (state_of (g.U.Units.records c.args.run_state.now.units) c.args.run_state.now.core c.args.run_state.now.network)
    (state_of (g.U.Units.records c.ack_item.new.run_state.units) c.ack_item.new.run_state.core c.ack_item.new.run_state.network) c.in-Ok.home c.in_default.field-0.now c.in-Ok-ack_item.moved c.args.lines.now c.ack_item.new.lines c.show_refused.new.lines
    c.in-Ok.ensures c.in_default.ensures c.in-Ok-ack_item.ensures.gives c.in_ok-show_refused.ensures
