use Rattle.run_links.specs.Networks.{state_of}
use Rattle.world_events.proofs.bearers.Offered.{puts_down, puts_nothing}
use Rattle.world_events.proofs.bearers.offers.offer_down.Goals as goal

pub returns-in_ok-item-in-Ok-clause-gives : goal.returns-in_ok-item-in-Ok-clause-gives
returns-in_ok-item-in-Ok-clause-gives g c =
    let records = g.U.Units.records in
    puts_down g.C.MessageCodec.codec g.U.Units.answer c.args.ue c.args.bearer c.args.packet.now
    (state_of (records c.args.run_state.now.units) c.args.run_state.now.core c.args.run_state.now.network) c.in-Ok.end c.in_ok-item-in-Ok.item
    (state_of (records c.core_puts.new.run_state.units) c.core_puts.new.run_state.core c.core_puts.new.run_state.network) c.args.lines.now c.core_puts.new.lines
    c.core_puts.result c.in-Ok.ensures.end c.in_ok-item-in-Ok.ensures c.core_puts.ensures.gives

pub returns-in_ok-push-in-Err-clause-gives : goal.returns-in_ok-push-in-Err-clause-gives
returns-in_ok-push-in-Err-clause-gives g c =
    let records = g.U.Units.records in
    puts_nothing g.C.MessageCodec.codec g.U.Units.answer c.args.ue c.args.bearer c.args.packet.now
    (state_of (records c.args.run_state.now.units) c.args.run_state.now.core c.args.run_state.now.network) c.in-Err.reason c.args.lines.now c.push.new.self
    c.in-Err.ensures.end c.in_ok-push-in-Err.ensures.ok
