use Rattle.run_defs.specs.UnitRuns.{unit_world}
use Rattle.run_links.specs.Networks.{state_of}
use Rattle.world_steps.specs.Gives.{stop_by}
use Rattle.world_steps.proofs.Shown.{shows_refused, refused_stops}
use Rattle.world_events.specs.bearers.Places.{offer_done}
use Rattle.world_events.proofs.bearers.offers.offer_up.Goals as goal

pub returns-in-Err-clause-gives : goal.returns-in-Err-clause-gives
returns-in-Err-clause-gives g c =
    let world = unit_world g.C.MessageCodec.codec g.U.Units.answer in
    let records = g.U.Units.records in
    let s = state_of (records c.args.run_state.now.units) c.args.run_state.now.core c.args.run_state.now.network in
    let t = state_of (records c.offer_packet.new.run_state.units) c.offer_packet.new.run_state.core c.offer_packet.new.run_state.network in
    refused_stops world s t (offer_done world c.args.ue c.args.bearer c.args.packet.now s) (stop_by c.in-Err.cause) c.args.lines.now
    c.offer_packet.new.lines c.in-Err.ensures.gives

pub returns-clause-gives : goal.returns-clause-gives
returns-clause-gives g c =
    let world = unit_world g.C.MessageCodec.codec g.U.Units.answer in
    let records = g.U.Units.records in
    let s = state_of (records c.args.run_state.now.units) c.args.run_state.now.core c.args.run_state.now.network in
    let t = state_of (records c.offer_packet.new.run_state.units) c.offer_packet.new.run_state.core c.offer_packet.new.run_state.network in
    shows_refused world s t (offer_done world c.args.ue c.args.bearer c.args.packet.now s) c.in-Ok.moved c.args.lines.now c.offer_packet.new.lines
    c.show_refused.new.lines c.in-Ok.ensures.gives c.in_ok-show_refused.ensures
