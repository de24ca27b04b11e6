use Rattle.std.proofs.Common.{◌≡◌, subst, sym, ap, ◌∙◌}
use Rattle.std.specs.Prelude.{Result}
use Rattle.run_links.specs.declared.network.Network.{Network}
use Rattle.run_links.specs.Networks.{state_of}
use Rattle.world_steps.specs.declared.asked.Moved.{Moved}
use Rattle.world_steps.specs.declared.cause.Cause.{Cause}
use Rattle.world_steps.specs.Moves.{StepOutcome}
use Rattle.run_defs.specs.UnitRuns.{unit_world}
use Rattle.world_events.specs.bearers.Places.{offer_done}
use Rattle.world_events.proofs.bearers.Uplink.{offer_fails, offer_holds, offer_is_refused, offer_has_room, offer_steps}
use Rattle.world_events.proofs.bearers.offers.offer_packet.Goals as goal

pub returns-in-Err-clause-gives : goal.returns-in-Err-clause-gives
returns-in-Err-clause-gives g c =
    let records = g.U.Units.records in
    let s = state_of (records c.args.run_state.now.units) c.args.run_state.now.core c.args.run_state.now.network in
    offer_fails g.C.MessageCodec.codec g.U.Units.answer c.args.ue c.args.bearer c.args.packet.now s c.in_ok-input.input (records c.ask.new.self.units)
    c.in_ok-input.ensures (state_of (records c.ask.new.self.units) c.ask.new.self.core c.ask.new.self.network) c.args.lines.now c.in-Err.cause
    c.in-Err.ensures.came

pub finish-requires-clause-room : goal.finish-requires-clause-room
finish-requires-clause-room g c =
    let records = g.U.Units.records in
    let s = state_of (records c.args.run_state.now.units) c.args.run_state.now.core c.args.run_state.now.network in
    offer_has_room g.C.MessageCodec.codec g.U.Units.answer c.args.ue c.args.bearer c.args.packet.now s c.in_ok-input.input (records c.ask.new.self.units)
    c.in_ok-input.ensures c.in-Ok.asked c.in-Does.outputs c.offer.new.self.bag c.in-Does.is c.in-Ok.ensures.came
    (ap (λ (x : Network). x.bag) c.in_ok-offer-in-Does.ensures ∙ ap (λ (x : Network). x.bag) c.ask.ensures.network)

pub returns-in_ok-offer-in-Does-clause-gives : goal.returns-in_ok-offer-in-Does-clause-gives
returns-in_ok-offer-in-Does-clause-gives g c =
    let records = g.U.Units.records in
    let s = state_of (records c.args.run_state.now.units) c.args.run_state.now.core c.args.run_state.now.network in
    let after = records c.ask.new.self.units in
    let u = state_of (records c.finish.new.self.units) c.finish.new.self.core c.finish.new.self.network in
    let kept : record s { units = after } ≡ state_of after c.ask.new.self.core c.ask.new.self.network = cc (c.ask.ensures.core, c.ask.ensures.network) in
    subst (λ (r : Result Moved Cause). StepOutcome
    (offer_done (unit_world g.C.MessageCodec.codec g.U.Units.answer) c.args.ue c.args.bearer c.args.packet.now s)
    (record { state = s; lines = c.args.lines.now }) (record { state = u; lines = c.finish.new.lines }) r) (sym c.moved_by.ensures)
    (offer_steps g.C.MessageCodec.codec g.U.Units.answer c.args.ue c.args.bearer c.args.packet.now s c.in_ok-input.input after c.in_ok-input.ensures
    c.in-Ok.asked c.in-Does.outputs c.ask.new.self.core c.ask.new.self.network c.offer.new.self u c.args.lines.now c.finish.new.lines c.finish.result
    c.in-Does.is c.in-Ok.ensures.came kept c.in_ok-offer-in-Does.ensures c.finish.ensures.gives)

pub returns-in-Holds-clause-gives : goal.returns-in-Holds-clause-gives
returns-in-Holds-clause-gives g c =
    let records = g.U.Units.records in
    let s = state_of (records c.args.run_state.now.units) c.args.run_state.now.core c.args.run_state.now.network in
    let after = records c.ask.new.self.units in
    let kept : record s { units = after } ≡ state_of after c.ask.new.self.core c.ask.new.self.network = cc (c.ask.ensures.core, c.ask.ensures.network) in
    offer_holds g.C.MessageCodec.codec g.U.Units.answer c.args.ue c.args.bearer c.args.packet.now s c.in_ok-input.input after c.in_ok-input.ensures
    c.in-Ok.asked (state_of after c.ask.new.self.core c.ask.new.self.network) c.args.lines.now c.in-Holds.reason c.in-Holds.is c.in-Ok.ensures.came kept

pub returns-in-Refuses-clause-gives : goal.returns-in-Refuses-clause-gives
returns-in-Refuses-clause-gives g c =
    let records = g.U.Units.records in
    let s = state_of (records c.args.run_state.now.units) c.args.run_state.now.core c.args.run_state.now.network in
    let after = records c.ask.new.self.units in
    let kept : record s { units = after } ≡ state_of after c.ask.new.self.core c.ask.new.self.network = cc (c.ask.ensures.core, c.ask.ensures.network) in
    offer_is_refused g.C.MessageCodec.codec g.U.Units.answer c.args.ue c.args.bearer c.args.packet.now s c.in_ok-input.input after c.in_ok-input.ensures
    c.in-Ok.asked (state_of after c.ask.new.self.core c.ask.new.self.network) c.args.lines.now c.in-Refuses.reason c.in-Refuses.is c.in-Ok.ensures.came
    kept
