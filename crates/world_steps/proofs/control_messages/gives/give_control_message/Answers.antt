use Rattle.std.proofs.Common.{◌≡◌, false, nat_lt, length, ◌+◌, Some, sym, ap, subst}
use Rattle.std.specs.Prelude.{Ok, IsSome, is_some}
use Rattle.transport_defs.specs.Links.{control_message, most_control_messages}
use Rattle.run_defs.specs.Events.{landed_as}
use Rattle.run_defs.specs.UnitRuns.{stepped_by, unit_world}
use Rattle.run_links.specs.declared.network.Network.{Network}
use Rattle.run_links.specs.Networks.{OctetState, state_of, control_messages_in}
use Rattle.run_links.specs.Told.{GoesTo}
use Rattle.world_steps.specs.declared.asked.Asked.{Asked}
use Rattle.world_steps.specs.Asks.{ComesOf}
use Rattle.world_steps.proofs.control_messages.GivenControlMessages.{control_messages_stay, still_room, control_message_steps, control_message_holds, control_message_is_refused, control_message_fails}
use Rattle.world_steps.proofs.control_messages.gives.give_control_message.Goals as goal

pub returns-in-Err-clause-gives : goal.returns-in-Err-clause-gives
returns-in-Err-clause-gives g c l there =
    let records = g.U.Units.records in
    let s = state_of (records c.args.run_state.now.units) c.args.run_state.now.core c.args.run_state.now.network in
    let after = records c.ask.new.self.units in
    let shown = c.in-Some.control_message.now in
    let same : shown ≡ l = cc (c.in-Some.ensures, there) in
    control_message_fails g.C.MessageCodec.codec g.U.Units.answer s (state_of after c.ask.new.self.core c.ask.new.self.network) c.args.node c.args.number shown l
    c.in_ok-input-in-Some.input after c.in-Err.cause c.args.lines.now same c.in_ok-input-in-Some.ensures c.in-Err.ensures.came

pub land-requires : goal.land-requires
land-requires g c =
    subst (λ (x : Network). IsSome (control_message x.bag c.args.number)) (sym c.ask.ensures.network) (ap is_some (sym c.in-Some.ensures))

pub finish-requires-clause-room : goal.finish-requires-clause-room
finish-requires-clause-room g c =
    let codec = g.C.MessageCodec.codec in
    let answer = g.U.Units.answer in
    let records = g.U.Units.records in
    let s = state_of (records c.args.run_state.now.units) c.args.run_state.now.core c.args.run_state.now.network in
    let shown = c.in-Some.control_message.now in
    let came =
    subst (λ (a : Asked). ComesOf (record {
      world = unit_world codec answer;
      state = s;
      node = c.args.node;
      stepped = stepped_by (answer s.units c.args.node c.in_ok-input-in-Some.input);
    }) (records c.ask.new.self.units) (Ok a)) c.in-Does.is c.in-Ok.ensures.came in
    let there : control_message c.ask.new.self.network.bag c.args.number ≡ Some shown =
    subst (λ (x : Network). control_message x.bag c.args.number ≡ Some shown) (sym c.ask.ensures.network) (sym c.in-Some.ensures) in
    let stay =
    control_messages_stay codec answer s.units c.args.run_state.now.core c.ask.new.self.network c.land.new.self c.args.number shown c.args.lines.now c.land.new.lines
    (c.in_ok-land-in-Does.ensures shown there codec answer s.units c.args.run_state.now.core) in
    let room : nat_lt most_control_messages (length c.ask.new.self.network.bag.control_messages + control_messages_in c.in-Does.outputs) ≡ false =
    subst (λ (x : Network). nat_lt most_control_messages (length x.bag.control_messages + control_messages_in c.in-Does.outputs) ≡ false) (sym c.ask.ensures.network) came.0 in
    still_room (length c.ask.new.self.network.bag.control_messages) (length c.land.new.self.bag.control_messages) c.in-Does.outputs stay room

pub returns-in_ok-land-in-Does-clause-gives : goal.returns-in_ok-land-in-Does-clause-gives
returns-in_ok-land-in-Does-clause-gives g c l there =
    let codec = g.C.MessageCodec.codec in
    let answer = g.U.Units.answer in
    let world = unit_world codec answer in
    let records = g.U.Units.records in
    let s = state_of (records c.args.run_state.now.units) c.args.run_state.now.core c.args.run_state.now.network in
    let after = records c.ask.new.self.units in
    let shown = c.in-Some.control_message.now in
    let same : shown ≡ l = cc (c.in-Some.ensures, there) in
    let kept : record s { units = after } ≡ state_of after c.ask.new.self.core c.ask.new.self.network = cc (c.ask.ensures.core, c.ask.ensures.network) in
    let stands : control_message c.ask.new.self.network.bag c.args.number ≡ Some shown =
    subst (λ (x : Network). control_message x.bag c.args.number ≡ Some shown) (sym c.ask.ensures.network) (sym c.in-Some.ensures) in
    let t = state_of after c.ask.new.self.core c.land.new.self in
    let u = state_of (records c.finish.new.self.units) c.finish.new.self.core c.finish.new.self.network in
    let takes : GoesTo c.args.lines.now (landed_as world c.args.number shown (record s { units = after })) c.land.new.lines t =
    subst (λ (x : OctetState). GoesTo c.args.lines.now (landed_as world c.args.number shown x) c.land.new.lines t) (sym kept)
    (c.in_ok-land-in-Does.ensures shown stands codec answer after c.ask.new.self.core) in
    control_message_steps codec answer s c.args.node c.args.number shown l c.in_ok-input-in-Some.input after c.in-Ok.asked c.in-Does.outputs t u
    c.args.lines.now c.land.new.lines c.finish.new.lines c.finish.result c.moved_by.result same c.in_ok-input-in-Some.ensures c.in-Does.is
    c.in-Ok.ensures.came takes c.finish.ensures.gives c.moved_by.ensures

pub returns-in-Holds-clause-gives : goal.returns-in-Holds-clause-gives
returns-in-Holds-clause-gives g c l there =
    let records = g.U.Units.records in
    let s = state_of (records c.args.run_state.now.units) c.args.run_state.now.core c.args.run_state.now.network in
    let after = records c.ask.new.self.units in
    let shown = c.in-Some.control_message.now in
    let same : shown ≡ l = cc (c.in-Some.ensures, there) in
    let new = state_of after c.ask.new.self.core c.ask.new.self.network in
    let kept : record s { units = after } ≡ new = cc (c.ask.ensures.core, c.ask.ensures.network) in
    control_message_holds g.C.MessageCodec.codec g.U.Units.answer s c.args.node c.args.number shown l c.in_ok-input-in-Some.input after c.in-Ok.asked new
    c.in-Holds.reason c.args.lines.now same c.in_ok-input-in-Some.ensures c.in-Holds.is c.in-Ok.ensures.came kept

pub returns-in-Refuses-clause-gives : goal.returns-in-Refuses-clause-gives
returns-in-Refuses-clause-gives g c l there =
    let records = g.U.Units.records in
    let s = state_of (records c.args.run_state.now.units) c.args.run_state.now.core c.args.run_state.now.network in
    let after = records c.ask.new.self.units in
    let shown = c.in-Some.control_message.now in
    let same : shown ≡ l = cc (c.in-Some.ensures, there) in
    let new = state_of after c.ask.new.self.core c.ask.new.self.network in
    let kept : record s { units = after } ≡ new = cc (c.ask.ensures.core, c.ask.ensures.network) in
    control_message_is_refused g.C.MessageCodec.codec g.U.Units.answer s c.args.node c.args.number shown l c.in_ok-input-in-Some.input after c.in-Ok.asked
    new c.in-Refuses.reason c.args.lines.now same c.in_ok-input-in-Some.ensures c.in-Refuses.is c.in-Ok.ensures.came kept
