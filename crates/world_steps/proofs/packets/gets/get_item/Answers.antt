use Rattle.std.proofs.Common.{◌≡◌, ◌+◌, ◌∷◌, Some, false, nat_lt, length, sym, ◌∙◌, ap, subst}
use Rattle.std.specs.Prelude.{Result, Ok, Err, IsOk, is_ok}
use Rattle.gnb_types.specs.declared.inputs.Input.{Input}
use Rattle.gnb_types.specs.Orders.{tunnel_cmp}
use Rattle.tables.specs.Tables.{find}
use Rattle.transport_defs.specs.declared.Item.{Item}
use Rattle.transport_defs.specs.Links.{Bag, most_control_messages}
use Rattle.run_defs.specs.States.{item_for}
use Rattle.run_defs.specs.Events.{taken_off, get_done}
use Rattle.run_defs.specs.UnitRuns.{input_of, stepped_by, unit_world}
use Rattle.run_links.specs.declared.network.Network.{Network}
use Rattle.run_links.specs.Networks.{Octets, OctetState, state_of, control_messages_in}
use Rattle.run_links.specs.Told.{GoesTo, oldest_in}
use Rattle.world_steps.specs.declared.asked.Asked.{Asked}
use Rattle.world_steps.specs.declared.asked.Asked.TheVariants as kinds
use Rattle.world_steps.specs.declared.asked.Moved.{Moved}
use Rattle.world_steps.specs.declared.asked.Moved.TheVariants as moves
use Rattle.world_steps.specs.declared.cause.Cause.{Cause}
use Rattle.world_steps.specs.Asks.{ComesOf}
use Rattle.world_steps.specs.Moves.{StepOutcome}
use Rattle.world_steps.proofs.Does.{does_step, does_hold, does_refuse, does_fail}
use Rattle.world_steps.proofs.packets.Got.{oldest_is}
use Rattle.world_steps.proofs.packets.gets.get_item.Goals as goal

pub returns-in-Err-ask-clause-gives : goal.returns-in-Err-ask-clause-gives
returns-in-Err-ask-clause-gives g c item rest there =
    let codec = g.C.MessageCodec.codec in
    let answer = g.U.Units.answer in
    let world = unit_world codec answer in
    let records = g.U.Units.records in
    let s = state_of (records c.args.run_state.now.units) c.args.run_state.now.core c.args.run_state.now.network in
    let after = records c.ask.new.self.units in
    let shown = c.in-Ok.item.now in
    let same : shown ≡ item = oldest_is (find tunnel_cmp c.args.run_state.now.network.tunnels.tunnels c.args.end) shown item rest c.in-Ok.ensures there in
    let given = item_for c.args.end.teid shown in
    let came : ComesOf (record { world = world; state = s; node = c.args.end.node; stepped = stepped_by (answer s.units c.args.end.node (input_of given)) })
    after (Err c.in-Err-ask.cause) =
    subst (λ (i : Input). ComesOf (record { world = world; state = s; node = c.args.end.node; stepped = stepped_by (answer s.units c.args.end.node i) })
    after (Err c.in-Err-ask.cause)) c.in_ok-packet_input-in-Ok.ensures (c.in-Err-ask.ensures.came) in
    let new = state_of after c.ask.new.self.core c.ask.new.self.network in
    subst (λ (x : Item Octets). StepOutcome (get_done world c.args.end x rest s) (record { state = s; lines = c.args.lines.now })
    (record { state = new; lines = c.args.lines.now }) (Err c.in-Err-ask.cause)) same
    (does_fail codec answer s c.args.end.node given shown.count (taken_off world c.args.end shown rest) after new c.args.lines.now c.in-Err-ask.cause came)

pub take_off-requires : goal.take_off-requires
take_off-requires g c =
    subst (λ (x : Network). IsOk (oldest_in (find tunnel_cmp x.tunnels.tunnels c.args.end))) (sym c.ask.ensures.network) (ap is_ok c.in-Ok.ensures)

pub finish-requires-clause-room : goal.finish-requires-clause-room
finish-requires-clause-room g c =
    let records = g.U.Units.records in
    let s = state_of (records c.args.run_state.now.units) c.args.run_state.now.core c.args.run_state.now.network in
    let came =
    subst (λ (a : Asked). ComesOf (record {
      world = unit_world g.C.MessageCodec.codec g.U.Units.answer;
      state = s;
      node = c.args.end.node;
      stepped = stepped_by (g.U.Units.answer s.units c.args.end.node c.in_ok-packet_input-in-Ok.field-0);
    }) (records c.ask.new.self.units) (Ok a))
    c.in-Does.is c.in-Ok-ask.ensures.came in
    let bag : c.take_off.new.self.bag ≡ c.args.run_state.now.network.bag =
    c.take_off.ensures.bag ∙ ap (λ (x : Network). x.bag) c.ask.ensures.network in
    subst (λ (b : Bag Octets). nat_lt most_control_messages (length b.control_messages + control_messages_in c.in-Does.outputs) ≡ false) (sym bag) came.0

pub returns-in_ok-take_off-in-Does-clause-gives : goal.returns-in_ok-take_off-in-Does-clause-gives
returns-in_ok-take_off-in-Does-clause-gives g c item rest there =
    let codec = g.C.MessageCodec.codec in
    let answer = g.U.Units.answer in
    let world = unit_world codec answer in
    let records = g.U.Units.records in
    let s = state_of (records c.args.run_state.now.units) c.args.run_state.now.core c.args.run_state.now.network in
    let after = records c.ask.new.self.units in
    let shown = c.in-Ok.item.now in
    let same : shown ≡ item = oldest_is (find tunnel_cmp c.args.run_state.now.network.tunnels.tunnels c.args.end) shown item rest c.in-Ok.ensures there in
    let given = item_for c.args.end.teid shown in
    let came : ComesOf (record { world = world; state = s; node = c.args.end.node; stepped = stepped_by (answer s.units c.args.end.node (input_of given)) })
    after (Ok (kinds.Does c.in-Does.outputs)) =
    subst (λ (i : Input). ComesOf (record { world = world; state = s; node = c.args.end.node; stepped = stepped_by (answer s.units c.args.end.node i) })
    after (Ok (kinds.Does c.in-Does.outputs))) c.in_ok-packet_input-in-Ok.ensures (subst (λ (a : Asked). ComesOf (record {
      world = world;
      state = s;
      node = c.args.end.node;
      stepped = stepped_by (answer s.units c.args.end.node
          c.in_ok-packet_input-in-Ok.field-0);
    }) after (Ok a)) c.in-Does.is c.in-Ok-ask.ensures.came) in
    let kept : record s { units = after } ≡ state_of after c.ask.new.self.core c.ask.new.self.network = cc (c.ask.ensures.core, c.ask.ensures.network) in
    let stands : find tunnel_cmp c.ask.new.self.network.tunnels.tunnels c.args.end ≡ Some (shown ∷ rest) =
    subst (λ (x : Network). find tunnel_cmp x.tunnels.tunnels c.args.end ≡ Some (shown ∷ rest)) (sym c.ask.ensures.network)
    (there ∙ ap (λ (x : Item Octets). Some (x ∷ rest)) (sym same)) in
    let t = state_of after c.ask.new.self.core c.take_off.new.self in
    let u = state_of (records c.finish.new.self.units) c.finish.new.self.core c.finish.new.self.network in
    let takes : GoesTo c.args.lines.now (taken_off world c.args.end shown rest (record s { units = after })) c.take_off.new.lines t =
    subst (λ (x : OctetState). GoesTo c.args.lines.now (taken_off world c.args.end shown rest x) c.take_off.new.lines t) (sym kept)
    (c.in_ok-take_off-in-Does.ensures.told shown rest stands codec answer after c.ask.new.self.core) in
    subst (λ (x : Item Octets). StepOutcome (get_done world c.args.end x rest s) (record { state = s; lines = c.args.lines.now })
    (record { state = u; lines = c.finish.new.lines }) (c.moved_by.result)) same
    (subst (λ (r : Result Moved Cause). StepOutcome (get_done world c.args.end shown rest s) (record { state = s; lines = c.args.lines.now })
    (record { state = u; lines = c.finish.new.lines }) r) (sym c.moved_by.ensures)
    (does_step codec answer s c.args.end.node given shown.count (taken_off world c.args.end shown rest) c.in-Does.outputs after t u c.args.lines.now
    c.take_off.new.lines c.finish.new.lines c.finish.result came takes c.finish.ensures.gives))

pub returns-in-Holds-clause-gives : goal.returns-in-Holds-clause-gives
returns-in-Holds-clause-gives g c item rest there =
    let codec = g.C.MessageCodec.codec in
    let answer = g.U.Units.answer in
    let world = unit_world codec answer in
    let records = g.U.Units.records in
    let s = state_of (records c.args.run_state.now.units) c.args.run_state.now.core c.args.run_state.now.network in
    let after = records c.ask.new.self.units in
    let shown = c.in-Ok.item.now in
    let same : shown ≡ item = oldest_is (find tunnel_cmp c.args.run_state.now.network.tunnels.tunnels c.args.end) shown item rest c.in-Ok.ensures there in
    let given = item_for c.args.end.teid shown in
    let came : ComesOf (record { world = world; state = s; node = c.args.end.node; stepped = stepped_by (answer s.units c.args.end.node (input_of given)) })
    after (Ok (kinds.Holds c.in-Holds.reason)) =
    subst (λ (i : Input). ComesOf (record { world = world; state = s; node = c.args.end.node; stepped = stepped_by (answer s.units c.args.end.node i) })
    after (Ok (kinds.Holds c.in-Holds.reason))) c.in_ok-packet_input-in-Ok.ensures (subst (λ (a : Asked). ComesOf (record {
      world = world;
      state = s;
      node = c.args.end.node;
      stepped = stepped_by (answer s.units c.args.end.node
          c.in_ok-packet_input-in-Ok.field-0);
    }) after (Ok a)) c.in-Holds.is c.in-Ok-ask.ensures.came) in
    let kept : record s { units = after } ≡ state_of after c.ask.new.self.core c.ask.new.self.network = cc (c.ask.ensures.core, c.ask.ensures.network) in
    let new = state_of after c.ask.new.self.core c.ask.new.self.network in
    subst (λ (x : Item Octets). StepOutcome (get_done world c.args.end x rest s) (record { state = s; lines = c.args.lines.now })
    (record { state = new; lines = c.args.lines.now }) (Ok (moves.Holds c.in-Holds.reason))) same
    (subst (λ (x : OctetState). StepOutcome (get_done world c.args.end shown rest s) (record { state = s; lines = c.args.lines.now })
    (record { state = x; lines = c.args.lines.now }) (Ok (moves.Holds c.in-Holds.reason))) kept
    (does_hold codec answer s c.args.end.node given shown.count (taken_off world c.args.end shown rest) after c.in-Holds.reason c.args.lines.now came))

pub returns-in-Refuses-clause-gives : goal.returns-in-Refuses-clause-gives
returns-in-Refuses-clause-gives g c item rest there =
    let codec = g.C.MessageCodec.codec in
    let answer = g.U.Units.answer in
    let world = unit_world codec answer in
    let records = g.U.Units.records in
    let s = state_of (records c.args.run_state.now.units) c.args.run_state.now.core c.args.run_state.now.network in
    let after = records c.ask.new.self.units in
    let shown = c.in-Ok.item.now in
    let same : shown ≡ item = oldest_is (find tunnel_cmp c.args.run_state.now.network.tunnels.tunnels c.args.end) shown item rest c.in-Ok.ensures there in
    let given = item_for c.args.end.teid shown in
    let came : ComesOf (record { world = world; state = s; node = c.args.end.node; stepped = stepped_by (answer s.units c.args.end.node (input_of given)) })
    after (Ok (kinds.Refuses c.in-Refuses.reason)) =
    subst (λ (i : Input). ComesOf (record { world = world; state = s; node = c.args.end.node; stepped = stepped_by (answer s.units c.args.end.node i) })
    after (Ok (kinds.Refuses c.in-Refuses.reason))) c.in_ok-packet_input-in-Ok.ensures (subst (λ (a : Asked). ComesOf (record {
      world = world;
      state = s;
      node = c.args.end.node;
      stepped = stepped_by (answer s.units c.args.end.node
          c.in_ok-packet_input-in-Ok.field-0);
    }) after (Ok a)) c.in-Refuses.is c.in-Ok-ask.ensures.came) in
    let kept : record s { units = after } ≡ state_of after c.ask.new.self.core c.ask.new.self.network = cc (c.ask.ensures.core, c.ask.ensures.network) in
    let new = state_of after c.ask.new.self.core c.ask.new.self.network in
    subst (λ (x : Item Octets). StepOutcome (get_done world c.args.end x rest s) (record { state = s; lines = c.args.lines.now })
    (record { state = new; lines = c.args.lines.now }) (Ok (moves.Refuses c.in-Refuses.reason))) same
    (subst (λ (x : OctetState). StepOutcome (get_done world c.args.end shown rest s) (record { state = s; lines = c.args.lines.now })
    (record { state = x; lines = c.args.lines.now }) (Ok (moves.Refuses c.in-Refuses.reason))) kept
    (does_refuse codec answer s c.args.end.node given shown.count (taken_off world c.args.end shown rest) after c.in-Refuses.reason c.args.lines.now came))
