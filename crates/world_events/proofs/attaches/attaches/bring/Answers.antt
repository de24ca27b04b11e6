use Rattle.std.proofs.Common.{◌≡◌, ◌+◌, None, false, nat_lt, length, sym, ◌∙◌, ap, subst}
use Rattle.std.specs.Prelude.{Result, Ok}
use Rattle.std.proofs.lemmas.List.{append-nil}
use Rattle.gnb_types.specs.declared.names.NodeId.TheVariants.{CuCp}
use Rattle.gnb_types.specs.declared.inputs.Order.TheVariants as orders
use Rattle.transport_defs.specs.Links.{Bag, most_control_messages}
use Rattle.run_defs.specs.States.{order_for}
use Rattle.run_defs.specs.Steps.{does}
use Rattle.run_defs.specs.Events.{with_terminal}
use Rattle.run_defs.specs.UnitRuns.{input_of, stepped_by, unit_world}
use Rattle.run_links.specs.declared.network.Network.{Network}
use Rattle.run_links.specs.Networks.{Octets, OctetState, state_of, control_messages_in}
use Rattle.run_links.specs.Told.{GoesTo}
use Rattle.world_steps.specs.declared.asked.Asked.{Asked}
use Rattle.world_steps.specs.declared.asked.Asked.TheVariants as kinds
use Rattle.world_steps.specs.declared.asked.Moved.{Moved}
use Rattle.world_steps.specs.declared.asked.Moved.TheVariants as moves
use Rattle.world_steps.specs.declared.cause.Cause.{Cause}
use Rattle.world_steps.specs.Asks.{ComesOf}
use Rattle.world_steps.specs.Moves.{StepOutcome}
use Rattle.world_steps.proofs.Does.{does_step, does_hold, does_refuse, does_fail}
use Rattle.world_events.specs.attaches.Comings.{with_seat}
use Rattle.world_events.proofs.attaches.attaches.bring.Goals as goal

pub returns-in-Err-clause-gives : goal.returns-in-Err-clause-gives
returns-in-Err-clause-gives g c =
    let codec = g.C.MessageCodec.codec in
    let answer = g.U.Units.answer in
    let world = unit_world codec answer in
    let records = g.U.Units.records in
    let s = state_of (records c.args.run_state.now.units) c.args.run_state.now.core c.args.run_state.now.network in
    let after = records c.ask.new.self.units in
    does_fail codec answer s (CuCp c.args.plan.gnb) (order_for (orders.Attach c.args.plan)) None (with_terminal world c.args.plan) after
    (state_of after c.ask.new.self.core c.ask.new.self.network) c.args.lines.now c.in-Err.cause c.in-Err.ensures.came

pub finish-requires-clause-room : goal.finish-requires-clause-room
finish-requires-clause-room g c =
    let records = g.U.Units.records in
    let s = state_of (records c.args.run_state.now.units) c.args.run_state.now.core c.args.run_state.now.network in
    let came =
    subst (λ (a : Asked). ComesOf (record {
      world = unit_world g.C.MessageCodec.codec g.U.Units.answer;
      state = s;
      node = CuCp c.args.plan.gnb;
      stepped = stepped_by (g.U.Units.answer s.units (CuCp c.args.plan.gnb) (input_of (order_for (orders.Attach c.args.plan))));
    }) (records c.ask.new.self.units) (Ok a))
    c.in-Does.is c.in-Ok.ensures.came in
    let bag : c.seat.new.run_state.network.bag ≡ c.args.run_state.now.network.bag =
    ap (λ (x : OctetState). x.bag) c.in_ok-seat-in-Does.ensures.seats ∙ ap (λ (x : Network). x.bag) c.ask.ensures.network in
    subst (λ (b : Bag Octets). nat_lt most_control_messages (length b.control_messages + control_messages_in c.in-Does.outputs) ≡ false) (sym bag) came.0

pub returns-in_ok-seat-in-Does-clause-gives : goal.returns-in_ok-seat-in-Does-clause-gives
returns-in_ok-seat-in-Does-clause-gives g c =
    let codec = g.C.MessageCodec.codec in
    let answer = g.U.Units.answer in
    let world = unit_world codec answer in
    let records = g.U.Units.records in
    let node = CuCp c.args.plan.gnb in
    let given = order_for (orders.Attach c.args.plan) in
    let first = with_terminal world c.args.plan in
    let s = state_of (records c.args.run_state.now.units) c.args.run_state.now.core c.args.run_state.now.network in
    let after = records c.ask.new.self.units in
    let came : ComesOf (record { world = world; state = s; node = node; stepped = stepped_by (answer s.units node (input_of given)) }) after
    (Ok (kinds.Does c.in-Does.outputs)) =
    subst (λ (a : Asked). ComesOf (record { world = world; state = s; node = node; stepped = stepped_by (answer s.units node (input_of given)) })
    after (Ok a)) c.in-Does.is c.in-Ok.ensures.came in
    let kept : record s { units = after } ≡ state_of after c.ask.new.self.core c.ask.new.self.network = cc (c.ask.ensures.core, c.ask.ensures.network) in
    let t = state_of (records c.seat.new.run_state.units) c.seat.new.run_state.core c.seat.new.run_state.network in
    let u = state_of (records c.finish.new.self.units) c.finish.new.self.core c.finish.new.self.network in
    let goes_so : GoesTo c.args.lines.now (first (record s { units = after })) c.args.lines.now t =
    (sym (append-nil c.args.lines.now), ap (λ (x : OctetState). with_seat c.args.plan x) kept ∙ sym c.in_ok-seat-in-Does.ensures.seats) in
    subst (λ (r : Result Moved Cause). StepOutcome (does world node given None first s) (record { state = s; lines = c.args.lines.now })
    (record { state = u; lines = c.finish.new.lines }) r) (sym c.moved_by.ensures)
    (does_step codec answer s node given None first c.in-Does.outputs after t u c.args.lines.now c.args.lines.now c.finish.new.lines
    c.finish.result came goes_so c.finish.ensures.gives)

pub returns-in-Holds-clause-gives : goal.returns-in-Holds-clause-gives
returns-in-Holds-clause-gives g c =
    let codec = g.C.MessageCodec.codec in
    let answer = g.U.Units.answer in
    let world = unit_world codec answer in
    let records = g.U.Units.records in
    let node = CuCp c.args.plan.gnb in
    let given = order_for (orders.Attach c.args.plan) in
    let first = with_terminal world c.args.plan in
    let s = state_of (records c.args.run_state.now.units) c.args.run_state.now.core c.args.run_state.now.network in
    let after = records c.ask.new.self.units in
    let came : ComesOf (record { world = world; state = s; node = node; stepped = stepped_by (answer s.units node (input_of given)) }) after
    (Ok (kinds.Holds c.in-Holds.reason)) =
    subst (λ (a : Asked). ComesOf (record { world = world; state = s; node = node; stepped = stepped_by (answer s.units node (input_of given)) })
    after (Ok a)) c.in-Holds.is c.in-Ok.ensures.came in
    let kept : record s { units = after } ≡ state_of after c.ask.new.self.core c.ask.new.self.network = cc (c.ask.ensures.core, c.ask.ensures.network) in
    subst (λ (x : OctetState). StepOutcome (does world node given None first s) (record { state = s; lines = c.args.lines.now })
    (record { state = x; lines = c.args.lines.now }) (Ok (moves.Holds c.in-Holds.reason))) kept
    (does_hold codec answer s node given None first after c.in-Holds.reason c.args.lines.now came)

pub returns-in-Refuses-clause-gives : goal.returns-in-Refuses-clause-gives
returns-in-Refuses-clause-gives g c =
    let codec = g.C.MessageCodec.codec in
    let answer = g.U.Units.answer in
    let world = unit_world codec answer in
    let records = g.U.Units.records in
    let node = CuCp c.args.plan.gnb in
    let given = order_for (orders.Attach c.args.plan) in
    let first = with_terminal world c.args.plan in
    let s = state_of (records c.args.run_state.now.units) c.args.run_state.now.core c.args.run_state.now.network in
    let after = records c.ask.new.self.units in
    let came : ComesOf (record { world = world; state = s; node = node; stepped = stepped_by (answer s.units node (input_of given)) }) after
    (Ok (kinds.Refuses c.in-Refuses.reason)) =
    subst (λ (a : Asked). ComesOf (record { world = world; state = s; node = node; stepped = stepped_by (answer s.units node (input_of given)) })
    after (Ok a)) c.in-Refuses.is c.in-Ok.ensures.came in
    let kept : record s { units = after } ≡ state_of after c.ask.new.self.core c.ask.new.self.network = cc (c.ask.ensures.core, c.ask.ensures.network) in
    subst (λ (x : OctetState). StepOutcome (does world node given None first s) (record { state = s; lines = c.args.lines.now })
    (record { state = x; lines = c.args.lines.now }) (Ok (moves.Refuses c.in-Refuses.reason))) kept
    (does_refuse codec answer s node given None first after c.in-Refuses.reason c.args.lines.now came)
