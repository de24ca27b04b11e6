use Rattle.std.proofs.Common.{◌≡◌, Some, sym, ap, subst}
use Rattle.std.specs.Prelude.{Result, Ok, Err, IsSome, is_some}
use Rattle.gnb_types.specs.declared.names.NodeId.{NodeId}
use Rattle.gnb_types.specs.declared.inputs.Input.{Input}
use Rattle.gnb_types.specs.Orders.{entity_cmp}
use Rattle.tables.specs.Tables.{at}
use Rattle.transport_defs.specs.declared.Item.{Item}
use Rattle.transport_defs.specs.Links.{silent}
use Rattle.links.specs.Radios.{uncarried}
use Rattle.run_defs.specs.States.{carried_for}
use Rattle.run_defs.specs.Steps.{does}
use Rattle.run_defs.specs.Events.{carried_off, carry_done}
use Rattle.run_defs.specs.UnitRuns.{input_of, stepped_by, unit_world}
use Rattle.run_links.specs.declared.network.Network.{Network}
use Rattle.run_links.specs.Networks.{Octets, OctetState, state_of}
use Rattle.run_links.specs.Told.{GoesTo}
use Rattle.world_steps.specs.declared.asked.Asked.{Asked}
use Rattle.world_steps.specs.declared.asked.Asked.TheVariants as kinds
use Rattle.world_steps.specs.declared.asked.Moved.{Moved}
use Rattle.world_steps.specs.declared.asked.Moved.TheVariants as moves
use Rattle.world_steps.specs.declared.cause.Cause.{Cause}
use Rattle.world_steps.specs.Asks.{ComesOf}
use Rattle.world_steps.specs.Moves.{StepOutcome}
use Rattle.world_steps.proofs.Does.{does_step, does_hold, does_refuse, does_fail}
use Rattle.world_steps.proofs.packets.radio.air_item.Goals as goal

pub returns-in-Err-clause-gives : goal.returns-in-Err-clause-gives
returns-in-Err-clause-gives g c item there =
    let codec = g.C.MessageCodec.codec in
    let answer = g.U.Units.answer in
    let world = unit_world codec answer in
    let records = g.U.Units.records in
    let s = state_of (records c.args.run_state.now.units) c.args.run_state.now.core c.args.run_state.now.network in
    let after = records c.ask.new.self.units in
    let shown = c.in-Some.item.now in
    let node = c.receiver_of-receiver.result in
    let same : shown ≡ item = cc (c.in-Some.ensures, there) in
    let given = carried_for shown in
    let came : ComesOf (record { world = world; state = s; node = node; stepped = stepped_by (answer s.units node (input_of given)) }) after (Err c.in-Err.cause) =
    subst (λ (i : Input). ComesOf (record { world = world; state = s; node = node; stepped = stepped_by (answer s.units node (i)) }) after (Err c.in-Err.cause)) c.in_ok-radio_input-in-Some.ensures
    (c.in-Err.ensures.came) in
    let new = state_of after c.ask.new.self.core c.ask.new.self.network in
    subst (λ (x : Item Octets). StepOutcome (carry_done world c.args.key c.args.home x s) (record { state = s; lines = c.args.lines.now }) (record { state = new; lines = c.args.lines.now }) (Err c.in-Err.cause)) same
    (subst (λ (n : NodeId). StepOutcome (does world n given shown.count (carried_off world c.args.key shown) s) (record { state = s; lines = c.args.lines.now }) (record { state = new; lines = c.args.lines.now }) (Err c.in-Err.cause)) c.receiver_of-receiver.ensures
    (does_fail codec answer s node given shown.count (carried_off world c.args.key shown) after new c.args.lines.now c.in-Err.cause came))

pub carry_off-requires : goal.carry_off-requires
carry_off-requires g c =
    subst (λ (x : Network). IsSome (uncarried (at entity_cmp silent x.radios.radios c.args.key))) (sym c.ask.ensures.network)
    (ap is_some (sym c.in-Some.ensures))

pub returns-in_ok-carry_off-in-Does-clause-gives : goal.returns-in_ok-carry_off-in-Does-clause-gives
returns-in_ok-carry_off-in-Does-clause-gives g c item there =
    let codec = g.C.MessageCodec.codec in
    let answer = g.U.Units.answer in
    let world = unit_world codec answer in
    let records = g.U.Units.records in
    let s = state_of (records c.args.run_state.now.units) c.args.run_state.now.core c.args.run_state.now.network in
    let after = records c.ask.new.self.units in
    let shown = c.in-Some.item.now in
    let node = c.receiver_of-receiver.result in
    let same : shown ≡ item = cc (c.in-Some.ensures, there) in
    let given = carried_for shown in
    let came : ComesOf (record { world = world; state = s; node = node; stepped = stepped_by (answer s.units node (input_of given)) }) after (Ok (kinds.Does c.in-Does.outputs)) =
    subst (λ (i : Input). ComesOf (record { world = world; state = s; node = node; stepped = stepped_by (answer s.units node (i)) }) after (Ok (kinds.Does c.in-Does.outputs))) c.in_ok-radio_input-in-Some.ensures
    (subst (λ (a : Asked). ComesOf (record { world = world; state = s; node = node; stepped = stepped_by (answer s.units node (c.in_ok-radio_input-in-Some.field-0)) }) after (Ok a)) c.in-Does.is c.in-Ok.ensures.came) in
    let kept : record s { units = after } ≡ state_of after c.ask.new.self.core c.ask.new.self.network = cc (c.ask.ensures.core, c.ask.ensures.network) in
    let stands : uncarried (at entity_cmp silent c.ask.new.self.network.radios.radios c.args.key) ≡ Some shown =
    subst (λ (x : Network). uncarried (at entity_cmp silent x.radios.radios c.args.key) ≡ Some shown) (sym c.ask.ensures.network)
    (sym c.in-Some.ensures) in
    let t = state_of after c.ask.new.self.core c.carry_off.new.self in
    let u = state_of (records c.finish.new.self.units) c.finish.new.self.core c.finish.new.self.network in
    let takes : GoesTo c.args.lines.now (carried_off world c.args.key shown (record s { units = after })) c.carry_off.new.lines t =
    subst (λ (x : OctetState). GoesTo c.args.lines.now (carried_off world c.args.key shown x) c.carry_off.new.lines t) (sym kept) (c.in_ok-carry_off-in-Does.ensures.told shown stands codec answer after c.ask.new.self.core) in
    subst (λ (x : Item Octets). StepOutcome (carry_done world c.args.key c.args.home x s) (record { state = s; lines = c.args.lines.now }) (record { state = u; lines = c.finish.new.lines }) (c.moved_by.result)) same
    (subst (λ (n : NodeId). StepOutcome (does world n given shown.count (carried_off world c.args.key shown) s) (record { state = s; lines = c.args.lines.now }) (record { state = u; lines = c.finish.new.lines }) (c.moved_by.result)) c.receiver_of-receiver.ensures
    (subst (λ (r : Result Moved Cause). StepOutcome (does world node given shown.count (carried_off world c.args.key shown) s) (record { state = s; lines = c.args.lines.now })
    (record { state = u; lines = c.finish.new.lines }) r) (sym c.moved_by.ensures)
    (does_step codec answer s node given shown.count (carried_off world c.args.key shown) c.in-Does.outputs after t u c.args.lines.now c.carry_off.new.lines c.finish.new.lines
    c.finish.result came takes c.finish.ensures.gives)))

pub returns-in-Holds-clause-gives : goal.returns-in-Holds-clause-gives
returns-in-Holds-clause-gives g c item there =
    let codec = g.C.MessageCodec.codec in
    let answer = g.U.Units.answer in
    let world = unit_world codec answer in
    let records = g.U.Units.records in
    let s = state_of (records c.args.run_state.now.units) c.args.run_state.now.core c.args.run_state.now.network in
    let after = records c.ask.new.self.units in
    let shown = c.in-Some.item.now in
    let node = c.receiver_of-receiver.result in
    let same : shown ≡ item = cc (c.in-Some.ensures, there) in
    let given = carried_for shown in
    let came : ComesOf (record { world = world; state = s; node = node; stepped = stepped_by (answer s.units node (input_of given)) }) after (Ok (kinds.Holds c.in-Holds.reason)) =
    subst (λ (i : Input). ComesOf (record { world = world; state = s; node = node; stepped = stepped_by (answer s.units node (i)) }) after (Ok (kinds.Holds c.in-Holds.reason))) c.in_ok-radio_input-in-Some.ensures
    (subst (λ (a : Asked). ComesOf (record { world = world; state = s; node = node; stepped = stepped_by (answer s.units node (c.in_ok-radio_input-in-Some.field-0)) }) after (Ok a)) c.in-Holds.is c.in-Ok.ensures.came) in
    let kept : record s { units = after } ≡ state_of after c.ask.new.self.core c.ask.new.self.network = cc (c.ask.ensures.core, c.ask.ensures.network) in
    let new = state_of after c.ask.new.self.core c.ask.new.self.network in
    subst (λ (x : Item Octets). StepOutcome (carry_done world c.args.key c.args.home x s) (record { state = s; lines = c.args.lines.now }) (record { state = new; lines = c.args.lines.now }) (Ok (moves.Holds c.in-Holds.reason))) same
    (subst (λ (n : NodeId). StepOutcome (does world n given shown.count (carried_off world c.args.key shown) s) (record { state = s; lines = c.args.lines.now }) (record { state = new; lines = c.args.lines.now }) (Ok (moves.Holds c.in-Holds.reason))) c.receiver_of-receiver.ensures
    (subst (λ (x : OctetState). StepOutcome (does world node given shown.count (carried_off world c.args.key shown) s) (record { state = s; lines = c.args.lines.now })
    (record { state = x; lines = c.args.lines.now }) (Ok (moves.Holds c.in-Holds.reason))) kept
    (does_hold codec answer s node given shown.count (carried_off world c.args.key shown) after c.in-Holds.reason c.args.lines.now came)))

pub returns-in-Refuses-clause-gives : goal.returns-in-Refuses-clause-gives
returns-in-Refuses-clause-gives g c item there =
    let codec = g.C.MessageCodec.codec in
    let answer = g.U.Units.answer in
    let world = unit_world codec answer in
    let records = g.U.Units.records in
    let s = state_of (records c.args.run_state.now.units) c.args.run_state.now.core c.args.run_state.now.network in
    let after = records c.ask.new.self.units in
    let shown = c.in-Some.item.now in
    let node = c.receiver_of-receiver.result in
    let same : shown ≡ item = cc (c.in-Some.ensures, there) in
    let given = carried_for shown in
    let came : ComesOf (record { world = world; state = s; node = node; stepped = stepped_by (answer s.units node (input_of given)) }) after (Ok (kinds.Refuses c.in-Refuses.reason)) =
    subst (λ (i : Input). ComesOf (record { world = world; state = s; node = node; stepped = stepped_by (answer s.units node (i)) }) after (Ok (kinds.Refuses c.in-Refuses.reason))) c.in_ok-radio_input-in-Some.ensures
    (subst (λ (a : Asked). ComesOf (record { world = world; state = s; node = node; stepped = stepped_by (answer s.units node (c.in_ok-radio_input-in-Some.field-0)) }) after (Ok a)) c.in-Refuses.is c.in-Ok.ensures.came) in
    let kept : record s { units = after } ≡ state_of after c.ask.new.self.core c.ask.new.self.network = cc (c.ask.ensures.core, c.ask.ensures.network) in
    let new = state_of after c.ask.new.self.core c.ask.new.self.network in
    subst (λ (x : Item Octets). StepOutcome (carry_done world c.args.key c.args.home x s) (record { state = s; lines = c.args.lines.now }) (record { state = new; lines = c.args.lines.now }) (Ok (moves.Refuses c.in-Refuses.reason))) same
    (subst (λ (n : NodeId). StepOutcome (does world n given shown.count (carried_off world c.args.key shown) s) (record { state = s; lines = c.args.lines.now }) (record { state = new; lines = c.args.lines.now }) (Ok (moves.Refuses c.in-Refuses.reason))) c.receiver_of-receiver.ensures
    (subst (λ (x : OctetState). StepOutcome (does world node given shown.count (carried_off world c.args.key shown) s) (record { state = s; lines = c.args.lines.now })
    (record { state = x; lines = c.args.lines.now }) (Ok (moves.Refuses c.in-Refuses.reason))) kept
    (does_refuse codec answer s node given shown.count (carried_off world c.args.key shown) after c.in-Refuses.reason c.args.lines.now came)))
