-- The steps of an event that is no business of a terminal are none of its business.
use Rattle.std.proofs.Common.{◌≡◌, ℕ, Bool, true, false, not, ◌&&◌, ◌||◌, List, [], ◌∷◌, Option, Some, None, refl, sym, ◌∙◌, subst}
use Rattle.std.specs.Prelude.{◌≢◌, if◌then◌else◌, is_some}
use Rattle.std.specs.List.{AllByRecursion}
use Rattle.gnb_types.specs.declared.names.NodeId.{NodeId}
use Rattle.gnb_types.specs.declared.names.NodeId.TheVariants.{CuCp, CuUp, Du, Core, Ue}
use Rattle.gnb_types.specs.declared.names.UeId.{UeId}
use Rattle.gnb_types.specs.declared.keys.TunnelEnd.{TunnelEnd}
use Rattle.gnb_types.specs.declared.plans.Plan.{Plan}
use Rattle.gnb_types.specs.declared.inputs.Order.TheVariants as orders
use Rattle.gnb_types.specs.declared.reasons.RefuseReason.{RefuseReason}
use Rattle.gnb_types.specs.declared.reasons.RefuseReason.TheVariants as reasons
use Rattle.gnb_types.specs.Orders.{tunnel_cmp}
use Rattle.tables.specs.Tables.{find}
use Rattle.message_types.specs.declared.rrc.Token.{Token}
use Rattle.scenario_text.specs.declared.event.Event.{Event}
use Rattle.scenario_text.specs.declared.event.Event.TheVariants as events
use Rattle.unit_defs.specs.Ways.{Message, Load, Pdu, held, no, teids_spent}
use Rattle.unit_defs.specs.Static.{cu_up_has_room, cu_up_has_teids, du_has_teids}
use Rattle.transport_defs.specs.declared.Item.{Item}
use Rattle.transport_defs.specs.declared.ControlMessage.{ControlMessage}
use Rattle.transport_defs.specs.Links.{control_message, is_in}
use Rattle.run_defs.specs.Lines.{was_refused}
use Rattle.run_defs.specs.Units.{Units, starting_nodes, cu_up_of, du_of}
use Rattle.run_defs.specs.Written.{Written, WrittenStepped, WrittenCoreStepped}
use Rattle.run_defs.specs.States.{stepped, step_spent, core_stepped, order_for, octets_from, octets_on, spent_counter, stops, goes_on, as_step, refused, sn_of, was_attached}
use Rattle.run_defs.specs.Steps.{control_messages_spent, too_many_control_messages, Done, is_done, is_held, is_refused, carried_out, done_with, does, ordered_by, step}
use Rattle.run_defs.specs.Conditions.{is_held_by_units, is_interface}
use Rattle.run_defs.specs.Events.{static, order_each, start, lose_message_on, lose_message, lose_items, lose_item_on, lose_item, core_injected, inject_to, inject_message, inject_item}
use Rattle.run_defs.specs.Runs.{Reading, plain_world, happens, tunnel_end}
use Rattle.proof_run_steps.specs.steps.Causes.{by_order, by_octets, by_octets_on, node_of, given_of, count_of, first_of, Stands}
use Rattle.proof_run_steps.specs.steps.IsOutcome.{IsDone, IsOutcome, stays, ends, then_made, sets_up, starts, acts, holds_item, holds_pdu, offers, core_takes, core_reads, lands, loses_control_message, loses_item, remarks}
use Rattle.law_terminals_are_isolated.specs.run_projections.Units.{given_ue}
use Rattle.law_terminals_are_isolated.proofs.own_steps.Steps.{Sound}
use Rattle.law_terminals_are_isolated.specs.own_events.Events.{RunState, RunOutcome, AllFor}
use Rattle.law_terminals_are_isolated.specs.named_events.Named.{event_ue}
use Rattle.law_terminals_are_isolated.proofs.named_events.Named.{named_for}
use Rattle.law_terminals_are_isolated.specs.all_steps.Steps.{IsNotMadeBy, IsNotFor, NoneFor, IsNotTheirs, OldestIsNotTheirs, IsNoBusiness}
use Rattle.law_terminals_are_isolated.proofs.all_steps.Nones.{RunCause, RunPuts}

holds_not : (b : Bool) → not b ≡ false → b ≡ true
holds_not true e = refl
holds_not false e = absurd cc

module _ (reading : Reading) (event : Event) (ue : UeId) where
  -- it is made of steps that are no business of the terminal
  abbrev Apart : RunState → RunOutcome → Type 0
  Apart s e = (made : IsOutcome (plain_world reading) event s e) × NoneFor reading event ue s e made

  -- ---- steps of another terminal

  all_none : (who : UeId) → who ≢ ue → (s : RunState) (e : RunOutcome) (made : IsOutcome (plain_world reading) event s e)
      → AllFor reading event who s e made → NoneFor reading event ue s e made
  all_none who apart s e (stays x) all = tt
  all_none who apart s e (ends x why) all = tt
  all_none who apart s e (then_made x d more p q) all =
      (all_none who apart x d p all.0, λ y told ends_so. all_none who apart y (more y) (q y) (all.1 y told ends_so))
  all_none who apart s e (sets_up x plan is free room teids) all = absurd all
  all_none who apart s e (starts x d p) all = all_none who apart (record x { started = true }) d p all
  all_none who apart s e (acts x cause outputs units at is fine few) all =
      subst (λ (o : Option UeId). IsNotFor ue cause o) (sym all) apart
  all_none who apart s e (holds_item x end reason) all = tt
  all_none who apart s e (holds_pdu x key home reason) all = tt
  all_none who apart s e (offers x v bearer p path is found) all = λ same. apart (sym all ∙ same)
  all_none who apart s e (core_takes x number l outputs core found at is few) all = λ same. apart (sym all ∙ same)
  all_none who apart s e (core_reads x from octets outputs core is) all = tt
  all_none who apart s e (lands x number l to found at) all = tt
  all_none who apart s e (loses_control_message x number) all = tt
  all_none who apart s e (loses_item x end item rest found) all = λ same. apart (sym all ∙ same)
  all_none who apart s e (remarks x lines plain) all = tt

  -- ---- what an input comes to

  refused_apart : (s : RunState) (reason : RefuseReason) → Apart s (refused reason s)
  refused_apart s reason = (remarks s (was_refused reason ∷ []) (tt, tt), tt)

  choose_apart : (s : RunState) (b : Bool) (x y : RunOutcome) → (b ≡ true → Apart s x) → (b ≡ false → Apart s y) → Apart s (if b then x else y)
  choose_apart s true x y p q = p refl
  choose_apart s false x y p q = q refl

  abbrev RunDone : Type 0
  RunDone = Done (Message Token) Token (Written (Load Pdu)) (Written Pdu)

  abbrev DoneApart : RunState → RunDone → Type 0
  DoneApart s (is_done outcome) = Apart s outcome
  DoneApart s (is_held reason) = Unit {0}
  DoneApart s (is_refused reason) = Unit {0}

  module _ (s : RunState) (cause : RunCause) (at : Stands event s cause)
      (its : IsNotFor ue cause (given_ue reading s.units (node_of cause) (given_of cause))) where
    if_few : (outputs : RunPuts) (units : Units (Message Token) Token)
        → (plain_world reading).answer (sn_of s) s.units (node_of cause) (given_of cause) ≡ stepped outputs units
        → IsDone outputs → (b : Bool) → too_many_control_messages (plain_world reading) outputs s ≡ b
        → DoneApart s (if b then is_done (stops [] (spent_counter control_messages_spent))
        else is_done (as_step (Some (node_of cause))
        (carried_out (plain_world reading) (node_of cause) (count_of cause) (first_of (plain_world reading) cause) outputs units s)))
    if_few outputs units is fine true many = (ends s (spent_counter control_messages_spent), tt)
    if_few outputs units is fine false few = (acts s cause outputs units at is fine few, its)

    done_apart : (answer : WrittenStepped) → (plain_world reading).answer (sn_of s) s.units (node_of cause) (given_of cause) ≡ answer
        → DoneApart s (done_with (plain_world reading) (node_of cause) (count_of cause) (first_of (plain_world reading) cause) s answer)
    done_apart (stepped (held reason ∷ []) units) is = tt
    done_apart (stepped (no reason ∷ []) units) is = tt
    done_apart (stepped outputs units) is = if_few outputs units is tt (too_many_control_messages (plain_world reading) outputs s) refl
    done_apart (step_spent counter) is = (ends s (spent_counter counter), tt)

    does_apart : DoneApart s (does (plain_world reading) (node_of cause) (given_of cause) (count_of cause) (first_of (plain_world reading) cause) s)
    unfolding does
    does_apart = done_apart ((plain_world reading).answer (sn_of s) s.units (node_of cause) (given_of cause)) refl

  ordered_apart : (s : RunState) (d : RunDone) → DoneApart s d → Apart s (ordered_by (plain_world reading) s d)
  ordered_apart s (is_done outcome) p = p
  ordered_apart s (is_held reason) p = (stays s, tt)
  ordered_apart s (is_refused reason) p = refused_apart s reason

  -- ---- static and start

  static_apart : (s : RunState) (plan : Plan) → event ≡ events.Static plan → plan.ue ≢ ue → Apart s (static (plain_world reading) plan s)
  unfolding static
  static_apart s plan is apart =
      choose_apart s (was_attached s plan.ue || is_held_by_units plan s.units) _ _ (λ h. refused_apart s reasons.Attached)
      (λ free. choose_apart s (not (cu_up_has_room (cu_up_of s.units plan.gnb plan.up) plan)) _ _ (λ h. refused_apart s reasons.Quota)
      (λ room. choose_apart s (cu_up_has_teids (cu_up_of s.units plan.gnb plan.up) plan && du_has_teids (du_of s.units plan.gnb plan.du) plan) _ _
      (λ teids. (sets_up s plan is free (holds_not _ room) teids, apart)) (λ h. (ends s (spent_counter teids_spent), tt))))

  -- the start of a node is that of no terminal, which has number 0
  abbrev StartsApart : NodeId → Type 0
  StartsApart node = (t : RunState) → given_ue reading t.units node (order_for orders.Start) ≡ Some (record { 0 = 0 })

  abbrev starting : NodeId → RunCause
  starting node = by_order node orders.Start

  start_one : record { 0 = 0 } ≢ ue → (node : NodeId) → StartsApart node → (t : RunState) → Apart t (step (plain_world reading) node (order_for orders.Start) t)
  unfolding step
  start_one apart node is t =
      ordered_apart t (does (plain_world reading) node (order_for orders.Start) None goes_on t)
      (does_apart t (starting node) tt (subst (λ (o : Option UeId). IsNotFor ue (starting node) o) (sym (is t)) apart))

  start_each : record { 0 = 0 } ≢ ue → (nodes : List NodeId) → AllByRecursion StartsApart nodes → (t : RunState)
      → Apart t (order_each (plain_world reading) (λ node. step (plain_world reading) node (order_for orders.Start)) nodes t)
  start_each apart [] all t = (stays t, tt)
  start_each apart (node ∷ nodes) all t =
      let one = start_one apart node all.0 t in
      let rest = start_each apart nodes all.1 in (
        then_made t (step (plain_world reading) node (order_for orders.Start) t)
            (order_each (plain_world reading) (λ n. step (plain_world reading) n (order_for orders.Start)) nodes) one.0 (λ x. (rest x).0),
        (one.1, λ x told ends_so. (rest x).1),
      )

  start_apart : (s : RunState) → record { 0 = 0 } ≢ ue → Apart s (start (plain_world reading) s)
  unfolding start
  start_apart s apart =
      choose_apart s s.started _ _ (λ h. refused_apart s reasons.Busy)
      (λ h. let each = start_each apart starting_nodes
      ((λ t. refl), ((λ t. refl), ((λ t. refl), ((λ t. refl), ((λ t. refl), ((λ t. refl), ((λ t. refl), ((λ t. refl), tt)))))))) (record s { started = true }) in
      (starts s _ each.0, each.1))

  -- ---- what is lost

  message_apart : (s : RunState) (number : ℕ) (o : Option (ControlMessage (Message Token))) → Apart s (lose_message_on (plain_world reading) number s o)
  message_apart s number None = refused_apart s reasons.NoSuch
  message_apart s number (Some l) =
      choose_apart s (is_in number s.bag.flight) _ _ (λ h. (loses_control_message s number, tt)) (λ h. refused_apart s reasons.Empty)

  lose_message_apart : (s : RunState) (number : ℕ) → Apart s (lose_message (plain_world reading) number s)
  unfolding lose_message
  lose_message_apart s number = message_apart s number (control_message s.bag number)

  items_apart : (s : RunState) (end : TunnelEnd) (items : List (Item (Written (Load Pdu)))) → find tunnel_cmp s.tunnels end ≡ Some items
      → OldestIsNotTheirs ue (find tunnel_cmp s.tunnels end) → Apart s (lose_items (plain_world reading) end s items)
  items_apart s end [] found apart = refused_apart s reasons.Empty
  items_apart s end (item ∷ rest) found apart = (loses_item s end item rest found, apart item rest found)

  item_apart : (s : RunState) (end : TunnelEnd) (o : Option (List (Item (Written (Load Pdu))))) → find tunnel_cmp s.tunnels end ≡ o
      → OldestIsNotTheirs ue (find tunnel_cmp s.tunnels end) → Apart s (lose_item_on (plain_world reading) end s o)
  item_apart s end None found apart = refused_apart s reasons.NoSuch
  item_apart s end (Some items) found apart =
      choose_apart s _ _ _ (λ h. items_apart s end items found apart) (λ h. refused_apart s reasons.NotAllowed)

  lose_item_apart : (s : RunState) (end : TunnelEnd) → OldestIsNotTheirs ue (find tunnel_cmp s.tunnels end)
      → Apart s (lose_item (plain_world reading) end s)
  unfolding lose_item
  lose_item_apart s end apart = item_apart s end (find tunnel_cmp s.tunnels end) refl apart

  -- ---- octets from outside

  octets_apart : (s : RunState) (from to : NodeId) (octets : List ℕ) → IsNotMadeBy ue to → Apart s (step (plain_world reading) to (octets_from from octets) s)
  unfolding step
  octets_apart s from to octets apart =
      ordered_apart s (does (plain_world reading) to (octets_from from octets) None goes_on s) (does_apart s (by_octets from to octets) tt (tt, apart))

  core_apart : (s : RunState) (from : NodeId) (octets : List ℕ) (answer : WrittenCoreStepped)
      → (plain_world reading).core_answer (sn_of s) s.core (octets_from from octets) ≡ answer → Apart s (core_injected (plain_world reading) s answer)
  core_apart s from octets (core_stepped outputs core) is = (core_reads s from octets outputs core is, tt)

  to_apart : (s : RunState) (from to : NodeId) (octets : List ℕ) → IsNotMadeBy ue to → Apart s (inject_to (plain_world reading) from to octets s)
  to_apart s from Core octets apart = core_apart s from octets ((plain_world reading).core_answer (sn_of s) s.core (octets_from from octets)) refl
  to_apart s from (CuCp gnb) octets apart = octets_apart s from (CuCp gnb) octets apart
  to_apart s from (CuUp gnb n) octets apart = octets_apart s from (CuUp gnb n) octets apart
  to_apart s from (Du gnb n) octets apart = octets_apart s from (Du gnb n) octets apart
  to_apart s from (Ue n) octets apart = octets_apart s from (Ue n) octets apart

  inject_message_apart : (s : RunState) (from to : NodeId) (octets : List ℕ) → IsNotMadeBy ue to → Apart s (inject_message (plain_world reading) from to octets s)
  unfolding inject_message
  inject_message_apart s from to octets apart =
      choose_apart s (not (is_interface s from to)) _ _ (λ h. refused_apart s reasons.NoLink)
      (λ h. choose_apart s ((plain_world reading).is_message from to octets) _ _ (λ h. refused_apart s reasons.Decodable)
      (λ h. to_apart s from to octets apart))

  octets_on_apart : (s : RunState) (end : TunnelEnd) (octets : List ℕ) → IsNotMadeBy ue end.node
      → Apart s (step (plain_world reading) end.node (octets_on end.teid octets) s)
  unfolding step
  octets_on_apart s end octets apart =
      ordered_apart s (does (plain_world reading) end.node (octets_on end.teid octets) None goes_on s) (does_apart s (by_octets_on end octets) tt (tt, apart))

  inject_item_apart : (s : RunState) (end : TunnelEnd) (octets : List ℕ) → IsNotMadeBy ue end.node → Apart s (inject_item (plain_world reading) end octets s)
  unfolding inject_item
  inject_item_apart s end octets apart =
      choose_apart s (not (is_some (find tunnel_cmp s.tunnels end))) _ _ (λ h. refused_apart s reasons.NoSuch)
      (λ h. choose_apart s ((plain_world reading).is_item s.units end octets) _ _ (λ h. refused_apart s reasons.Decodable)
      (λ h. octets_on_apart s end octets apart))

  -- ---- an event that names another terminal

  theirs_apart : (s : RunState) → Sound s → (o : Option UeId) → event_ue s event ≡ o → IsNotTheirs ue o → Apart s (happens (plain_world reading) event s)
  theirs_apart s sound None is apart = absurd apart
  theirs_apart s sound (Some who) is apart =
      let own = named_for reading who s sound event is in (own.0, all_none who apart s (happens (plain_world reading) event s) own.0 own.1)

-- ---- each event

module _ (reading : Reading) (ue : UeId) (s : RunState) (sound : Sound s) where
  abbrev Named : Event → Type 0
  Named event = IsNotTheirs ue (event_ue s event) → Apart reading event ue s (happens (plain_world reading) event s)

  named : (event : Event) → Named event
  named event apart = theirs_apart reading event ue s sound (event_ue s event) refl apart

  pub event_apart : (event : Event) → IsNoBusiness reading ue s event → Apart reading event ue s (happens (plain_world reading) event s)
  unfolding happens
  event_apart (events.Static plan) apart = static_apart reading (events.Static plan) ue s plan refl apart
  event_apart events.Start apart = start_apart reading events.Start ue s apart
  event_apart (events.LoseMessage number) apart = lose_message_apart reading (events.LoseMessage number) ue s number
  event_apart (events.LoseItem node teid) apart = lose_item_apart reading (events.LoseItem node teid) ue s (tunnel_end (plain_world reading) node teid) apart
  event_apart (events.InjectMessage from to octets) apart = inject_message_apart reading (events.InjectMessage from to octets) ue s from to octets apart
  event_apart (events.InjectItem node teid octets) apart =
      inject_item_apart reading (events.InjectItem node teid octets) ue s (tunnel_end (plain_world reading) node teid) octets apart
  event_apart (events.Attach plan) apart = named (events.Attach plan) apart
  event_apart (events.Offer who bearer dir p) apart = named (events.Offer who bearer dir p) apart
  event_apart (events.Get node teid) apart = named (events.Get node teid) apart
  event_apart (events.Air who bearer dir) apart = named (events.Air who bearer dir) apart
  event_apart (events.Ack who bearer dir) apart = named (events.Ack who bearer dir) apart
  event_apart (events.Give number) apart = named (events.Give number) apart
  event_apart (events.Poll who bearer) apart = named (events.Poll who bearer) apart
  event_apart (events.Fail who) apart = named (events.Fail who) apart
  event_apart (events.Arrive who) apart = named (events.Arrive who) apart
  event_apart (events.Return who) apart = named (events.Return who) apart
  event_apart (events.Handover who gnb up du) apart = named (events.Handover who gnb up du) apart
  event_apart (events.Cancel who) apart = named (events.Cancel who) apart
  event_apart (events.Release who) apart = named (events.Release who) apart
  event_apart (events.Ask who bearer) apart = named (events.Ask who bearer) apart
  event_apart events.Pump apart = absurd apart
  event_apart events.Tick apart = absurd apart
  event_apart events.Settle apart = absurd apart
