-- Each event is made of steps.
use Rattle.std.proofs.Common.{◌≡◌, ◌==◌, ℕ, zero, suc, Bool, true, false, not, ◌&&◌, ◌||◌, List, [], ◌∷◌, Option, Some, None, refl}
use Rattle.std.specs.Prelude.{if◌then◌else◌, is_some}
use Rattle.gnb_types.specs.declared.names.Gnb.{Gnb}
use Rattle.gnb_types.specs.declared.names.Gnb.TheVariants.{A, B}
use Rattle.gnb_types.specs.declared.names.NodeId.{NodeId}
use Rattle.gnb_types.specs.declared.names.NodeId.TheVariants.{CuCp, CuUp, Du, Core, Ue}
use Rattle.gnb_types.specs.declared.names.UeId.{UeId}
use Rattle.gnb_types.specs.declared.names.BearerId.{BearerId}
use Rattle.gnb_types.specs.declared.names.Dir.{Dir}
use Rattle.gnb_types.specs.declared.names.Dir.TheVariants.{Dl, Ul}
use Rattle.gnb_types.specs.declared.keys.TunnelEnd.{TunnelEnd}
use Rattle.gnb_types.specs.declared.keys.EntityKey.{EntityKey}
use Rattle.gnb_types.specs.declared.plans.Plan.{Plan}
use Rattle.gnb_types.specs.declared.inputs.Order.TheVariants as orders
use Rattle.gnb_types.specs.declared.reasons.RefuseReason.TheVariants.{Attached, NotStarted, NoUe, NoHome, Busy, NotAllowed, Empty, NoLink, NoSuch, Decodable}
use Rattle.gnb_types.specs.declared.reasons.RefuseReason.TheVariants as reasons
use Rattle.gnb_types.specs.Orders.{ue_cmp, tunnel_cmp}
use Rattle.tables.specs.Tables.{find}
use Rattle.scenario_text.specs.declared.event.Event.{Event}
use Rattle.scenario_text.specs.declared.event.Event.TheVariants as events
use Rattle.unit_defs.specs.Ways.{teids_spent}
use Rattle.unit_defs.specs.Core.{CorePath}
use Rattle.unit_defs.specs.Ue.{is_connected, is_accessing, may_return}
use Rattle.unit_defs.specs.Accessors.{ue_home}
use Rattle.unit_defs.specs.Static.{cu_up_has_room, cu_up_has_teids, du_has_teids}
use Rattle.transport_defs.specs.declared.Item.{Item}
use Rattle.transport_defs.specs.declared.ControlMessage.{ControlMessage}
use Rattle.transport_defs.specs.Links.{control_message, nth, is_in}
use Rattle.run_defs.specs.Units.{starting_nodes, cu_up_of, du_of, ue_of, is_source}
use Rattle.run_defs.specs.Lines.{is_quiet, is_busy}
use Rattle.run_defs.specs.States.{State, control_message_for, offer_for, tick_for, order_for, octets_from, octets_on, prints, sn_of, World, goes_on, Outcome, as_step, entity, CoreStepped, core_stepped, was_attached, is_attached, has_bearer, radio_of, spent_counter}
use Rattle.run_defs.specs.Steps.{Done, is_done, is_held, is_refused, does, ordered_by, step, too_many_control_messages, control_messages_spent}
use Rattle.run_defs.specs.Conditions.{ready_home, takes_control_messages, ticking, serving_gnb, serving_place, goal_of, rests, has_started, state_at, is_same_place, is_other_up, is_busy_with, is_interface, is_held_by_units}
use Rattle.run_defs.specs.Events.{pump_limit, static, order_each, start, with_terminal, attach, offered, offer_on_path, offer_by, offer, get_done, got_by, get_on, get, carry_done, carried_by, air_item, air_at, air, confirm_done, ack_items, ack_at, ack, landed_as, core_put, give_to, give_on, give, lose_message_on, lose_message, lose_items, lose_item_on, lose_item, pump_on, pump_times, pump, tick, poll_at, poll, fail, arrive, come_back, handover_to, handover, cancel, leaves, release, ask, core_injected, inject_to, inject_message, inject_item}
use Rattle.proof_run_steps.specs.steps.Causes.{by_tick, by_octets, by_octets_on, by_attach, by_release, by_offer, by_item, by_air, by_ack, by_control_message}
use Rattle.proof_run_steps.specs.steps.IsOutcome.{IsOutcome, stays, ends, then_made, sets_up, starts, holds_item, holds_pdu, offers, core_takes, core_reads, lands, loses_control_message, loses_item, remarks}
use Rattle.proof_run_steps.proofs.steps.Steps.{Keeps, goes_refused, choose, DoneMade, goes_does, goes_ordered, goes_order}

holds_not : (b : Bool) → not b ≡ false → b ≡ true
holds_not true e = refl
holds_not false e = absurd cc

module _ {M C L P : Type 0} (world : World M C L P) (event : Event) where
  -- ---- static, start and attach

  pub goes_static : (plan : Plan) → event ≡ events.Static plan → Keeps world event (static world plan)
  unfolding static
  goes_static plan is s =
      choose world event s (was_attached s plan.ue || is_held_by_units plan s.units) _ _ (λ h. goes_refused world event Attached s)
      (λ free. choose world event s (not (cu_up_has_room (cu_up_of s.units plan.gnb plan.up) plan)) _ _ (λ h. goes_refused world event reasons.Quota s)
      (λ room. choose world event s (cu_up_has_teids (cu_up_of s.units plan.gnb plan.up) plan && du_has_teids (du_of s.units plan.gnb plan.du) plan) _ _
      (λ teids. sets_up s plan is free (holds_not _ room) teids) (λ h. ends s (spent_counter teids_spent))))

  pub goes_each : (f : NodeId → State M C L P → Outcome M C L P) → ((node : NodeId) → Keeps world event (f node)) → (nodes : List NodeId)
      → Keeps world event (order_each world f nodes)
  goes_each f kf [] s = stays s
  goes_each f kf (node ∷ nodes) s = then_made s (f node s) (order_each world f nodes) (kf node s) (goes_each f kf nodes)

  pub goes_start : Keeps world event (start world)
  unfolding start
  goes_start s =
      choose world event s s.started _ _ (λ h. goes_refused world event Busy s)
      (λ h. starts s _ (goes_each (λ node. step world node (order_for orders.Start)) (λ node. goes_order world event node orders.Start tt) starting_nodes
      (record s { started = true })))

  pub goes_attach : (plan : Plan) → event ≡ events.Attach plan → Keeps world event (attach world plan)
  unfolding attach
  goes_attach plan is s =
      choose world event s (was_attached s plan.ue) _ _ (λ h. goes_refused world event Attached s)
      (λ fresh. choose world event s (not (has_started plan s)) _ _ (λ h. goes_refused world event NotStarted s)
      (λ h. goes_ordered world event s (does world (CuCp plan.gnb) (order_for (orders.Attach plan)) None (with_terminal world plan) s)
      (goes_does world event (by_attach plan) s (is, fresh))))

  -- ---- offer

  goes_on_path : (ue : UeId) (bearer : BearerId) (p : List ℕ) → event ≡ events.Offer ue bearer Dl p → (s : State M C L P) (o : Option CorePath)
      → find ue_cmp s.core.paths ue ≡ o → IsOutcome world event s (offer_on_path world ue bearer p s o)
  goes_on_path ue bearer p is s None found = goes_refused world event reasons.NoPath s
  goes_on_path ue bearer p is s (Some path) found =
      choose world event s _ _ _ (λ h. goes_refused world event reasons.Size s) (λ h. offers s ue bearer p path is found)

  goes_offer_by : (dir : Dir) (ue : UeId) (bearer : BearerId) (p : List ℕ) → event ≡ events.Offer ue bearer dir p → (s : State M C L P)
      → has_bearer s ue bearer ≡ true → IsOutcome world event s (offer_by world dir ue bearer p s)
  goes_offer_by Dl ue bearer p is s has = goes_on_path ue bearer p is s (find ue_cmp s.core.paths ue) refl
  goes_offer_by Ul ue bearer p is s has =
      goes_ordered world event s (does world (Ue ue.0) (offer_for ue bearer p) None (λ t. goes_on (offered world (entity ue bearer Ul) t)) s)
      (goes_does world event (by_offer ue bearer p) s (is, has))

  pub goes_offer : (ue : UeId) (bearer : BearerId) (dir : Dir) (p : List ℕ) → event ≡ events.Offer ue bearer dir p
      → Keeps world event (offer world ue bearer dir p)
  unfolding offer
  goes_offer ue bearer dir p is s =
      choose world event s (has_bearer s ue bearer) _ _ (λ has. goes_offer_by dir ue bearer p is s has) (λ h. goes_refused world event reasons.NoBearer s)

  -- ---- get

  goes_got : (end : TunnelEnd) (s : State M C L P) (d : Done M C L P) → DoneMade world event s d → IsOutcome world event s (got_by world end s d)
  goes_got end s (is_done outcome) p = p
  goes_got end s (is_held reason) p = holds_item s end reason
  goes_got end s (is_refused reason) p = goes_refused world event reason s

  goes_get_on : (end : TunnelEnd) (s : State M C L P) (o : Option (List (Item L))) → find tunnel_cmp s.tunnels end ≡ o
      → IsOutcome world event s (get_on world end s o)
  goes_get_on end s None found = goes_refused world event NoSuch s
  goes_get_on end s (Some []) found = goes_refused world event Empty s
  goes_get_on end s (Some (item ∷ rest)) found =
      goes_got end s (get_done world end item rest s) (goes_does world event (by_item end item rest) s found)

  pub goes_get : (end : TunnelEnd) → Keeps world event (get world end)
  unfolding get
  goes_get end s = goes_get_on end s (find tunnel_cmp s.tunnels end) refl

  -- ---- air and ack

  goes_carried_by : (key : EntityKey) (home : NodeId) (s : State M C L P) (d : Done M C L P) → DoneMade world event s d
      → IsOutcome world event s (carried_by world key home s d)
  goes_carried_by key home s (is_done outcome) p = p
  goes_carried_by key home s (is_held reason) p = holds_pdu s key home reason
  goes_carried_by key home s (is_refused reason) p = goes_refused world event reason s

  goes_air_item : (key : EntityKey) (home : NodeId) (s : State M C L P) → ready_home s key.ue ≡ Some home → (o : Option (Item P))
      → nth (radio_of s key).items (radio_of s key).carried ≡ o → IsOutcome world event s (air_item world key home s o)
  goes_air_item key home s ready None found = goes_refused world event Empty s
  goes_air_item key home s ready (Some item) found =
      goes_carried_by key home s (carry_done world key home item s) (goes_does world event (by_air key home item) s (ready, found))

  goes_air_at : (key : EntityKey) (s : State M C L P) (o : Option NodeId) → ready_home s key.ue ≡ o → IsOutcome world event s (air_at world key s o)
  goes_air_at key s None ready = goes_refused world event reasons.NoRadio s
  goes_air_at key s (Some home) ready = goes_air_item key home s ready (nth (radio_of s key).items (radio_of s key).carried) refl

  pub goes_air : (key : EntityKey) → Keeps world event (air world key)
  unfolding air
  goes_air key s =
      choose world event s _ _ _ (λ h. goes_air_at key s (ready_home s key.ue) refl) (λ h. goes_refused world event reasons.NoBearer s)

  goes_ack_items : (key : EntityKey) (home : NodeId) (s : State M C L P) → ready_home s key.ue ≡ Some home → (items : List (Item P))
      → (radio_of s key).items ≡ items → IsOutcome world event s (ack_items world key home s items (radio_of s key).carried)
  goes_ack_items key home s ready [] are = goes_refused world event Empty s
  goes_ack_items key home s ready (item ∷ rest) are =
      choose world event s ((radio_of s key).carried == 0) _ _ (λ h. goes_refused world event Empty s)
      (λ some. goes_ordered world event s (confirm_done world key home item rest s)
      (goes_does world event (by_ack key home item rest) s (ready, are, some)))

  goes_ack_at : (key : EntityKey) (s : State M C L P) (o : Option NodeId) → ready_home s key.ue ≡ o → IsOutcome world event s (ack_at world key s o)
  goes_ack_at key s None ready = goes_refused world event reasons.NoRadio s
  goes_ack_at key s (Some home) ready = goes_ack_items key home s ready (radio_of s key).items refl

  pub goes_ack : (key : EntityKey) → Keeps world event (ack world key)
  unfolding ack
  goes_ack key s =
      choose world event s _ _ _ (λ h. goes_ack_at key s (ready_home s key.ue) refl) (λ h. goes_refused world event reasons.NoBearer s)

  -- ---- give, lose and pump

  goes_core : (number : ℕ) (l : ControlMessage M) (s : State M C L P) → control_message s.bag number ≡ Some l → l.to ≡ Core → (answer : CoreStepped M C L P)
      → world.core_answer (sn_of s) s.core (control_message_for l.from l.message) ≡ answer → IsOutcome world event s (core_put world number l s answer)
  goes_core number l s found at (core_stepped outputs core) is =
      choose world event s (too_many_control_messages world outputs s) _ _ (λ h. ends s (spent_counter control_messages_spent))
      (λ few. core_takes s number l outputs core found at is few)

  goes_to_unit : (number : ℕ) (l : ControlMessage M) (node : NodeId) (s : State M C L P) → control_message s.bag number ≡ Some l → l.to ≡ node
      → IsOutcome world event s
      (if takes_control_messages s node then ordered_by world s (does world node (control_message_for l.from l.message) None (landed_as world number l) s)
      else as_step (Some node) (landed_as world number l s))
  goes_to_unit number l node s found at =
      choose world event s (takes_control_messages s node) _ _
      (λ takes. goes_ordered world event s (does world node (control_message_for l.from l.message) None (landed_as world number l) s)
      (goes_does world event (by_control_message number l node) s (found, at, takes)))
      (λ h. lands s number l node found at)

  goes_to : (number : ℕ) (l : ControlMessage M) (node : NodeId) (s : State M C L P) → control_message s.bag number ≡ Some l → l.to ≡ node
      → IsOutcome world event s (give_to world number l node s)
  goes_to number l Core s found at = goes_core number l s found at (world.core_answer (sn_of s) s.core (control_message_for l.from l.message)) refl
  goes_to number l (CuCp gnb) s found at = goes_to_unit number l (CuCp gnb) s found at
  goes_to number l (CuUp gnb n) s found at = goes_to_unit number l (CuUp gnb n) s found at
  goes_to number l (Du gnb n) s found at = goes_to_unit number l (Du gnb n) s found at
  goes_to number l (Ue ue) s found at = goes_to_unit number l (Ue ue) s found at

  goes_give_on : (number : ℕ) (s : State M C L P) (o : Option (ControlMessage M)) → control_message s.bag number ≡ o → IsOutcome world event s (give_on world number s o)
  goes_give_on number s None found = goes_refused world event NoSuch s
  goes_give_on number s (Some l) found = goes_to number l l.to s found refl

  pub goes_give : (number : ℕ) → Keeps world event (give world number)
  unfolding give
  goes_give number s = goes_give_on number s (control_message s.bag number) refl

  goes_lose_message_on : (number : ℕ) (o : Option (ControlMessage M)) → Keeps world event (λ s. lose_message_on world number s o)
  goes_lose_message_on number None s = goes_refused world event NoSuch s
  goes_lose_message_on number (Some l) s =
      choose world event s (is_in number s.bag.flight) _ _ (λ h. loses_control_message s number) (λ h. goes_refused world event Empty s)

  pub goes_lose_message : (number : ℕ) → Keeps world event (lose_message world number)
  unfolding lose_message
  goes_lose_message number s = goes_lose_message_on number (control_message s.bag number) s

  goes_lose_items : (end : TunnelEnd) (s : State M C L P) (items : List (Item L)) → find tunnel_cmp s.tunnels end ≡ Some items
      → IsOutcome world event s (lose_items world end s items)
  goes_lose_items end s [] found = goes_refused world event Empty s
  goes_lose_items end s (item ∷ rest) found = loses_item s end item rest found

  goes_lose_item_on : (end : TunnelEnd) (s : State M C L P) (o : Option (List (Item L))) → find tunnel_cmp s.tunnels end ≡ o
      → IsOutcome world event s (lose_item_on world end s o)
  goes_lose_item_on end s None found = goes_refused world event NoSuch s
  goes_lose_item_on end s (Some items) found =
      choose world event s _ _ _ (λ h. goes_lose_items end s items found) (λ h. goes_refused world event NotAllowed s)

  pub goes_lose_item : (end : TunnelEnd) → Keeps world event (lose_item world end)
  unfolding lose_item
  goes_lose_item end s = goes_lose_item_on end s (find tunnel_cmp s.tunnels end) refl

  goes_pump_on : (more : State M C L P → Outcome M C L P) → Keeps world event more → (numbers : List ℕ) → Keeps world event (λ s. pump_on world more s numbers)
  goes_pump_on more km [] s = stays s
  goes_pump_on more km (number ∷ numbers) s = then_made s (give world number s) more (goes_give number s) km

  goes_pump_times : (times : ℕ) → Keeps world event (pump_times world times)
  goes_pump_times zero s = stays s
  goes_pump_times (suc times) s = goes_pump_on (pump_times world times) (goes_pump_times times) s.bag.flight s

  pub goes_pump : Keeps world event (pump world)
  unfolding pump
  goes_pump s = goes_pump_times (pump_limit world) s

  -- ---- tick, poll

  goes_tick_of : (node : NodeId) → Keeps world event (step world node tick_for)
  unfolding step
  goes_tick_of node s =
      goes_ordered world event s (does world node tick_for None goes_on s) (goes_does world event (by_tick node) s tt)

  pub goes_tick : Keeps world event (tick world)
  unfolding tick
  goes_tick s = goes_each (λ node. step world node tick_for) goes_tick_of (ticking s) s

  goes_poll_at : (ue : UeId) (bearer : BearerId) (gnb : Gnb) (o : Option (ℕ × ℕ)) → Keeps world event (λ s. poll_at world ue bearer gnb s o)
  goes_poll_at ue bearer gnb None s = goes_refused world event Empty s
  goes_poll_at ue bearer gnb (Some place) s =
      choose world event s _ _ _ (λ h. goes_order world event (CuUp gnb place.0) (orders.Poll ue bearer) tt s) (λ h. goes_refused world event Empty s)

  pub goes_poll : (ue : UeId) (bearer : BearerId) → Keeps world event (poll world ue bearer)
  unfolding poll
  goes_poll ue bearer s =
      choose world event s _ _ _ (λ h. goes_poll_at ue bearer (serving_gnb s ue) (serving_place s ue) s)
      (λ h. goes_refused world event reasons.NoBearer s)

  -- ---- fail, arrive, return

  pub goes_fail : (ue : UeId) → Keeps world event (fail world ue)
  unfolding fail
  goes_fail ue s =
      choose world event s (not (is_attached s ue)) _ _ (λ h. goes_refused world event NoUe s)
      (λ h. choose world event s (is_connected (state_at s ue)) _ _ (λ h. goes_order world event (Ue ue.0) (orders.Fail ue) tt s)
      (λ h. goes_refused world event reasons.NoRadio s))

  pub goes_arrive : (ue : UeId) → Keeps world event (arrive world ue)
  unfolding arrive
  goes_arrive ue s =
      choose world event s (not (is_attached s ue)) _ _ (λ h. goes_refused world event NoUe s)
      (λ h. choose world event s (is_accessing (state_at s ue)) _ _ (λ h. goes_order world event (Ue ue.0) (orders.Arrive ue) tt s)
      (λ h. goes_refused world event reasons.NotAccessing s))

  pub goes_come_back : (ue : UeId) → Keeps world event (come_back world ue)
  unfolding come_back
  goes_come_back ue s =
      choose world event s (not (is_attached s ue)) _ _ (λ h. goes_refused world event NoUe s)
      (λ h. choose world event s (not (is_some (ue_home (ue_of s.units ue)))) _ _ (λ h. goes_refused world event NoHome s)
      (λ h. choose world event s (may_return (state_at s ue)) _ _ (λ h. goes_order world event (Ue ue.0) (orders.Return ue) tt s)
      (λ h. goes_refused world event Busy s)))

  -- ---- handover, cancel, release

  goes_handover_to : (gnb : Gnb) (o : Option Plan) → Keeps world event (λ s. handover_to world s gnb o)
  goes_handover_to gnb None s = goes_refused world event NoUe s
  goes_handover_to gnb (Some goal) s = goes_order world event (CuCp gnb) (orders.Handover goal) tt s

  pub goes_handover : (ue : UeId) (gnb : Gnb) (up du : ℕ) → Keeps world event (handover world ue gnb up du)
  unfolding handover
  goes_handover ue gnb up du s =
      choose world event s (not (is_attached s ue)) _ _ (λ h. goes_refused world event NoUe s)
      (λ h. choose world event s (is_same_place gnb du (serving_gnb s ue) (serving_place s ue)) _ _ (λ h. goes_refused world event reasons.Same s)
      (λ h. choose world event s (is_other_up gnb up (serving_gnb s ue) (serving_place s ue)) _ _ (λ h. goes_refused world event NotAllowed s)
      (λ h. choose world event s (is_busy_with s ue) _ _ (λ h. goes_refused world event Busy s)
      (λ h. goes_handover_to (serving_gnb s ue) (goal_of (find ue_cmp s.plans ue) ue gnb up du) s))))

  pub goes_cancel : (ue : UeId) → Keeps world event (cancel world ue)
  unfolding cancel
  goes_cancel ue s =
      choose world event s (not (is_attached s ue)) _ _ (λ h. goes_refused world event NoUe s)
      (λ h. choose world event s (is_source s.units.cu_cp_a ue) _ _ (λ h. goes_order world event (CuCp A) (orders.Cancel ue) tt s)
      (λ h. choose world event s (is_source s.units.cu_cp_b ue) _ _ (λ h. goes_order world event (CuCp B) (orders.Cancel ue) tt s)
      (λ h. goes_refused world event Empty s)))

  pub goes_release : (ue : UeId) → event ≡ events.Release ue → Keeps world event (release world ue)
  unfolding release
  goes_release ue is s =
      choose world event s (not (is_attached s ue)) _ _ (λ h. goes_refused world event NoUe s)
      (λ h. choose world event s (is_busy_with s ue) _ _ (λ h. goes_refused world event Busy s)
      (λ h. goes_ordered world event s (does world (CuCp (serving_gnb s ue)) (order_for (orders.Release ue)) None (leaves world ue) s)
      (goes_does world event (by_release (serving_gnb s ue) ue) s (is, refl))))

  -- ---- ask, inject

  goes_ask_line : (t : Bool) (ue : UeId) (bearer : BearerId) (a b : ℕ)
      → Keeps world event (λ s. prints ((if t then is_quiet ue bearer a b else is_busy ue bearer) ∷ []) s)
  goes_ask_line true ue bearer a b s = remarks s (is_quiet ue bearer a b ∷ []) (tt, tt)
  goes_ask_line false ue bearer a b s = remarks s (is_busy ue bearer ∷ []) (tt, tt)

  pub goes_ask : (ue : UeId) (bearer : BearerId) → Keeps world event (ask world ue bearer)
  unfolding ask
  goes_ask ue bearer s =
      choose world event s (has_bearer s ue bearer) _ _ (λ h. goes_ask_line (rests s ue bearer) ue bearer _ _ s)
      (λ h. goes_refused world event reasons.NoBearer s)

  goes_core_injected : (from : NodeId) (octets : List ℕ) (s : State M C L P) (answer : CoreStepped M C L P)
      → world.core_answer (sn_of s) s.core (octets_from from octets) ≡ answer → IsOutcome world event s (core_injected world s answer)
  goes_core_injected from octets s (core_stepped outputs core) is = core_reads s from octets outputs core is

  goes_octets : (from to : NodeId) (octets : List ℕ) → Keeps world event (step world to (octets_from from octets))
  unfolding step
  goes_octets from to octets s =
      goes_ordered world event s (does world to (octets_from from octets) None goes_on s) (goes_does world event (by_octets from to octets) s tt)

  goes_inject_to : (from to : NodeId) (octets : List ℕ) → Keeps world event (inject_to world from to octets)
  goes_inject_to from Core octets s = goes_core_injected from octets s (world.core_answer (sn_of s) s.core (octets_from from octets)) refl
  goes_inject_to from (CuCp gnb) octets s = goes_octets from (CuCp gnb) octets s
  goes_inject_to from (CuUp gnb n) octets s = goes_octets from (CuUp gnb n) octets s
  goes_inject_to from (Du gnb n) octets s = goes_octets from (Du gnb n) octets s
  goes_inject_to from (Ue ue) octets s = goes_octets from (Ue ue) octets s

  pub goes_inject_message : (from to : NodeId) (octets : List ℕ) → Keeps world event (inject_message world from to octets)
  unfolding inject_message
  goes_inject_message from to octets s =
      choose world event s (not (is_interface s from to)) _ _ (λ h. goes_refused world event NoLink s)
      (λ h. choose world event s (world.is_message from to octets) _ _ (λ h. goes_refused world event Decodable s)
      (λ h. goes_inject_to from to octets s))

  goes_octets_on : (end : TunnelEnd) (octets : List ℕ) → Keeps world event (step world end.node (octets_on end.teid octets))
  unfolding step
  goes_octets_on end octets s =
      goes_ordered world event s (does world end.node (octets_on end.teid octets) None goes_on s) (goes_does world event (by_octets_on end octets) s tt)

  pub goes_inject_item : (end : TunnelEnd) (octets : List ℕ) → Keeps world event (inject_item world end octets)
  unfolding inject_item
  goes_inject_item end octets s =
      choose world event s (not (is_some (find tunnel_cmp s.tunnels end))) _ _ (λ h. goes_refused world event NoSuch s)
      (λ h. choose world event s (world.is_item s.units end octets) _ _ (λ h. goes_refused world event Decodable s)
      (λ h. goes_octets_on end octets s))
