-- Each event is refused and changes nothing, or makes a step.
use Rattle.std.proofs.Common.{ℕ, zero, suc, Bool, true, false, not, List, [], ◌∷◌, Option, Some, None}
use Rattle.std.specs.Prelude.{if◌then◌else◌, is_some}
use Rattle.gnb_types.specs.declared.names.Gnb.{Gnb}
use Rattle.gnb_types.specs.declared.names.Gnb.TheVariants.{A, B}
use Rattle.gnb_types.specs.declared.names.NodeId.{NodeId}
use Rattle.gnb_types.specs.declared.names.NodeId.TheVariants.{CuCp, CuUp, Du, Core, Ue}
use Rattle.gnb_types.specs.declared.names.UeId.{UeId}
use Rattle.gnb_types.specs.declared.names.BearerId.{BearerId}
use Rattle.gnb_types.specs.declared.names.Dir.{Dir}
use Rattle.gnb_types.specs.declared.names.Dir.TheVariants.{Dl, Ul}
use Rattle.gnb_types.specs.declared.keys.TunnelEnd.{TunnelEnd}
use Rattle.gnb_types.specs.declared.keys.EntityKey.{EntityKey}
use Rattle.gnb_types.specs.declared.plans.Plan.{Plan}
use Rattle.gnb_types.specs.declared.inputs.Order.TheVariants as orders
use Rattle.gnb_types.specs.declared.reasons.RefuseReason.TheVariants.{Attached, NotStarted, NoUe, NoHome, Busy, NotAllowed, Empty, NoLink, NoSuch, Decodable}
use Rattle.gnb_types.specs.declared.reasons.RefuseReason.TheVariants as RefuseReasons
use Rattle.gnb_types.specs.Orders.{ue_cmp, tunnel_cmp}
use Rattle.tables.specs.Tables.{find}
use Rattle.unit_defs.specs.Core.{CorePath}
use Rattle.unit_defs.specs.Ue.{may_return}
use Rattle.unit_defs.specs.Accessors.{ue_home}
use Rattle.transport_defs.specs.declared.Item.{Item}
use Rattle.transport_defs.specs.declared.ControlMessage.{ControlMessage}
use Rattle.transport_defs.specs.Links.{control_message, landed, nth, is_in}
use Rattle.run_defs.specs.Lines.{is_quiet, is_busy, lost_message}
use Rattle.run_defs.specs.Units.{ue_of, is_source}
use Rattle.run_defs.specs.States.{State, control_message_for, item_for, carried_for, confirmed_for, offer_for, tick_for, order_for, octets_from, octets_on, prints, sn_of, World, stops, goes_on, Outcome, as_step, entity, CoreStepped, core_stepped, was_attached, is_attached, radio_of, spent_counter}
use Rattle.run_defs.specs.Steps.{Done, is_done, is_held, is_refused, does, ordered_by, step, too_many_control_messages, control_messages_spent}
use Rattle.run_defs.specs.Conditions.{ready_home, receiver_of, sender_of, takes_control_messages, ticking, serving_gnb, serving_place, goal_of, rests, has_started, state_at, is_same_place, is_other_up, is_busy_with, is_interface}
use Rattle.run_defs.specs.Events.{taken_off, carried_off, confirmed_off, pump_limit, order_each, with_terminal, attach, offered, offer_on_path, offer_by, offer, get_done, got_by, get_on, get, carry_done, carried_by, air_item, air_at, air, confirm_done, ack_items, ack_at, ack, landed_as, core_put, give_to, give_on, give, lose_message_on, lose_message, lose_items, lose_item_on, lose_item, pump_on, pump_times, pump, tick, poll_at, poll, fail, arrive, come_back, handover_to, handover, cancel, leaves, release, ask, core_injected, inject_to, inject_message, inject_item}
use Rattle.proof_run_steps.proofs.refusals.Steps.{Stays, Keeps, then_more, a_step, just_goes_on, goes_refused, choose, DoneStays, DoneKeeps, goes_does, goes_ordered, goes_step}

module _ {M C L P : Type 0} (world : World M C L P) where
  -- ---- start and attach

  pub goes_each : (f : NodeId → State M C L P → Outcome M C L P) → ((node : NodeId) → Keeps world (f node)) → (nodes : List NodeId)
      → Keeps world (order_each world f nodes)
  goes_each f kf [] s = just_goes_on world s
  goes_each f kf (node ∷ nodes) s =
      then_more world s (f node s) (order_each world f nodes) (kf node s) (goes_each f kf nodes)

  pub goes_attach : (plan : Plan) → Keeps world (attach world plan)
  unfolding attach
  goes_attach plan s =
      choose world s (was_attached s plan.ue) _ _ (goes_refused world Attached s)
      (choose world s (not (has_started plan s)) _ _ (goes_refused world NotStarted s)
      (goes_ordered world s _ (goes_does world (CuCp plan.gnb) None (with_terminal world plan) s (order_for (orders.Attach plan)))))

  -- ---- offer

  goes_on_path : (ue : UeId) (bearer : BearerId) (p : List ℕ) (o : Option CorePath) → Keeps world (λ s. offer_on_path world ue bearer p s o)
  goes_on_path ue bearer p None s = goes_refused world _ s
  goes_on_path ue bearer p (Some path) s = choose world s _ _ _ (goes_refused world _ s) (a_step world s Core _)

  goes_offer_by : (dir : Dir) (ue : UeId) (bearer : BearerId) (p : List ℕ) → Keeps world (offer_by world dir ue bearer p)
  goes_offer_by Dl ue bearer p s = goes_on_path ue bearer p (find ue_cmp s.core.paths ue) s
  goes_offer_by Ul ue bearer p s =
      goes_ordered world s _ (goes_does world (Ue ue.0) None (λ t. goes_on (offered world (entity ue bearer Ul) t)) s (offer_for ue bearer p))

  pub goes_offer : (ue : UeId) (bearer : BearerId) (dir : Dir) (p : List ℕ) → Keeps world (offer world ue bearer dir p)
  unfolding offer
  goes_offer ue bearer dir p s = choose world s _ _ _ (goes_offer_by dir ue bearer p s) (goes_refused world _ s)

  -- ---- get

  pub goes_get_done : (end : TunnelEnd) (item : Item L) (rest : List (Item L)) (s : State M C L P) → DoneKeeps world s (get_done world end item rest s)
  goes_get_done end item rest s = goes_does world end.node item.count (taken_off world end item rest) s (item_for end.teid item)

  goes_got : (end : TunnelEnd) (s : State M C L P) (d : Done M C L P) → DoneStays world s d → Stays world s (got_by world end s d)
  goes_got end s (is_done outcome) p = p
  goes_got end s (is_held reason) p = record { it = λ h. absurd cc }
  goes_got end s (is_refused reason) p = goes_refused world reason s

  goes_get_on : (end : TunnelEnd) (o : Option (List (Item L))) → Keeps world (λ s. get_on world end s o)
  goes_get_on end None s = goes_refused world _ s
  goes_get_on end (Some []) s = goes_refused world _ s
  goes_get_on end (Some (item ∷ rest)) s = goes_got end s (get_done world end item rest s) (goes_get_done end item rest s).it

  pub goes_get : (end : TunnelEnd) → Keeps world (get world end)
  unfolding get
  goes_get end s = goes_get_on end (find tunnel_cmp s.tunnels end) s

  -- ---- air and ack

  pub goes_carry_done : (key : EntityKey) (home : NodeId) (item : Item P) (s : State M C L P) → DoneKeeps world s (carry_done world key home item s)
  goes_carry_done key home item s = goes_does world (receiver_of key home) item.count (carried_off world key item) s (carried_for item)

  goes_carried_by : (key : EntityKey) (home : NodeId) (s : State M C L P) (d : Done M C L P) → DoneStays world s d
      → Stays world s (carried_by world key home s d)
  goes_carried_by key home s (is_done outcome) p = p
  goes_carried_by key home s (is_held reason) p = record { it = λ h. absurd cc }
  goes_carried_by key home s (is_refused reason) p = goes_refused world reason s

  goes_air_item : (key : EntityKey) (home : NodeId) (o : Option (Item P)) → Keeps world (λ s. air_item world key home s o)
  goes_air_item key home None s = goes_refused world _ s
  goes_air_item key home (Some item) s = goes_carried_by key home s (carry_done world key home item s) (goes_carry_done key home item s).it

  goes_air_at : (key : EntityKey) (o : Option NodeId) → Keeps world (λ s. air_at world key s o)
  goes_air_at key None s = goes_refused world _ s
  goes_air_at key (Some home) s = goes_air_item key home (nth (radio_of s key).items (radio_of s key).carried) s

  pub goes_air : (key : EntityKey) → Keeps world (air world key)
  unfolding air
  goes_air key s = choose world s _ _ _ (goes_air_at key (ready_home s key.ue) s) (goes_refused world _ s)

  pub goes_confirm_done : (key : EntityKey) (home : NodeId) (item : Item P) (rest : List (Item P)) (s : State M C L P)
      → DoneKeeps world s (confirm_done world key home item rest s)
  goes_confirm_done key home item rest s = goes_does world (sender_of key home) item.count (confirmed_off world key rest) s (confirmed_for item)

  goes_ack_items : (key : EntityKey) (home : NodeId) (items : List (Item P)) (carried : ℕ) → Keeps world (λ s. ack_items world key home s items carried)
  goes_ack_items key home [] carried s = goes_refused world _ s
  goes_ack_items key home (item ∷ rest) carried s =
      choose world s _ _ _ (goes_refused world _ s) (goes_ordered world s _ (goes_confirm_done key home item rest s))

  goes_ack_at : (key : EntityKey) (o : Option NodeId) → Keeps world (λ s. ack_at world key s o)
  goes_ack_at key None s = goes_refused world _ s
  goes_ack_at key (Some home) s = goes_ack_items key home (radio_of s key).items (radio_of s key).carried s

  pub goes_ack : (key : EntityKey) → Keeps world (ack world key)
  unfolding ack
  goes_ack key s = choose world s _ _ _ (goes_ack_at key (ready_home s key.ue) s) (goes_refused world _ s)

  -- ---- give, lose and pump

  goes_core : (number : ℕ) (l : ControlMessage M) (answer : CoreStepped M C L P) → Keeps world (λ s. core_put world number l s answer)
  goes_core number l (core_stepped outputs core) s =
      choose world s (too_many_control_messages world outputs s) (stops [] (spent_counter control_messages_spent)) _ (record { it = tt }) (a_step world s Core _)

  goes_to_unit : (number : ℕ) (l : ControlMessage M) (node : NodeId) (s : State M C L P)
      → Stays world s
      (if takes_control_messages s node then ordered_by world s (does world node (control_message_for l.from l.message) None (landed_as world number l) s)
      else as_step (Some node) (landed_as world number l s))
  goes_to_unit number l node s =
      choose world s _ _ _
      (goes_ordered world s _ (goes_does world node None (landed_as world number l) s (control_message_for l.from l.message)))
      (a_step world s node (landed_as world number l s))

  goes_to : (number : ℕ) (l : ControlMessage M) (node : NodeId) → Keeps world (give_to world number l node)
  goes_to number l Core s = goes_core number l (world.core_answer (sn_of s) s.core (control_message_for l.from l.message)) s
  goes_to number l (CuCp gnb) s = goes_to_unit number l (CuCp gnb) s
  goes_to number l (CuUp gnb n) s = goes_to_unit number l (CuUp gnb n) s
  goes_to number l (Du gnb n) s = goes_to_unit number l (Du gnb n) s
  goes_to number l (Ue ue) s = goes_to_unit number l (Ue ue) s

  goes_give_on : (number : ℕ) (o : Option (ControlMessage M)) → Keeps world (λ s. give_on world number s o)
  goes_give_on number None s = goes_refused world _ s
  goes_give_on number (Some l) s = goes_to number l l.to s

  pub goes_give : (number : ℕ) → Keeps world (give world number)
  unfolding give
  goes_give number s = goes_give_on number (control_message s.bag number) s

  goes_lose_message_on : (number : ℕ) (o : Option (ControlMessage M)) → Keeps world (λ s. lose_message_on world number s o)
  goes_lose_message_on number None s = goes_refused world _ s
  goes_lose_message_on number (Some l) s =
      choose world s (is_in number s.bag.flight) (prints (lost_message number ∷ []) (record s { bag = landed s.bag number })) _
      (record { it = λ h. absurd cc }) (goes_refused world _ s)

  pub goes_lose_message : (number : ℕ) → Keeps world (lose_message world number)
  unfolding lose_message
  goes_lose_message number s = goes_lose_message_on number (control_message s.bag number) s

  goes_lose_items : (end : TunnelEnd) (items : List (Item L)) → Keeps world (λ s. lose_items world end s items)
  goes_lose_items end [] s = goes_refused world _ s
  goes_lose_items end (item ∷ rest) s = record { it = λ h. absurd cc }

  goes_lose_item_on : (end : TunnelEnd) (o : Option (List (Item L))) → Keeps world (λ s. lose_item_on world end s o)
  goes_lose_item_on end None s = goes_refused world _ s
  goes_lose_item_on end (Some items) s = choose world s _ _ _ (goes_lose_items end items s) (goes_refused world _ s)

  pub goes_lose_item : (end : TunnelEnd) → Keeps world (lose_item world end)
  unfolding lose_item
  goes_lose_item end s = goes_lose_item_on end (find tunnel_cmp s.tunnels end) s

  goes_pump_on : (more : State M C L P → Outcome M C L P) → Keeps world more → (numbers : List ℕ) → Keeps world (λ s. pump_on world more s numbers)
  goes_pump_on more km [] s = just_goes_on world s
  goes_pump_on more km (number ∷ numbers) s =
      then_more world s (give world number s) more (goes_give number s) km

  goes_pump_times : (times : ℕ) → Keeps world (pump_times world times)
  goes_pump_times zero s = just_goes_on world s
  goes_pump_times (suc times) s = goes_pump_on (pump_times world times) (goes_pump_times times) s.bag.flight s

  pub goes_pump : Keeps world (pump world)
  unfolding pump
  goes_pump s = goes_pump_times (pump_limit world) s

  -- ---- tick, poll

  pub goes_tick : Keeps world (tick world)
  unfolding tick
  goes_tick s = goes_each (λ node. step world node tick_for) (λ node. goes_step world node tick_for) (ticking s) s

  goes_poll_at : (ue : UeId) (bearer : BearerId) (gnb : Gnb) (o : Option (ℕ × ℕ)) → Keeps world (λ s. poll_at world ue bearer gnb s o)
  goes_poll_at ue bearer gnb None s = goes_refused world _ s
  goes_poll_at ue bearer gnb (Some place) s = choose world s _ _ _ (goes_step world _ _ s) (goes_refused world _ s)

  pub goes_poll : (ue : UeId) (bearer : BearerId) → Keeps world (poll world ue bearer)
  unfolding poll
  goes_poll ue bearer s =
      choose world s _ _ _ (goes_poll_at ue bearer (serving_gnb s ue) (serving_place s ue) s) (goes_refused world _ s)

  -- ---- fail, arrive, return

  pub goes_fail : (ue : UeId) → Keeps world (fail world ue)
  unfolding fail
  goes_fail ue s =
      choose world s _ _ _ (goes_refused world _ s)
      (choose world s _ _ _ (goes_step world (Ue ue.0) (order_for (orders.Fail ue)) s) (goes_refused world _ s))

  pub goes_arrive : (ue : UeId) → Keeps world (arrive world ue)
  unfolding arrive
  goes_arrive ue s =
      choose world s _ _ _ (goes_refused world _ s)
      (choose world s _ _ _ (goes_step world (Ue ue.0) (order_for (orders.Arrive ue)) s) (goes_refused world _ s))

  pub goes_come_back : (ue : UeId) → Keeps world (come_back world ue)
  unfolding come_back
  goes_come_back ue s =
      choose world s (not (is_attached s ue)) _ _ (goes_refused world NoUe s)
      (choose world s (not (is_some (ue_home (ue_of s.units ue)))) _ _ (goes_refused world NoHome s)
      (choose world s (may_return (state_at s ue)) _ _ (goes_step world (Ue ue.0) (order_for (orders.Return ue)) s)
      (goes_refused world Busy s)))

  -- ---- handover, cancel, release

  goes_handover_to : (gnb : Gnb) (o : Option Plan) → Keeps world (λ s. handover_to world s gnb o)
  goes_handover_to gnb None s = goes_refused world _ s
  goes_handover_to gnb (Some goal) s = goes_step world _ _ s

  pub goes_handover : (ue : UeId) (gnb : Gnb) (up du : ℕ) → Keeps world (handover world ue gnb up du)
  unfolding handover
  goes_handover ue gnb up du s =
      choose world s (not (is_attached s ue)) _ _ (goes_refused world NoUe s)
      (choose world s (is_same_place gnb du (serving_gnb s ue) (serving_place s ue)) _ _ (goes_refused world RefuseReasons.Same s)
      (choose world s (is_other_up gnb up (serving_gnb s ue) (serving_place s ue)) _ _ (goes_refused world NotAllowed s)
      (choose world s (is_busy_with s ue) _ _ (goes_refused world Busy s)
      (goes_handover_to (serving_gnb s ue) (goal_of (find ue_cmp s.plans ue) ue gnb up du) s))))

  pub goes_cancel : (ue : UeId) → Keeps world (cancel world ue)
  unfolding cancel
  goes_cancel ue s =
      choose world s (not (is_attached s ue)) _ _ (goes_refused world NoUe s)
      (choose world s (is_source s.units.cu_cp_a ue) _ _ (goes_step world (CuCp A) (order_for (orders.Cancel ue)) s)
      (choose world s (is_source s.units.cu_cp_b ue) _ _ (goes_step world (CuCp B) (order_for (orders.Cancel ue)) s)
      (goes_refused world Empty s)))

  pub goes_release : (ue : UeId) → Keeps world (release world ue)
  unfolding release
  goes_release ue s =
      choose world s (not (is_attached s ue)) _ _ (goes_refused world NoUe s)
      (choose world s (is_busy_with s ue) _ _ (goes_refused world Busy s)
      (goes_ordered world s _ (goes_does world (CuCp (serving_gnb s ue)) None (leaves world ue) s (order_for (orders.Release ue)))))

  -- ---- ask, inject

  goes_ask_line : (t : Bool) (ue : UeId) (bearer : BearerId) (a b : ℕ) → Keeps world (λ s. prints ((if t then is_quiet ue bearer a b else is_busy ue bearer) ∷ []) s)
  goes_ask_line true ue bearer a b s = record { it = λ h. absurd cc }
  goes_ask_line false ue bearer a b s = record { it = λ h. absurd cc }

  pub goes_ask : (ue : UeId) (bearer : BearerId) → Keeps world (ask world ue bearer)
  unfolding ask
  goes_ask ue bearer s =
      choose world s _ _ _ (goes_ask_line (rests s ue bearer) ue bearer _ _ s) (goes_refused world _ s)

  goes_core_injected : (answer : CoreStepped M C L P) → Keeps world (λ s. core_injected world s answer)
  goes_core_injected (core_stepped outputs core) s = a_step world s Core _

  goes_inject_to : (from to : NodeId) (octets : List ℕ) → Keeps world (inject_to world from to octets)
  goes_inject_to from Core octets s = goes_core_injected (world.core_answer (sn_of s) s.core (octets_from from octets)) s
  goes_inject_to from (CuCp gnb) octets s = goes_step world _ _ s
  goes_inject_to from (CuUp gnb n) octets s = goes_step world _ _ s
  goes_inject_to from (Du gnb n) octets s = goes_step world _ _ s
  goes_inject_to from (Ue ue) octets s = goes_step world _ _ s

  pub goes_inject_message : (from to : NodeId) (octets : List ℕ) → Keeps world (inject_message world from to octets)
  unfolding inject_message
  goes_inject_message from to octets s =
      choose world s (not (is_interface s from to)) _ _ (goes_refused world NoLink s)
      (choose world s (world.is_message from to octets) _ _ (goes_refused world Decodable s) (goes_inject_to from to octets s))

  pub goes_inject_item : (end : TunnelEnd) (octets : List ℕ) → Keeps world (inject_item world end octets)
  unfolding inject_item
  goes_inject_item end octets s =
      choose world s (not (is_some (find tunnel_cmp s.tunnels end))) _ _ (goes_refused world NoSuch s)
      (choose world s (world.is_item s.units end octets) _ _ (goes_refused world Decodable s)
      (goes_step world end.node (octets_on end.teid octets) s))
