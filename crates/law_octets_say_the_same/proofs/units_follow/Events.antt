-- Each event comes to the same in both worlds.
use Rattle.std.proofs.Common.{◌≡◌, ◌==◌, ℕ, zero, suc, Bool, true, false, not, ◌&&◌, ◌||◌, List, [], ◌∷◌, Option, Some, None, refl, ap, subst}
use Rattle.std.proofs.lemmas.Bool.{or_parts}
use Rattle.std.specs.Prelude.{if◌then◌else◌, is_some, nat_lt, length}
use Rattle.gnb_types.specs.declared.names.Gnb.{Gnb}
use Rattle.gnb_types.specs.declared.names.Gnb.TheVariants.{A, B}
use Rattle.gnb_types.specs.declared.names.NodeId.{NodeId}
use Rattle.gnb_types.specs.declared.names.NodeId.TheVariants.{CuCp, CuUp, Du, Core, Ue}
use Rattle.gnb_types.specs.declared.names.UeId.{UeId}
use Rattle.gnb_types.specs.declared.names.BearerId.{BearerId}
use Rattle.gnb_types.specs.declared.names.Dir.{Dir}
use Rattle.gnb_types.specs.declared.names.Dir.TheVariants.{Dl, Ul}
use Rattle.gnb_types.specs.declared.keys.TunnelEnd.{TunnelEnd}
use Rattle.gnb_types.specs.declared.keys.EntityKey.{EntityKey}
use Rattle.gnb_types.specs.declared.plans.Plan.{Plan}
use Rattle.gnb_types.specs.declared.inputs.Input.TheVariants as ins
use Rattle.gnb_types.specs.declared.inputs.Order.TheVariants as orders
use Rattle.gnb_types.specs.declared.reasons.RefuseReason.TheVariants.{NotAllowed}
use Rattle.gnb_types.specs.Orders.{ue_cmp, tunnel_cmp}
use Rattle.std.specs.Ordering.{nat_cmp}
use Rattle.tables.specs.Tables.{find}
use Rattle.scenario_text.specs.declared.event.Event.{Event}
use Rattle.scenario_text.specs.declared.event.Event.TheVariants as events
use Rattle.unit_defs.specs.Ways.{Put}
use Rattle.unit_defs.specs.Messages.{teid_of}
use Rattle.unit_defs.specs.Core.{CorePath}
use Rattle.unit_defs.specs.Ue.{largest_packet, is_connected, is_accessing, may_return}
use Rattle.unit_defs.specs.Accessors.{ue_home, is_unconfirmed}
use Rattle.unit_defs.specs.Static.{cu_up_has_room, cu_up_has_teids, du_has_teids}
use Rattle.transport_defs.specs.declared.Item.{Item}
use Rattle.transport_defs.specs.declared.ControlMessage.{ControlMessage}
use Rattle.transport_defs.specs.Links.{control_message, landed, nth, is_in}
use Rattle.run_defs.specs.Units.{starting_nodes, cu_up_of, du_of, ue_of, is_source}
use Rattle.run_defs.specs.States.{State, control_message_for, offer_for, tick_for, order_for, octets_from, octets_on, CoreStepped, core_stepped, spent_counter, stops, ◌next◌, goes_on, Within, Outcome, as_step, entity, sn_of, was_attached, is_attached, has_bearer, radio_of, refused}
use Rattle.run_defs.specs.Steps.{control_messages_spent, check_spans, put_on_tunnel, put_out_all, count_control_messages, too_many_control_messages, Done, is_done, is_held, is_refused, does, ordered_by, step}
use Rattle.run_defs.specs.Conditions.{serving_gnb, serving_place, n3_from, is_held_by_units, has_started, ready_home, takes_control_messages, state_at, ticking, goal_of, is_same_place, is_other_up, is_busy_with, is_interface}
use Rattle.run_defs.specs.Events.{static, order_each, start, with_terminal, attach, offered, offer_on_path, offer_by, offer, get_done, got_by, get_on, get, carry_done, carried_by, air_item, air_at, air, confirm_done, ack_items, ack_at, ack, landed_as, core_put, give_to, give_on, give, lose_message_on, lose_message, is_lossy, lose_items, lose_item_on, lose_item, pump_on, pump_times, pump_limit, pump, tick, poll_at, poll, fail, arrive, come_back, handover_to, handover, cancel, leaves, release, ask, core_injected, inject_to, inject_message, inject_item}
use Rattle.proof_run_steps.specs.steps.Causes.{by_tick, by_octets, by_octets_on, by_attach, by_release, by_offer, by_item, by_air, by_ack, by_control_message}
use Rattle.proof_run_steps.specs.facts.Facts.{Hold, HoldWith, GivenFits}
use Rattle.proof_run_steps.proofs.facts.Within.{HoldsWith, then_holds, keep_checked, with_tunnels, keep_put_on_tunnel, same_links, keep_put_all}
use Rattle.proof_run_steps.proofs.facts.Steps.{found_has}
use Rattle.proof_run_steps.proofs.facts.Runs.{step_holds, statically_holds, core_holds, core_ready}
use Rattle.law_octets_say_the_same.specs.units_follow.Ranges.{IsScripted}
use Rattle.law_octets_say_the_same.proofs.units_follow.Sames.{same_many, same_put_on_tunnel, same_put_all}
use Rattle.law_octets_say_the_same.proofs.units_follow.Steps.{Two, SameThere, first, second, Both, BothKeep, both_choose, both_then, DoneHolds, both_by, both_ordered, both_does, both_order}

holds_not : (b : Bool) → not b ≡ false → b ≡ true
holds_not true e = refl
holds_not false e = absurd cc

module _ {M C L P : Type 0} (two : Two M C L P) (there : SameThere two) (event : Event) (scripted : IsScripted two.input two.packet two.plan event) where
  -- ---- static, start and attach

  pub both_static : (plan : Plan) → event ≡ events.Static plan → BothKeep two (static (first two) plan) (static (second two) plan)
  unfolding static
  both_static plan is s h =
      both_choose two (was_attached s plan.ue || is_held_by_units plan s.units) _ _ _ _ (λ a. (refl, h))
      (λ free. both_choose two (not (cu_up_has_room (cu_up_of s.units plan.gnb plan.up) plan)) _ _ _ _ (λ a. (refl, h))
      (λ room. both_choose two (cu_up_has_teids (cu_up_of s.units plan.gnb plan.up) plan && du_has_teids (du_of s.units plan.gnb plan.du) plan) _ _ _ _
      (λ teids. let planned : two.plan plan = subst (IsScripted two.input two.packet two.plan) is scripted in (
        refl,
        statically_holds (first two) two.facts plan s h
            (there.placed s.units plan planned (or_parts (was_attached s plan.ue) _ free).1 (holds_not _ room) teids h.units)
            (there.core_placed s.core plan planned (n3_from 1 (cu_up_of s.units plan.gnb plan.up).next_teid plan.bearers) h.core),
      )) (λ a. (refl, tt))))

  pub both_each : (f g : NodeId → State M C L P → Outcome M C L P) → ((node : NodeId) → BothKeep two (f node) (g node)) → (nodes : List NodeId)
      → BothKeep two (order_each (first two) f nodes) (order_each (second two) g nodes)
  both_each f g k [] s h = (refl, h)
  both_each f g k (node ∷ nodes) s h =
      both_then two (f node s) (g node s) (order_each (first two) f nodes) (order_each (second two) g nodes) (k node s h) (both_each f g k nodes)

  pub both_start : BothKeep two (start (first two)) (start (second two))
  unfolding start
  both_start s h =
      both_choose two s.started _ _ _ _ (λ a. (refl, h))
      (λ a. both_each (λ node. step (first two) node (order_for orders.Start)) (λ node. step (second two) node (order_for orders.Start))
      (λ node. both_order two there event scripted node orders.Start tt) starting_nodes (record s { started = true })
      (same_links (first two) two.facts 0 s (record s { started = true }) h refl refl refl refl refl))

  pub both_attach : (plan : Plan) → event ≡ events.Attach plan → BothKeep two (attach (first two) plan) (attach (second two) plan)
  unfolding attach
  both_attach plan is s h =
      both_choose two (was_attached s plan.ue) _ _ _ _ (λ a. (refl, h))
      (λ fresh. both_choose two (not (has_started plan s)) _ _ _ _ (λ a. (refl, h))
      (λ a. both_ordered two s h (does (first two) (CuCp plan.gnb) (order_for (orders.Attach plan)) None (with_terminal (first two) plan) s)
      (does (second two) (CuCp plan.gnb) (order_for (orders.Attach plan)) None (with_terminal (second two) plan) s)
      (both_does two there event scripted (by_attach plan) s h (is, fresh) tt)))

  -- ---- offer

  both_on_path : (ue : UeId) (bearer : BearerId) (p : List ℕ) → two.packet p → (s : State M C L P) → Hold two.facts s → (o : Option CorePath)
      → find ue_cmp s.core.paths ue ≡ o → Both two (offer_on_path (first two) ue bearer p s o) (offer_on_path (second two) ue bearer p s o)
  both_on_path ue bearer p fits s h None found = (refl, h)
  both_on_path ue bearer p fits s h (Some path) found =
      both_choose two (nat_lt largest_packet (length p)) _ _ _ _ (λ a. (refl, h)) (λ a. (
        ap (λ (e : Within M C L P). as_step (Some Core) (e next check_spans)) (same_put_on_tunnel (first two) two.answer end item t),
        step_holds (first two) two.facts (Some Core) (put_on_tunnel (first two) end item t next check_spans)
            (then_holds (first two) two.facts 0 0 (put_on_tunnel (first two) end item t) check_spans
            (keep_put_on_tunnel (first two) two.facts end item (there.lays s.core ue bearer p path h.core fits found) 0 t
            (same_links (first two) two.facts 0 s t h refl refl refl refl refl))
            (λ x k. keep_checked (first two) two.facts 0 x k)),
      ))
    where
      end : TunnelEnd
      end = record { node = path.up; teid = teid_of path.n3 bearer }

      item : Item L
      item = record { key = entity ue bearer Dl; count = None; content = two.world.lay_n3 (teid_of path.n3 bearer) p }

      t : State M C L P
      t = offered (first two) (entity ue bearer Dl) s

  both_offer_by : (dir : Dir) (ue : UeId) (bearer : BearerId) (p : List ℕ) → event ≡ events.Offer ue bearer dir p
      → IsScripted two.input two.packet two.plan (events.Offer ue bearer dir p) → (s : State M C L P) → Hold two.facts s → has_bearer s ue bearer ≡ true
      → Both two (offer_by (first two) dir ue bearer p s) (offer_by (second two) dir ue bearer p s)
  both_offer_by Dl ue bearer p is fits s h has = both_on_path ue bearer p fits s h (find ue_cmp s.core.paths ue) refl
  both_offer_by Ul ue bearer p is fits s h has =
      both_ordered two s h (does (first two) (Ue ue.0) (offer_for ue bearer p) None (λ t. goes_on (offered (first two) (entity ue bearer Ul) t)) s)
      (does (second two) (Ue ue.0) (offer_for ue bearer p) None (λ t. goes_on (offered (second two) (entity ue bearer Ul) t)) s)
      (both_does two there event scripted (by_offer ue bearer p) s h (is, has) fits)

  pub both_offer : (ue : UeId) (bearer : BearerId) (dir : Dir) (p : List ℕ) → event ≡ events.Offer ue bearer dir p
      → IsScripted two.input two.packet two.plan (events.Offer ue bearer dir p)
      → BothKeep two (offer (first two) ue bearer dir p) (offer (second two) ue bearer dir p)
  unfolding offer
  both_offer ue bearer dir p is fits s h =
      both_choose two (has_bearer s ue bearer) _ _ _ _ (λ has. both_offer_by dir ue bearer p is fits s h has) (λ a. (refl, h))

  -- ---- get

  both_got : (end : TunnelEnd) (s : State M C L P) → Hold two.facts s → (d : Done M C L P) → DoneHolds two d
      → Both two (got_by (first two) end s d) (got_by (second two) end s d)
  both_got end s h (is_done outcome) k = (refl, k)
  both_got end s h (is_held reason) k = (refl, h)
  both_got end s h (is_refused reason) k = (refl, h)

  both_get_on : (end : TunnelEnd) (s : State M C L P) → Hold two.facts s → (o : Option (List (Item L))) → find tunnel_cmp s.tunnels end ≡ o
      → Both two (get_on (first two) end s o) (get_on (second two) end s o)
  both_get_on end s h None found = (refl, h)
  both_get_on end s h (Some []) found = (refl, h)
  both_get_on end s h (Some (item ∷ rest)) found =
      both_by two (get_done (first two) end item rest s) (get_done (second two) end item rest s) (got_by (first two) end s) (got_by (second two) end s)
      (both_does two there event scripted (by_item end item rest) s h found tt) (both_got end s h)

  pub both_get : (end : TunnelEnd) → BothKeep two (get (first two) end) (get (second two) end)
  unfolding get
  both_get end s h = both_get_on end s h (find tunnel_cmp s.tunnels end) refl

  -- ---- air and ack

  both_carried : (key : EntityKey) (home : NodeId) (s : State M C L P) → Hold two.facts s → (d : Done M C L P) → DoneHolds two d
      → Both two (carried_by (first two) key home s d) (carried_by (second two) key home s d)
  both_carried key home s h (is_done outcome) k = (refl, k)
  both_carried key home s h (is_held reason) k = (refl, h)
  both_carried key home s h (is_refused reason) k = (refl, h)

  both_air_item : (key : EntityKey) (home : NodeId) (s : State M C L P) → Hold two.facts s → ready_home s key.ue ≡ Some home → (o : Option (Item P))
      → nth (radio_of s key).items (radio_of s key).carried ≡ o → Both two (air_item (first two) key home s o) (air_item (second two) key home s o)
  both_air_item key home s h ready None found = (refl, h)
  both_air_item key home s h ready (Some item) found =
      both_by two (carry_done (first two) key home item s) (carry_done (second two) key home item s) (carried_by (first two) key home s)
      (carried_by (second two) key home s) (both_does two there event scripted (by_air key home item) s h (ready, found) tt) (both_carried key home s h)

  both_air_at : (key : EntityKey) (s : State M C L P) → Hold two.facts s → (o : Option NodeId) → ready_home s key.ue ≡ o
      → Both two (air_at (first two) key s o) (air_at (second two) key s o)
  both_air_at key s h None ready = (refl, h)
  both_air_at key s h (Some home) ready = both_air_item key home s h ready (nth (radio_of s key).items (radio_of s key).carried) refl

  pub both_air : (key : EntityKey) → BothKeep two (air (first two) key) (air (second two) key)
  unfolding air
  both_air key s h = both_choose two (has_bearer s key.ue key.bearer) _ _ _ _ (λ a. both_air_at key s h (ready_home s key.ue) refl) (λ a. (refl, h))

  both_ack_items : (key : EntityKey) (home : NodeId) (s : State M C L P) → Hold two.facts s → ready_home s key.ue ≡ Some home → (items : List (Item P))
      → (radio_of s key).items ≡ items
      → Both two (ack_items (first two) key home s items (radio_of s key).carried) (ack_items (second two) key home s items (radio_of s key).carried)
  both_ack_items key home s h ready [] are = (refl, h)
  both_ack_items key home s h ready (item ∷ rest) are =
      both_choose two ((radio_of s key).carried == 0) _ _ _ _ (λ a. (refl, h))
      (λ some. both_ordered two s h (confirm_done (first two) key home item rest s) (confirm_done (second two) key home item rest s)
      (both_does two there event scripted (by_ack key home item rest) s h (ready, are, some) tt))

  both_ack_at : (key : EntityKey) (s : State M C L P) → Hold two.facts s → (o : Option NodeId) → ready_home s key.ue ≡ o
      → Both two (ack_at (first two) key s o) (ack_at (second two) key s o)
  both_ack_at key s h None ready = (refl, h)
  both_ack_at key s h (Some home) ready = both_ack_items key home s h ready (radio_of s key).items refl

  pub both_ack : (key : EntityKey) → BothKeep two (ack (first two) key) (ack (second two) key)
  unfolding ack
  both_ack key s h = both_choose two (has_bearer s key.ue key.bearer) _ _ _ _ (λ a. both_ack_at key s h (ready_home s key.ue) refl) (λ a. (refl, h))

  -- ---- give, lose and pump

  -- the core's outputs are put
  both_core_puts : (outputs : List (Put M L P)) (e : Within M C L P) → (e next put_out_all (first two) Core None outputs next check_spans)
      ≡ (e next put_out_all (second two) Core None outputs next check_spans)
  both_core_puts outputs e = λ i. e next (λ t. same_put_all (first two) two.answer Core None outputs t i) next check_spans

  both_core : (number : ℕ) (l : ControlMessage M) (s : State M C L P) → Hold two.facts s → control_message s.bag number ≡ Some l → l.to ≡ Core
      → (answer : CoreStepped M C L P) → two.world.core_answer (sn_of s) s.core (control_message_for l.from l.message) ≡ answer
      → Both two (core_put (first two) number l s answer) (core_put (second two) number l s answer)
  unfolding landed control_message
  both_core number l s h found at (core_stepped outputs core) is = (
    λ i. if same_many (first two) two.answer outputs s i then stops [] (spent_counter control_messages_spent)
        else as_step (Some Core) (both_core_puts outputs (landed_as (first two) number l (record s { core = core })) i),
    by (too_many_control_messages (first two) outputs s) refl,
  )
    where
      n : ℕ
      n = count_control_messages (first two) outputs

      fits : GivenFits two.facts Core None (control_message_for l.from l.message)
      fits = (
        l.ue,
        subst (λ (x : NodeId). two.facts.control_message (record { from = l.from; to = x; ue = l.ue; message = l.message })) at
            (found_has nat_cmp two.facts.control_message s.bag.control_messages number l h.control_messages found),
      )

      by : (t : Bool) → too_many_control_messages (first two) outputs s ≡ t
          → HoldsWith (first two) two.facts 0 (if t then stops [] (spent_counter control_messages_spent)
          else as_step (Some Core) (landed_as (first two) number l (record s { core = core }) next put_out_all (first two) Core None outputs next check_spans))
      by true many = tt
      by false few =
          let answered = there.core_answers (sn_of s) s.core core (control_message_for l.from l.message) outputs h.core fits tt is in
          let ready : HoldWith two.facts n (record s { core = core }) =
          core_ready (first two) two.facts s core n h answered.0 (λ c. absurd (there.uncounted c)) in
          core_holds (first two) two.facts s core outputs (landed_as (first two) number l (record s { core = core })) (record {
            units = ready.units;
            core = ready.core;
            control_messages = ready.control_messages;
            tunnels = ready.tunnels;
            radios = ready.radios;
            few = ready.few;
          }) answered.1

  both_land : (number : ℕ) (l : ControlMessage M) (s : State M C L P) → Hold two.facts s → HoldsWith (first two) two.facts 0 (landed_as (first two) number l s)
  unfolding landed
  both_land number l s h = record {
    units = h.units;
    core = h.core;
    control_messages = h.control_messages;
    tunnels = h.tunnels;
    radios = h.radios;
    few = h.few;
  }

  both_to_unit : (number : ℕ) (l : ControlMessage M) (node : NodeId) (s : State M C L P) → Hold two.facts s → control_message s.bag number ≡ Some l → l.to ≡ node
      → Both two (if takes_control_messages s node
      then ordered_by (first two) s (does (first two) node (control_message_for l.from l.message) None (landed_as (first two) number l) s)
      else as_step (Some node) (landed_as (first two) number l s))
      (if takes_control_messages s node
      then ordered_by (second two) s (does (second two) node (control_message_for l.from l.message) None (landed_as (second two) number l) s)
      else as_step (Some node) (landed_as (second two) number l s))
  both_to_unit number l node s h found at =
      both_choose two (takes_control_messages s node) _ _ _ _
      (λ takes. both_ordered two s h (does (first two) node (control_message_for l.from l.message) None (landed_as (first two) number l) s)
      (does (second two) node (control_message_for l.from l.message) None (landed_as (second two) number l) s)
      (both_does two there event scripted (by_control_message number l node) s h (found, at, takes) tt))
      (λ a. (refl, both_land number l s h))

  both_to : (number : ℕ) (l : ControlMessage M) (node : NodeId) (s : State M C L P) → Hold two.facts s → control_message s.bag number ≡ Some l → l.to ≡ node
      → Both two (give_to (first two) number l node s) (give_to (second two) number l node s)
  both_to number l Core s h found at = both_core number l s h found at (two.world.core_answer (sn_of s) s.core (control_message_for l.from l.message)) refl
  both_to number l (CuCp gnb) s h found at = both_to_unit number l (CuCp gnb) s h found at
  both_to number l (CuUp gnb n) s h found at = both_to_unit number l (CuUp gnb n) s h found at
  both_to number l (Du gnb n) s h found at = both_to_unit number l (Du gnb n) s h found at
  both_to number l (Ue ue) s h found at = both_to_unit number l (Ue ue) s h found at

  both_give_on : (number : ℕ) (s : State M C L P) → Hold two.facts s → (o : Option (ControlMessage M)) → control_message s.bag number ≡ o
      → Both two (give_on (first two) number s o) (give_on (second two) number s o)
  both_give_on number s h None found = (refl, h)
  both_give_on number s h (Some l) found = both_to number l l.to s h found refl

  pub both_give : (number : ℕ) → BothKeep two (give (first two) number) (give (second two) number)
  unfolding give
  both_give number s h = both_give_on number s h (control_message s.bag number) refl

  both_lose_message_on : (number : ℕ) (s : State M C L P) → Hold two.facts s → (o : Option (ControlMessage M))
      → Both two (lose_message_on (first two) number s o) (lose_message_on (second two) number s o)
  unfolding landed
  both_lose_message_on number s h None = (refl, h)
  both_lose_message_on number s h (Some l) =
      both_choose two (is_in number s.bag.flight) _ _ _ _ (λ a. (
        refl,
        record {
          units = h.units;
          core = h.core;
          control_messages = h.control_messages;
          tunnels = h.tunnels;
          radios = h.radios;
          few = h.few;
        },
      )) (λ a. (refl, h))

  pub both_lose_message : (number : ℕ) → BothKeep two (lose_message (first two) number) (lose_message (second two) number)
  unfolding lose_message
  both_lose_message number s h = both_lose_message_on number s h (control_message s.bag number)

  both_lose_items : (end : TunnelEnd) (s : State M C L P) → Hold two.facts s → (items : List (Item L)) → find tunnel_cmp s.tunnels end ≡ Some items
      → Both two (lose_items (first two) end s items) (lose_items (second two) end s items)
  both_lose_items end s h [] found = (refl, h)
  both_lose_items end s h (item ∷ rest) found = (refl, with_tunnels (first two) two.facts 0 s end rest h (h.tunnels end (item ∷ rest) found).1)

  both_is_lossy : (node : NodeId) → is_lossy (first two) node ≡ is_lossy (second two) node
  both_is_lossy (CuCp gnb) = refl
  both_is_lossy (CuUp gnb n) = refl
  both_is_lossy (Du gnb n) = refl
  both_is_lossy Core = refl
  both_is_lossy (Ue ue) = refl

  both_lose_item_on : (end : TunnelEnd) (s : State M C L P) → Hold two.facts s → (o : Option (List (Item L))) → find tunnel_cmp s.tunnels end ≡ o
      → Both two (lose_item_on (first two) end s o) (lose_item_on (second two) end s o)
  both_lose_item_on end s h None found = (refl, h)
  both_lose_item_on end s h (Some items) found =
      subst (λ (t : Bool). Both two (if is_lossy (first two) end.node then lose_items (first two) end s items else refused NotAllowed s)
      (if t then lose_items (second two) end s items else refused NotAllowed s)) (both_is_lossy end.node)
      (both_choose two (is_lossy (first two) end.node) _ _ _ _ (λ a. both_lose_items end s h items found) (λ a. (refl, h)))

  pub both_lose_item : (end : TunnelEnd) → BothKeep two (lose_item (first two) end) (lose_item (second two) end)
  unfolding lose_item
  both_lose_item end s h = both_lose_item_on end s h (find tunnel_cmp s.tunnels end) refl

  both_pump_on : (f g : State M C L P → Outcome M C L P) → BothKeep two f g → (numbers : List ℕ)
      → BothKeep two (λ s. pump_on (first two) f s numbers) (λ s. pump_on (second two) g s numbers)
  both_pump_on f g k [] s h = (refl, h)
  both_pump_on f g k (number ∷ numbers) s h =
      both_then two (give (first two) number s) (give (second two) number s) f g (both_give number s h) k

  both_pump_times : (times : ℕ) → BothKeep two (pump_times (first two) times) (pump_times (second two) times)
  both_pump_times zero s h = (refl, h)
  both_pump_times (suc times) s h =
      both_pump_on (pump_times (first two) times) (pump_times (second two) times) (both_pump_times times) s.bag.flight s h

  pub both_pump : BothKeep two (pump (first two)) (pump (second two))
  unfolding pump
  both_pump s h = both_pump_times (pump_limit (first two)) s h

  -- ---- tick, poll

  both_tick_of : (node : NodeId) → BothKeep two (step (first two) node tick_for) (step (second two) node tick_for)
  unfolding step
  both_tick_of node s h =
      both_ordered two s h (does (first two) node tick_for None goes_on s) (does (second two) node tick_for None goes_on s)
      (both_does two there event scripted (by_tick node) s h tt tt)

  pub both_tick : BothKeep two (tick (first two)) (tick (second two))
  unfolding tick
  both_tick s h =
      both_each (λ node. step (first two) node tick_for) (λ node. step (second two) node tick_for) both_tick_of (ticking s) s h

  both_poll_at : (ue : UeId) (bearer : BearerId) (gnb : Gnb) (o : Option (ℕ × ℕ))
      → BothKeep two (λ s. poll_at (first two) ue bearer gnb s o) (λ s. poll_at (second two) ue bearer gnb s o)
  both_poll_at ue bearer gnb None s h = (refl, h)
  both_poll_at ue bearer gnb (Some place) s h =
      both_choose two (is_unconfirmed (cu_up_of s.units gnb place.0) ue bearer) _ _ _ _
      (λ a. both_order two there event scripted (CuUp gnb place.0) (orders.Poll ue bearer) tt s h) (λ a. (refl, h))

  pub both_poll : (ue : UeId) (bearer : BearerId) → BothKeep two (poll (first two) ue bearer) (poll (second two) ue bearer)
  unfolding poll
  both_poll ue bearer s h =
      both_choose two (has_bearer s ue bearer) _ _ _ _ (λ a. both_poll_at ue bearer (serving_gnb s ue) (serving_place s ue) s h) (λ a. (refl, h))

  -- ---- fail, arrive, return

  pub both_fail : (ue : UeId) → BothKeep two (fail (first two) ue) (fail (second two) ue)
  unfolding fail
  both_fail ue s h =
      both_choose two (not (is_attached s ue)) _ _ _ _ (λ a. (refl, h))
      (λ a. both_choose two (is_connected (state_at s ue)) _ _ _ _ (λ b. both_order two there event scripted (Ue ue.0) (orders.Fail ue) tt s h) (λ b. (refl, h)))

  pub both_arrive : (ue : UeId) → BothKeep two (arrive (first two) ue) (arrive (second two) ue)
  unfolding arrive
  both_arrive ue s h =
      both_choose two (not (is_attached s ue)) _ _ _ _ (λ a. (refl, h))
      (λ a. both_choose two (is_accessing (state_at s ue)) _ _ _ _ (λ b. both_order two there event scripted (Ue ue.0) (orders.Arrive ue) tt s h) (λ b. (refl, h)))

  pub both_come_back : (ue : UeId) → BothKeep two (come_back (first two) ue) (come_back (second two) ue)
  unfolding come_back
  both_come_back ue s h =
      both_choose two (not (is_attached s ue)) _ _ _ _ (λ a. (refl, h))
      (λ a. both_choose two (not (is_some (ue_home (ue_of s.units ue)))) _ _ _ _ (λ b. (refl, h))
      (λ b. both_choose two (may_return (state_at s ue)) _ _ _ _ (λ c. both_order two there event scripted (Ue ue.0) (orders.Return ue) tt s h) (λ c. (refl, h))))

  -- ---- handover, cancel, release

  both_handover_to : (gnb : Gnb) (o : Option Plan) → BothKeep two (λ s. handover_to (first two) s gnb o) (λ s. handover_to (second two) s gnb o)
  both_handover_to gnb None s h = (refl, h)
  both_handover_to gnb (Some goal) s h = both_order two there event scripted (CuCp gnb) (orders.Handover goal) tt s h

  pub both_handover : (ue : UeId) (gnb : Gnb) (up du : ℕ) → BothKeep two (handover (first two) ue gnb up du) (handover (second two) ue gnb up du)
  unfolding handover
  both_handover ue gnb up du s h =
      both_choose two (not (is_attached s ue)) _ _ _ _ (λ a. (refl, h))
      (λ a. both_choose two (is_same_place gnb du (serving_gnb s ue) (serving_place s ue)) _ _ _ _ (λ b. (refl, h))
      (λ b. both_choose two (is_other_up gnb up (serving_gnb s ue) (serving_place s ue)) _ _ _ _ (λ c. (refl, h))
      (λ c. both_choose two (is_busy_with s ue) _ _ _ _ (λ d. (refl, h))
      (λ d. both_handover_to (serving_gnb s ue) (goal_of (find ue_cmp s.plans ue) ue gnb up du) s h))))

  pub both_cancel : (ue : UeId) → BothKeep two (cancel (first two) ue) (cancel (second two) ue)
  unfolding cancel
  both_cancel ue s h =
      both_choose two (not (is_attached s ue)) _ _ _ _ (λ a. (refl, h))
      (λ a. both_choose two (is_source s.units.cu_cp_a ue) _ _ _ _ (λ b. both_order two there event scripted (CuCp A) (orders.Cancel ue) tt s h)
      (λ b. both_choose two (is_source s.units.cu_cp_b ue) _ _ _ _ (λ c. both_order two there event scripted (CuCp B) (orders.Cancel ue) tt s h) (λ c. (refl, h))))

  pub both_release : (ue : UeId) → event ≡ events.Release ue → BothKeep two (release (first two) ue) (release (second two) ue)
  unfolding release
  both_release ue is s h =
      both_choose two (not (is_attached s ue)) _ _ _ _ (λ a. (refl, h))
      (λ a. both_choose two (is_busy_with s ue) _ _ _ _ (λ b. (refl, h))
      (λ b. both_ordered two s h (does (first two) (CuCp (serving_gnb s ue)) (order_for (orders.Release ue)) None (leaves (first two) ue) s)
      (does (second two) (CuCp (serving_gnb s ue)) (order_for (orders.Release ue)) None (leaves (second two) ue) s)
      (both_does two there event scripted (by_release (serving_gnb s ue) ue) s h (is, refl) tt)))

  -- ---- ask, inject

  pub both_ask : (ue : UeId) (bearer : BearerId) → BothKeep two (ask (first two) ue bearer) (ask (second two) ue bearer)
  unfolding ask
  both_ask ue bearer s h = both_choose two (has_bearer s ue bearer) _ _ _ _ (λ a. (refl, h)) (λ a. (refl, h))

  both_core_injected : (from : NodeId) (octets : List ℕ) → two.input Core (ins.Control from octets) → (s : State M C L P) → Hold two.facts s
      → (answer : CoreStepped M C L P) → two.world.core_answer (sn_of s) s.core (octets_from from octets) ≡ answer
      → Both two (core_injected (first two) s answer) (core_injected (second two) s answer)
  both_core_injected from octets fits s h (core_stepped outputs core) is =
      let answered = there.core_answers (sn_of s) s.core core (octets_from from octets) outputs h.core tt fits is in (
        λ i. as_step (Some Core) (same_put_all (first two) two.answer Core None outputs (record s { core = core }) i next check_spans),
        step_holds (first two) two.facts (Some Core) (put_out_all (first two) Core None outputs (record s { core = core }) next check_spans)
            (then_holds (first two) two.facts 0 0 (put_out_all (first two) Core None outputs (record s { core = core })) check_spans
            (keep_put_all (first two) two.facts Core None outputs answered.1 (record s { core = core })
            (core_ready (first two) two.facts s core (count_control_messages (first two) outputs) h answered.0 (λ c. absurd (there.uncounted c))))
            (λ x k. keep_checked (first two) two.facts 0 x k)),
      )

  both_octets : (from to : NodeId) (octets : List ℕ) → two.input to (ins.Control from octets)
      → BothKeep two (step (first two) to (octets_from from octets)) (step (second two) to (octets_from from octets))
  unfolding step
  both_octets from to octets fits s h =
      both_ordered two s h (does (first two) to (octets_from from octets) None goes_on s) (does (second two) to (octets_from from octets) None goes_on s)
      (both_does two there event scripted (by_octets from to octets) s h tt fits)

  both_inject_to : (from to : NodeId) (octets : List ℕ) → two.input to (ins.Control from octets)
      → BothKeep two (inject_to (first two) from to octets) (inject_to (second two) from to octets)
  both_inject_to from Core octets fits s h =
      both_core_injected from octets fits s h (two.world.core_answer (sn_of s) s.core (octets_from from octets)) refl
  both_inject_to from (CuCp gnb) octets fits s h = both_octets from (CuCp gnb) octets fits s h
  both_inject_to from (CuUp gnb n) octets fits s h = both_octets from (CuUp gnb n) octets fits s h
  both_inject_to from (Du gnb n) octets fits s h = both_octets from (Du gnb n) octets fits s h
  both_inject_to from (Ue ue) octets fits s h = both_octets from (Ue ue) octets fits s h

  pub both_inject_message : (from to : NodeId) (octets : List ℕ) → two.input to (ins.Control from octets)
      → BothKeep two (inject_message (first two) from to octets) (inject_message (second two) from to octets)
  unfolding inject_message
  both_inject_message from to octets fits s h =
      both_choose two (not (is_interface s from to)) _ _ _ _ (λ a. (refl, h))
      (λ a. both_choose two (two.world.is_message from to octets) _ _ _ _ (λ b. (refl, h)) (λ b. both_inject_to from to octets fits s h))

  both_octets_on : (end : TunnelEnd) (octets : List ℕ) → two.input end.node (ins.Packet end.teid octets)
      → BothKeep two (step (first two) end.node (octets_on end.teid octets)) (step (second two) end.node (octets_on end.teid octets))
  unfolding step
  both_octets_on end octets fits s h =
      both_ordered two s h (does (first two) end.node (octets_on end.teid octets) None goes_on s)
      (does (second two) end.node (octets_on end.teid octets) None goes_on s) (both_does two there event scripted (by_octets_on end octets) s h tt fits)

  pub both_inject_item : (end : TunnelEnd) (octets : List ℕ) → two.input end.node (ins.Packet end.teid octets)
      → BothKeep two (inject_item (first two) end octets) (inject_item (second two) end octets)
  unfolding inject_item
  both_inject_item end octets fits s h =
      both_choose two (not (is_some (find tunnel_cmp s.tunnels end))) _ _ _ _ (λ a. (refl, h))
      (λ a. both_choose two (two.world.is_item s.units end octets) _ _ _ _ (λ b. (refl, h)) (λ b. both_octets_on end octets fits s h))
