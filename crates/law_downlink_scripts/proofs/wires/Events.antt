-- Each event keeps to the links.
use Rattle.std.proofs.Common.{◌≡◌, ◌==◌, ℕ, zero, suc, ◌+◌, Bool, true, false, not, ◌&&◌, ◌||◌, ◌*◌, List, [], ◌∷◌, ◌++◌, map, Option, Some, None, refl, sym, ap, ◌∙◌, cond}
use Rattle.std.specs.Prelude.{if◌then◌else◌, is_some}
use Rattle.std.specs.Ordering.{eq_by_cmp}
use Rattle.gnb_types.specs.declared.names.Gnb.{Gnb}
use Rattle.gnb_types.specs.declared.names.Gnb.TheVariants.{A, B}
use Rattle.gnb_types.specs.declared.names.NodeId.{NodeId}
use Rattle.gnb_types.specs.declared.names.NodeId.TheVariants.{CuCp, CuUp, Du, Core, Ue}
use Rattle.gnb_types.specs.declared.names.UeId.{UeId}
use Rattle.gnb_types.specs.declared.names.BearerId.{BearerId}
use Rattle.gnb_types.specs.declared.names.Dir.{Dir}
use Rattle.gnb_types.specs.declared.names.Dir.TheVariants.{Dl, Ul}
use Rattle.gnb_types.specs.declared.keys.TunnelEnd.{TunnelEnd}
use Rattle.gnb_types.specs.declared.keys.EntityKey.{EntityKey}
use Rattle.gnb_types.specs.declared.plans.Plan.{Plan}
use Rattle.gnb_types.specs.declared.inputs.Order.TheVariants as orders
use Rattle.gnb_types.specs.declared.reasons.RefuseReason.TheVariants.{Attached, NotStarted, NoUe, NoHome, Busy, NotAllowed, Empty, NoLink, NoSuch, Decodable}
use Rattle.gnb_types.specs.declared.reasons.RefuseReason.TheVariants as RefuseReasons
use Rattle.gnb_types.specs.Orders.{ue_cmp, tunnel_cmp}
use Rattle.gnb_types.proofs.OrderLemmas.{ue_total}
use Rattle.tables.specs.Tables.{find, put}
use Rattle.tables.proofs.TableLaws.{find-put, find-put-same}
use Rattle.unit_defs.specs.Core.{CorePath}
use Rattle.unit_defs.specs.Ways.{teids_spent}
use Rattle.unit_defs.specs.Ue.{may_return}
use Rattle.unit_defs.specs.Accessors.{ue_home}
use Rattle.unit_defs.specs.Static.{cu_up_has_room, cu_up_has_teids, du_has_teids}
use Rattle.transport_defs.specs.declared.Item.{Item}
use Rattle.transport_defs.specs.declared.ControlMessage.{ControlMessage}
use Rattle.transport_defs.specs.Links.{control_message, landed, nth, is_in}
use Rattle.run_defs.specs.Lines.{is_quiet, is_busy, lost_message}
use Rattle.run_defs.specs.Said.{OnLinks}
use Rattle.run_defs.specs.Units.{starting_nodes, cu_up_of, du_of, ue_of, is_source}
use Rattle.run_defs.specs.States.{State, control_message_for, item_for, carried_for, confirmed_for, offer_for, tick_for, order_for, octets_from, octets_on, prints, sn_of, World, stops, goes_on, Outcome, as_step, refused, entity, CoreStepped, core_stepped, was_attached, is_attached, radio_of, spent_counter}
use Rattle.run_defs.specs.Steps.{with_tunnel, check_spans, put_out_all, lose_radios, connect_in, Done, is_done, is_held, is_refused, does, ordered_by, step, too_many_control_messages, control_messages_spent}
use Rattle.run_defs.specs.Conditions.{tunnels_from, statically, seated, ready_home, receiver_of, sender_of, takes_control_messages, ticking, serving_gnb, serving_place, goal_of, rests, has_started, state_at, is_same_place, is_other_up, is_busy_with, is_interface, is_held_by_units}
use Rattle.run_defs.specs.Events.{taken_off, carried_off, confirmed_off, pump_limit, static, order_each, start, with_terminal, attach, offered, offer_on_path, offer_by, offer, get_done, got_by, get_on, get, carry_done, carried_by, air_item, air_at, air, confirm_done, ack_items, ack_at, ack, landed_as, core_put, give_to, give_on, give, lose_message_on, lose_message, lose_items, lose_item_on, lose_item, pump_on, pump_times, pump, tick, poll_at, poll, fail, arrive, come_back, handover_to, handover, cancel, leaves, release, ask, core_injected, inject_to, inject_message, inject_item}
use Rattle.law_downlink_scripts.proofs.wires.Endings.{Goes, then_line}
use Rattle.law_downlink_scripts.proofs.wires.Tunnels.{items_at, opened_same}
use Rattle.law_downlink_scripts.proofs.wires.Kept.{AreSeated, tunnel_item, Kept, goes_on_tunnel, first_out, goes_taken, goes_landed, goes_carried, goes_confirmed}
use Rattle.law_downlink_scripts.proofs.wires.Lost.{Cleared, goes_cleared, kept_connected}
use Rattle.law_downlink_scripts.proofs.wires.Steps.{KeepsTo, Keeps, then_more, a_step, just_goes_on, goes_checked, goes_out_all, DoneGoes, DoneKeeps, goes_does, choose, choose_by, goes_refused, goes_ordered, goes_step}

is_some_not : {X : Type 0} (o : Option X) → is_some o ≡ false → o ≡ None
is_some_not None e = refl
is_some_not (Some x) e = absurd cc

neither : (a b : Bool) → a || b ≡ false → a ≡ false
neither true b e = e
neither false b e = refl

seated_more : (connected : List (UeId × ℕ)) (plans : List (UeId × Plan)) (plan : Plan) → AreSeated connected plans
    → AreSeated connected (put ue_cmp plans plan.ue plan)
seated_more connected plans plan seated u none = by (eq_by_cmp ue_cmp u plan.ue) (sym (find-put ue_total plans plan.ue plan u) ∙ none)
  where
    by : (t : Bool) → cond t (Some plan) (find ue_cmp plans u) ≡ None → find ue_cmp connected u ≡ None
    by true e = absurd cc
    by false e = seated u e

opened_all : {X : Type 0} (node : NodeId) (teid count : ℕ) (tunnels : List (TunnelEnd × List (Item X))) (q : TunnelEnd)
    → items_at (tunnels_from node teid count tunnels) q ≡ items_at tunnels q
opened_all node teid zero tunnels q = refl
opened_all node teid (suc count) tunnels q =
    opened_all node (teid + 1) count (with_tunnel (record { node = node; teid = teid }) tunnels) q
    ∙ opened_same (record { node = node; teid = teid }) tunnels q

module _ {M C L P : Type 0} (world : World M C L P) where
  -- ---- static

  kept_static : (plan : Plan) (on : OnLinks M) (s : State M C L P) → Kept world on s → find ue_cmp s.plans plan.ue ≡ None
      → Kept world on (statically plan s)
  kept_static plan on s k none =
      let up = (cu_up_of s.units plan.gnb plan.up).next_teid in
      let du = (du_of s.units plan.gnb plan.du).next_teid in
      let ups : List (TunnelEnd × List (Item L)) = tunnels_from (CuUp plan.gnb plan.up) up (2 * plan.bearers) s.tunnels in
      let t : State M C L P = record (seated plan s) { tunnels = tunnels_from (Du plan.gnb plan.du) du plan.bearers ups } in
      kept_connected world plan.ue (Some 1) on t (
        λ q. k.0 q ∙ ap (map (tunnel_item world)) (sym (opened_all (Du plan.gnb plan.du) du plan.bearers ups q
            ∙ opened_all (CuUp plan.gnb plan.up) up (2 * plan.bearers) s.tunnels q)),
        k.1,
        k.2,
        seated_more s.connected s.plans plan k.3,
      )
      (λ q of. k.1.idle q (ap (find ue_cmp s.connected) of ∙ k.3 plan.ue none))
      (λ e is gone. let there = find-put-same ue_total s.plans plan.ue plan in absurd cc)

  pub goes_static : (plan : Plan) → Keeps world (static world plan)
  unfolding static
  goes_static plan on s k =
      choose_by world on (was_attached s plan.ue || is_held_by_units plan s.units) (refused Attached s) _ (λ h. goes_refused world Attached on s k)
      (λ h. choose world on (not (cu_up_has_room (cu_up_of s.units plan.gnb plan.up) plan)) _ _ (goes_refused world RefuseReasons.Quota on s k)
      (choose world on
      (cu_up_has_teids (cu_up_of s.units plan.gnb plan.up) plan && du_has_teids (du_of s.units plan.gnb plan.du) plan)
      (goes_on (statically plan s)) (stops [] (spent_counter teids_spent))
      (record { it = (tt, kept_static plan on s k (is_some_not _ (neither _ (is_held_by_units plan s.units) h))) }) (record { it = tt })))

  -- ---- start and attach

  pub goes_each : (f : NodeId → State M C L P → Outcome M C L P) → ((node : NodeId) → Keeps world (f node)) → (nodes : List NodeId)
      → Keeps world (order_each world f nodes)
  goes_each f kf [] on s k = just_goes_on world on s k
  goes_each f kf (node ∷ nodes) on s k =
      then_more world on (f node s) (order_each world f nodes) (kf node on s k) (goes_each f kf nodes)

  pub goes_start : Keeps world (start world)
  unfolding start
  goes_start on s k =
      choose world on _ _ _ (goes_refused world _ on s k)
      (goes_each (λ node. step world node (order_for orders.Start)) (λ node. goes_step world node (order_for orders.Start)) starting_nodes
      on (record s { started = true }) k)

  pub goes_attach : (plan : Plan) → Keeps world (attach world plan)
  unfolding attach
  goes_attach plan on s k =
      choose world on (was_attached s plan.ue) _ _ (goes_refused world Attached on s k)
      (choose world on (not (has_started plan s)) _ _ (goes_refused world NotStarted on s k)
      (goes_ordered world on s k _
      (goes_does world (CuCp plan.gnb) None (with_terminal world plan) on s
      (λ units. (tt, (k.0, k.1, k.2, seated_more s.connected s.plans plan k.3))) (order_for (orders.Attach plan)))))

  -- ---- offer

  goes_on_path : (ue : UeId) (bearer : BearerId) (p : List ℕ) (o : Option CorePath) → Keeps world (λ s. offer_on_path world ue bearer p s o)
  goes_on_path ue bearer p None on s k = goes_refused world _ on s k
  goes_on_path ue bearer p (Some path) on s k =
      choose world on _ _ _ (goes_refused world _ on s k)
      (a_step world on (Some Core) _
      (then_line (Kept world) (Kept world) on _ check_spans
      (goes_on_tunnel world on (offered world (entity ue bearer Dl) s) k _ _) (goes_checked world)))

  goes_offer_by : (dir : Dir) (ue : UeId) (bearer : BearerId) (p : List ℕ) → Keeps world (offer_by world dir ue bearer p)
  goes_offer_by Dl ue bearer p on s k = goes_on_path ue bearer p (find ue_cmp s.core.paths ue) on s k
  goes_offer_by Ul ue bearer p on s k =
      goes_ordered world on s k _
      (goes_does world (Ue ue.0) None (λ t. goes_on (offered world (entity ue bearer Ul) t)) on s (λ units. (tt, k)) (offer_for ue bearer p))

  pub goes_offer : (ue : UeId) (bearer : BearerId) (dir : Dir) (p : List ℕ) → Keeps world (offer world ue bearer dir p)
  unfolding offer
  goes_offer ue bearer dir p on s k = choose world on _ _ _ (goes_offer_by dir ue bearer p on s k) (goes_refused world _ on s k)

  -- ---- get

  pub goes_get_done : (end : TunnelEnd) (item : Item L) (rest : List (Item L)) (on : OnLinks M) (s : State M C L P) → Kept world on s
      → find tunnel_cmp s.tunnels end ≡ Some (item ∷ rest) → DoneKeeps world on (get_done world end item rest s)
  goes_get_done end item rest on s k found =
      goes_does world end.node item.count (taken_off world end item rest) on s
      (λ units. goes_taken world on (record s { units = units }) k end item rest found) (item_for end.teid item)

  goes_got : (end : TunnelEnd) (on : OnLinks M) (s : State M C L P) → Kept world on s → (d : Done M C L P) → DoneGoes world on d
      → KeepsTo world on (got_by world end s d)
  goes_got end on s k (is_done outcome) p = p
  goes_got end on s k (is_held reason) p = record { it = ((tt, tt), k) }
  goes_got end on s k (is_refused reason) p = goes_refused world reason on s k

  goes_get_on : (end : TunnelEnd) (on : OnLinks M) (s : State M C L P) → Kept world on s → (o : Option (List (Item L)))
      → find tunnel_cmp s.tunnels end ≡ o → KeepsTo world on (get_on world end s o)
  goes_get_on end on s k None found = goes_refused world _ on s k
  goes_get_on end on s k (Some []) found = goes_refused world _ on s k
  goes_get_on end on s k (Some (item ∷ rest)) found =
      goes_got end on s k (get_done world end item rest s) (goes_get_done end item rest on s k found).it

  pub goes_get : (end : TunnelEnd) → Keeps world (get world end)
  unfolding get
  goes_get end on s k = goes_get_on end on s k (find tunnel_cmp s.tunnels end) refl

  -- ---- air and ack

  pub goes_carry_done : (key : EntityKey) (home : NodeId) (item : Item P) (on : OnLinks M) (s : State M C L P) → Kept world on s
      → nth (radio_of s key).items (radio_of s key).carried ≡ Some item → DoneKeeps world on (carry_done world key home item s)
  goes_carry_done key home item on s k found =
      goes_does world (receiver_of key home) item.count (carried_off world key item) on s
      (λ units. goes_carried world on (record s { units = units }) k key item found) (carried_for item)

  goes_carried_by : (key : EntityKey) (home : NodeId) (on : OnLinks M) (s : State M C L P) → Kept world on s → (d : Done M C L P)
      → DoneGoes world on d → KeepsTo world on (carried_by world key home s d)
  goes_carried_by key home on s k (is_done outcome) p = p
  goes_carried_by key home on s k (is_held reason) p = record { it = ((tt, tt), k) }
  goes_carried_by key home on s k (is_refused reason) p = goes_refused world reason on s k

  goes_air_item : (key : EntityKey) (home : NodeId) (on : OnLinks M) (s : State M C L P) → Kept world on s → (o : Option (Item P))
      → nth (radio_of s key).items (radio_of s key).carried ≡ o → KeepsTo world on (air_item world key home s o)
  goes_air_item key home on s k None found = goes_refused world _ on s k
  goes_air_item key home on s k (Some item) found =
      goes_carried_by key home on s k (carry_done world key home item s) (goes_carry_done key home item on s k found).it

  goes_air_at : (key : EntityKey) (o : Option NodeId) → Keeps world (λ s. air_at world key s o)
  goes_air_at key None on s k = goes_refused world _ on s k
  goes_air_at key (Some home) on s k = goes_air_item key home on s k (nth (radio_of s key).items (radio_of s key).carried) refl

  pub goes_air : (key : EntityKey) → Keeps world (air world key)
  unfolding air
  goes_air key on s k = choose world on _ _ _ (goes_air_at key (ready_home s key.ue) on s k) (goes_refused world _ on s k)

  pub goes_confirm_done : (key : EntityKey) (home : NodeId) (item : Item P) (rest : List (Item P)) (on : OnLinks M) (s : State M C L P) → Kept world on s
      → (radio_of s key).items ≡ item ∷ rest → (radio_of s key).carried == 0 ≡ false → DoneKeeps world on (confirm_done world key home item rest s)
  goes_confirm_done key home item rest on s k are some =
      goes_does world (sender_of key home) item.count (confirmed_off world key rest) on s
      (λ units. goes_confirmed world on (record s { units = units }) k key item rest are some) (confirmed_for item)

  goes_ack_items : (key : EntityKey) (home : NodeId) (on : OnLinks M) (s : State M C L P) → Kept world on s → (items : List (Item P))
      → (radio_of s key).items ≡ items → KeepsTo world on (ack_items world key home s items (radio_of s key).carried)
  goes_ack_items key home on s k [] are = goes_refused world _ on s k
  goes_ack_items key home on s k (item ∷ rest) are =
      choose_by world on _ _ _ (λ h. goes_refused world _ on s k)
      (λ h. goes_ordered world on s k _ (goes_confirm_done key home item rest on s k are h))

  goes_ack_at : (key : EntityKey) (o : Option NodeId) → Keeps world (λ s. ack_at world key s o)
  goes_ack_at key None on s k = goes_refused world _ on s k
  goes_ack_at key (Some home) on s k = goes_ack_items key home on s k (radio_of s key).items refl

  pub goes_ack : (key : EntityKey) → Keeps world (ack world key)
  unfolding ack
  goes_ack key on s k = choose world on _ _ _ (goes_ack_at key (ready_home s key.ue) on s k) (goes_refused world _ on s k)

  -- ---- give, lose and pump

  goes_core : (number : ℕ) (l : ControlMessage M) (on : OnLinks M) (s : State M C L P) → Kept world on s → control_message s.bag number ≡ Some l
      → (answer : CoreStepped M C L P) → KeepsTo world on (core_put world number l s answer)
  goes_core number l on s k found (core_stepped outputs core) =
      choose world on (too_many_control_messages world outputs s) (stops [] (spent_counter control_messages_spent)) _ (record { it = tt })
      (a_step world on (Some Core) _
      (then_line (Kept world) (Kept world) on _ check_spans
      (then_line (Kept world) (Kept world) on (landed_as world number l (record s { core = core })) (put_out_all world Core None outputs)
      (goes_landed world on (record s { core = core }) k number l found) (goes_out_all world Core None outputs))
      (goes_checked world)))

  goes_to_unit : (number : ℕ) (l : ControlMessage M) (node : NodeId) (on : OnLinks M) (s : State M C L P) → Kept world on s → control_message s.bag number ≡ Some l
      → KeepsTo world on
      (if takes_control_messages s node then ordered_by world s (does world node (control_message_for l.from l.message) None (landed_as world number l) s)
      else as_step (Some node) (landed_as world number l s))
  goes_to_unit number l node on s k found =
      choose world on _ _ _
      (goes_ordered world on s k _
      (goes_does world node None (landed_as world number l) on s
      (λ units. goes_landed world on (record s { units = units }) k number l found) (control_message_for l.from l.message)))
      (a_step world on (Some node) (landed_as world number l s) (goes_landed world on s k number l found))

  goes_to : (number : ℕ) (l : ControlMessage M) (node : NodeId) (on : OnLinks M) (s : State M C L P) → Kept world on s → control_message s.bag number ≡ Some l
      → KeepsTo world on (give_to world number l node s)
  goes_to number l Core on s k found = goes_core number l on s k found (world.core_answer (sn_of s) s.core (control_message_for l.from l.message))
  goes_to number l (CuCp gnb) on s k found = goes_to_unit number l (CuCp gnb) on s k found
  goes_to number l (CuUp gnb n) on s k found = goes_to_unit number l (CuUp gnb n) on s k found
  goes_to number l (Du gnb n) on s k found = goes_to_unit number l (Du gnb n) on s k found
  goes_to number l (Ue ue) on s k found = goes_to_unit number l (Ue ue) on s k found

  goes_give_on : (number : ℕ) (on : OnLinks M) (s : State M C L P) → Kept world on s → (o : Option (ControlMessage M)) → control_message s.bag number ≡ o
      → KeepsTo world on (give_on world number s o)
  goes_give_on number on s k None found = goes_refused world _ on s k
  goes_give_on number on s k (Some l) found = goes_to number l l.to on s k found

  pub goes_give : (number : ℕ) → Keeps world (give world number)
  unfolding give
  goes_give number on s k = goes_give_on number on s k (control_message s.bag number) refl

  goes_lose_message_on : (number : ℕ) (o : Option (ControlMessage M)) → Keeps world (λ s. lose_message_on world number s o)
  unfolding landed
  goes_lose_message_on number None on s k = goes_refused world _ on s k
  goes_lose_message_on number (Some l) on s k =
      choose world on (is_in number s.bag.flight) (prints (lost_message number ∷ []) (record s { bag = landed s.bag number })) _
      (record { it = ((tt, tt), (k.0, k.1, k.2, k.3)) }) (goes_refused world _ on s k)

  pub goes_lose_message : (number : ℕ) → Keeps world (lose_message world number)
  unfolding lose_message
  goes_lose_message number on s k = goes_lose_message_on number (control_message s.bag number) on s k

  goes_lose_items : (end : TunnelEnd) (on : OnLinks M) (s : State M C L P) → Kept world on s → (items : List (Item L))
      → find tunnel_cmp s.tunnels end ≡ Some items → KeepsTo world on (lose_items world end s items)
  goes_lose_items end on s k [] found = goes_refused world _ on s k
  goes_lose_items end on s k (item ∷ rest) found = record { it = ((tt, tt), first_out world on s k end item rest found) }

  goes_lose_item_on : (end : TunnelEnd) (on : OnLinks M) (s : State M C L P) → Kept world on s → (o : Option (List (Item L)))
      → find tunnel_cmp s.tunnels end ≡ o → KeepsTo world on (lose_item_on world end s o)
  goes_lose_item_on end on s k None found = goes_refused world _ on s k
  goes_lose_item_on end on s k (Some items) found =
      choose world on _ _ _ (goes_lose_items end on s k items found) (goes_refused world _ on s k)

  pub goes_lose_item : (end : TunnelEnd) → Keeps world (lose_item world end)
  unfolding lose_item
  goes_lose_item end on s k = goes_lose_item_on end on s k (find tunnel_cmp s.tunnels end) refl

  goes_pump_on : (more : State M C L P → Outcome M C L P) → Keeps world more → (numbers : List ℕ) → Keeps world (λ s. pump_on world more s numbers)
  goes_pump_on more km [] on s k = just_goes_on world on s k
  goes_pump_on more km (number ∷ numbers) on s k =
      then_more world on (give world number s) more (goes_give number on s k) km

  goes_pump_times : (times : ℕ) → Keeps world (pump_times world times)
  goes_pump_times zero on s k = just_goes_on world on s k
  goes_pump_times (suc times) on s k = goes_pump_on (pump_times world times) (goes_pump_times times) s.bag.flight on s k

  pub goes_pump : Keeps world (pump world)
  unfolding pump
  goes_pump on s k = goes_pump_times (pump_limit world) on s k

  -- ---- tick, poll

  pub goes_tick : Keeps world (tick world)
  unfolding tick
  goes_tick on s k = goes_each (λ node. step world node tick_for) (λ node. goes_step world node tick_for) (ticking s) on s k

  goes_poll_at : (ue : UeId) (bearer : BearerId) (gnb : Gnb) (o : Option (ℕ × ℕ)) → Keeps world (λ s. poll_at world ue bearer gnb s o)
  goes_poll_at ue bearer gnb None on s k = goes_refused world _ on s k
  goes_poll_at ue bearer gnb (Some place) on s k = choose world on _ _ _ (goes_step world _ _ on s k) (goes_refused world _ on s k)

  pub goes_poll : (ue : UeId) (bearer : BearerId) → Keeps world (poll world ue bearer)
  unfolding poll
  goes_poll ue bearer on s k =
      choose world on _ _ _ (goes_poll_at ue bearer (serving_gnb s ue) (serving_place s ue) on s k) (goes_refused world _ on s k)

  -- ---- fail, arrive, return

  pub goes_fail : (ue : UeId) → Keeps world (fail world ue)
  unfolding fail
  goes_fail ue on s k =
      choose world on _ _ _ (goes_refused world _ on s k)
      (choose world on _ _ _ (goes_step world (Ue ue.0) (order_for (orders.Fail ue)) on s k) (goes_refused world _ on s k))

  pub goes_arrive : (ue : UeId) → Keeps world (arrive world ue)
  unfolding arrive
  goes_arrive ue on s k =
      choose world on _ _ _ (goes_refused world _ on s k)
      (choose world on _ _ _ (goes_step world (Ue ue.0) (order_for (orders.Arrive ue)) on s k) (goes_refused world _ on s k))

  pub goes_come_back : (ue : UeId) → Keeps world (come_back world ue)
  unfolding come_back
  goes_come_back ue on s k =
      choose world on (not (is_attached s ue)) _ _ (goes_refused world NoUe on s k)
      (choose world on (not (is_some (ue_home (ue_of s.units ue)))) _ _ (goes_refused world NoHome on s k)
      (choose world on (may_return (state_at s ue)) _ _ (goes_step world (Ue ue.0) (order_for (orders.Return ue)) on s k)
      (goes_refused world Busy on s k)))

  -- ---- handover, cancel, release

  goes_handover_to : (gnb : Gnb) (o : Option Plan) → Keeps world (λ s. handover_to world s gnb o)
  goes_handover_to gnb None on s k = goes_refused world _ on s k
  goes_handover_to gnb (Some goal) on s k = goes_step world _ _ on s k

  pub goes_handover : (ue : UeId) (gnb : Gnb) (up du : ℕ) → Keeps world (handover world ue gnb up du)
  unfolding handover
  goes_handover ue gnb up du on s k =
      choose world on (not (is_attached s ue)) _ _ (goes_refused world NoUe on s k)
      (choose world on (is_same_place gnb du (serving_gnb s ue) (serving_place s ue)) _ _ (goes_refused world RefuseReasons.Same on s k)
      (choose world on (is_other_up gnb up (serving_gnb s ue) (serving_place s ue)) _ _ (goes_refused world NotAllowed on s k)
      (choose world on (is_busy_with s ue) _ _ (goes_refused world Busy on s k)
      (goes_handover_to (serving_gnb s ue) (goal_of (find ue_cmp s.plans ue) ue gnb up du) on s k))))

  pub goes_cancel : (ue : UeId) → Keeps world (cancel world ue)
  unfolding cancel
  goes_cancel ue on s k =
      choose world on (not (is_attached s ue)) _ _ (goes_refused world NoUe on s k)
      (choose world on (is_source s.units.cu_cp_a ue) _ _ (goes_step world (CuCp A) (order_for (orders.Cancel ue)) on s k)
      (choose world on (is_source s.units.cu_cp_b ue) _ _ (goes_step world (CuCp B) (order_for (orders.Cancel ue)) on s k)
      (goes_refused world Empty on s k)))

  goes_leaves : (ue : UeId) (on : OnLinks M) (s : State M C L P) → Kept world on s → Goes (Kept world) on (leaves world ue s)
  goes_leaves ue on s k =
      then_line (Kept world) (Cleared world ue s) on (lose_radios world ue s)
      (λ t. goes_on (record (connect_in world ue None t) { gone = t.gone ++ ue ∷ [] })) (goes_cleared world ue on s k)
      (λ l t c. (tt, kept_connected world ue None l t c.0 c.3 (λ e is none. absurd cc)))

  pub goes_release : (ue : UeId) → Keeps world (release world ue)
  unfolding release
  goes_release ue on s k =
      choose world on (not (is_attached s ue)) _ _ (goes_refused world NoUe on s k)
      (choose world on (is_busy_with s ue) _ _ (goes_refused world Busy on s k)
      (goes_ordered world on s k _
      (goes_does world (CuCp (serving_gnb s ue)) None (leaves world ue) on s
      (λ units. goes_leaves ue on (record s { units = units }) k) (order_for (orders.Release ue)))))

  -- ---- ask, inject

  goes_ask_line : (t : Bool) (ue : UeId) (bearer : BearerId) (a b : ℕ) → Keeps world (λ s. prints ((if t then is_quiet ue bearer a b else is_busy ue bearer) ∷ []) s)
  goes_ask_line true ue bearer a b on s k = record { it = ((tt, tt), k) }
  goes_ask_line false ue bearer a b on s k = record { it = ((tt, tt), k) }

  pub goes_ask : (ue : UeId) (bearer : BearerId) → Keeps world (ask world ue bearer)
  unfolding ask
  goes_ask ue bearer on s k =
      choose world on _ _ _ (goes_ask_line (rests s ue bearer) ue bearer _ _ on s k) (goes_refused world _ on s k)

  goes_core_injected : (answer : CoreStepped M C L P) → Keeps world (λ s. core_injected world s answer)
  goes_core_injected (core_stepped outputs core) on s k =
      a_step world on (Some Core) _
      (then_line (Kept world) (Kept world) on (put_out_all world Core None outputs (record s { core = core })) check_spans
      (goes_out_all world Core None outputs on (record s { core = core }) k) (goes_checked world))

  goes_inject_to : (from to : NodeId) (octets : List ℕ) → Keeps world (inject_to world from to octets)
  goes_inject_to from Core octets on s k = goes_core_injected (world.core_answer (sn_of s) s.core (octets_from from octets)) on s k
  goes_inject_to from (CuCp gnb) octets on s k = goes_step world _ _ on s k
  goes_inject_to from (CuUp gnb n) octets on s k = goes_step world _ _ on s k
  goes_inject_to from (Du gnb n) octets on s k = goes_step world _ _ on s k
  goes_inject_to from (Ue ue) octets on s k = goes_step world _ _ on s k

  pub goes_inject_message : (from to : NodeId) (octets : List ℕ) → Keeps world (inject_message world from to octets)
  unfolding inject_message
  goes_inject_message from to octets on s k =
      choose world on (not (is_interface s from to)) _ _ (goes_refused world NoLink on s k)
      (choose world on (world.is_message from to octets) _ _ (goes_refused world Decodable on s k) (goes_inject_to from to octets on s k))

  pub goes_inject_item : (end : TunnelEnd) (octets : List ℕ) → Keeps world (inject_item world end octets)
  unfolding inject_item
  goes_inject_item end octets on s k =
      choose world on (not (is_some (find tunnel_cmp s.tunnels end))) _ _ (goes_refused world NoSuch on s k)
      (choose world on (world.is_item s.units end octets) _ _ (goes_refused world Decodable on s k)
      (goes_step world end.node (octets_on end.teid octets) on s k))
