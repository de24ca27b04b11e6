-- Settling keeps to the links.
use Rattle.std.proofs.Common.{◌≡◌, ◌==◌, ℕ, zero, suc, ◌+◌, Bool, true, false, ◌||◌, List, [], ◌∷◌, length, map, Option, Some, None, refl, sym, ap, ◌∙◌, subst}
use Rattle.std.specs.Prelude.{if◌then◌else◌, unwrap_or}
use Rattle.gnb_types.specs.declared.names.UeId.{UeId}
use Rattle.gnb_types.specs.declared.names.BearerId.{BearerId}
use Rattle.gnb_types.specs.declared.names.NodeId.{NodeId}
use Rattle.gnb_types.specs.declared.names.NodeId.TheVariants.{CuUp, Ue}
use Rattle.gnb_types.specs.declared.keys.TunnelEnd.{TunnelEnd}
use Rattle.gnb_types.specs.declared.keys.EntityKey.{EntityKey}
use Rattle.gnb_types.specs.declared.plans.Plan.{Plan}
use Rattle.gnb_types.specs.declared.inputs.Order.{Order}
use Rattle.gnb_types.specs.declared.inputs.Order.TheVariants as orders
use Rattle.gnb_types.specs.Orders.{tunnel_cmp}
use Rattle.tables.specs.Tables.{find, at, entry_after, first_entry}
use Rattle.unit_defs.specs.declared.UeState.{UeState}
use Rattle.unit_defs.specs.declared.UeState.TheVariants as ue_states
use Rattle.unit_defs.specs.Accessors.{is_unconfirmed}
use Rattle.run_defs.specs.Lines.{RunLine, held_at, has_settled, has_not_settled, is_quiet, is_busy, radio_link}
use Rattle.run_defs.specs.Units.{cu_up_of}
use Rattle.transport_defs.specs.declared.Item.{Item}
use Rattle.transport_defs.specs.Links.{nth}
use Rattle.run_defs.specs.Said.{OnLinks, WiresFrom}
use Rattle.run_defs.specs.States.{State, order_for, World, goes, goes_on, Outcome, as_step, prints, radio_of}
use Rattle.run_defs.specs.Steps.{Done, is_done, is_held, is_refused, does}
use Rattle.run_defs.specs.Conditions.{serving_gnb, serving_place, state_at, has_home, ready_home, epoch_of, receiver_of, rests, ask_line}
use Rattle.run_defs.specs.Events.{get_done, carry_done, confirm_done, pump, tick}
use Rattle.run_defs.specs.Settling.{attached_plans, attached_entities, attached_bearers, Turn, to_acks, to_airs, after_air, after_ack, quietly_by, quiet_order, move_by, move_each, got_in_turn, get_items, get_times, tunnel_turn, tunnels_from, most_tunnels, all_tunnels, aired_by, air_next, acked_by, turn_over, ack_next, turn_at, turn_step, turn_times, radio_turn, all_radios, poll_at, poll_each, round, all_quiet, ask_lines, rounds_from, round_limit, settle}
use Rattle.law_downlink_scripts.proofs.wires.Endings.{after_lines}
use Rattle.law_downlink_scripts.proofs.wires.Kept.{Kept}
use Rattle.law_downlink_scripts.proofs.wires.Steps.{KeepsTo, Keeps, then_more, a_step, just_goes_on, DoneGoes, goes_does, choose, choose_by}
use Rattle.law_downlink_scripts.proofs.wires.Events.{goes_get_done, goes_carry_done, goes_confirm_done, goes_pump, goes_tick}

found_at : {X : Type 0} (tunnels : List (TunnelEnd × List X)) (end : TunnelEnd) (x : X) (xs : List X) → at tunnel_cmp [] tunnels end ≡ x ∷ xs
    → find tunnel_cmp tunnels end ≡ Some (x ∷ xs)
unfolding at
found_at {X = X} tunnels end x xs e = by (find tunnel_cmp tunnels end) e
  where
    by : (o : Option (List X)) → unwrap_or o [] ≡ x ∷ xs → o ≡ Some (x ∷ xs)
    by None h = absurd cc
    by (Some ys) h = ap (λ (zs : List X). Some zs) h

module _ {M C L P : Type 0} (world : World M C L P) where
  -- ---- 1. terminals arrive or return

  quietly : (on : OnLinks M) (s : State M C L P) → Kept world on s → (d : Done M C L P) → DoneGoes world on d → KeepsTo world on (quietly_by world s d)
  quietly on s k (is_done outcome) p = p
  quietly on s k (is_held reason) p = just_goes_on world on s k
  quietly on s k (is_refused reason) p = just_goes_on world on s k

  goes_quiet_order : (node : NodeId) (order : Order) → Keeps world (quiet_order world node order)
  goes_quiet_order node order on s k =
      quietly on s k (does world node (order_for order) None goes_on s)
      (goes_does world node None goes_on on s (λ units. (tt, k)) (order_for order)).it

  goes_move_by : (ue : UeId) (state : UeState) → Keeps world (λ s. move_by world ue s state)
  goes_move_by ue ue_states.Accessing on s k = goes_quiet_order (Ue ue.0) (orders.Arrive ue) on s k
  goes_move_by ue ue_states.Lost on s k =
      choose world on (has_home s ue) (quiet_order world (Ue ue.0) (orders.Return ue) s) (goes_on s)
      (goes_quiet_order (Ue ue.0) (orders.Return ue) on s k) (just_goes_on world on s k)
  goes_move_by ue state on s k = just_goes_on world on s k

  goes_move_each : (es : List (UeId × Plan)) → Keeps world (move_each world es)
  goes_move_each [] on s k = just_goes_on world on s k
  goes_move_each (e ∷ es) on s k =
      then_more world on (move_by world e.0 s (state_at s e.0)) (move_each world es) (goes_move_by e.0 (state_at s e.0) on s k) (goes_move_each es)

  -- ---- 3. tunnels

  goes_got_in_turn : (end : TunnelEnd) (more : State M C L P → Outcome M C L P) → Keeps world more → (on : OnLinks M) (s : State M C L P)
      → Kept world on s → (d : Done M C L P) → DoneGoes world on d → KeepsTo world on (got_in_turn world end more s d)
  goes_got_in_turn end more km on s k (is_done outcome) p = then_more world on outcome more p km
  goes_got_in_turn end more km on s k (is_held reason) p = record { it = ((tt, tt), k) }
  goes_got_in_turn end more km on s k (is_refused reason) p = just_goes_on world on s k

  goes_get_items : (end : TunnelEnd) (more : State M C L P → Outcome M C L P) → Keeps world more → (on : OnLinks M) (s : State M C L P)
      → Kept world on s → (items : List (Item L)) → at tunnel_cmp [] s.tunnels end ≡ items → KeepsTo world on (get_items world end more s items)
  goes_get_items end more km on s k [] found = just_goes_on world on s k
  goes_get_items end more km on s k (item ∷ rest) found =
      goes_got_in_turn end more km on s k (get_done world end item rest s)
      (goes_get_done world end item rest on s k (found_at s.tunnels end item rest found)).it

  goes_get_times : (end : TunnelEnd) (times : ℕ) → Keeps world (get_times world end times)
  goes_get_times end zero on s k = just_goes_on world on s k
  goes_get_times end (suc times) on s k =
      goes_get_items end (get_times world end times) (goes_get_times end times) on s k (at tunnel_cmp [] s.tunnels end) refl

  goes_tunnel_turn : (end : TunnelEnd) → Keeps world (tunnel_turn world end)
  goes_tunnel_turn end on s k = goes_get_times end (length (at tunnel_cmp [] s.tunnels end)) on s k

  goes_tunnels_from : (left : ℕ) (entry : Option (TunnelEnd × List (Item L))) → Keeps world (λ s. tunnels_from world left s entry)
  goes_tunnels_from zero entry on s k = just_goes_on world on s k
  goes_tunnels_from (suc left) None on s k = just_goes_on world on s k
  goes_tunnels_from (suc left) (Some e) on s k =
      then_more world on (tunnel_turn world e.0 s) (λ t. tunnels_from world left t (entry_after tunnel_cmp t.tunnels e.0))
      (goes_tunnel_turn e.0 on s k) (λ l t kt. goes_tunnels_from left (entry_after tunnel_cmp t.tunnels e.0) l t kt)

  goes_all_tunnels : Keeps world (all_tunnels world)
  goes_all_tunnels on s k = goes_tunnels_from (most_tunnels world) (first_entry s.tunnels) on s k

  -- ---- 4. radios

  module _ (again : Turn → State M C L P → Outcome M C L P) (ka : (turn : Turn) → Keeps world (again turn)) where
    goes_aired_by : (turn : Turn) (home : NodeId) (on : OnLinks M) (s : State M C L P) → Kept world on s → (d : Done M C L P) → DoneGoes world on d
        → KeepsTo world on (aired_by world again turn home s d)
    goes_aired_by turn home on s k (is_done outcome) p = then_more world on outcome (again (after_air turn)) p (ka (after_air turn))
    goes_aired_by turn home on s k (is_held reason) p =
        then_more world on
        (as_step (Some (receiver_of turn.key home)) (goes (held_at (radio_link turn.key (epoch_of s turn.key.ue)) reason ∷ []) s))
        (again (to_acks (after_air turn))) (record { it = ((tt, tt), k) }) (ka (to_acks (after_air turn)))
    goes_aired_by turn home on s k (is_refused reason) p = ka (to_acks (after_air turn)) on s k

    goes_air_next : (turn : Turn) (home : NodeId) (on : OnLinks M) (s : State M C L P) → Kept world on s → (o : Option (Item P))
        → nth (radio_of s turn.key).items (radio_of s turn.key).carried ≡ o → KeepsTo world on (air_next world again turn home s o)
    goes_air_next turn home on s k None found = ka (to_acks turn) on s k
    goes_air_next turn home on s k (Some item) found =
        choose world on (turn.airs == 0) _ _ (ka (to_acks turn) on s k)
        (goes_aired_by turn home on s k (carry_done world turn.key home item s) (goes_carry_done world turn.key home item on s k found).it)

    goes_acked_by : (turn : Turn) (on : OnLinks M) (s : State M C L P) → Kept world on s → (d : Done M C L P) → DoneGoes world on d
        → KeepsTo world on (acked_by world again turn s d)
    goes_acked_by turn on s k (is_done outcome) p = then_more world on outcome (again (after_ack turn)) p (ka (after_ack turn))
    goes_acked_by turn on s k (is_held reason) p = ka (after_ack turn) on s k
    goes_acked_by turn on s k (is_refused reason) p = ka (after_ack turn) on s k

    goes_turn_over : (turn : Turn) → Keeps world (turn_over world again turn)
    goes_turn_over turn on s k = choose world on turn.moved _ _ (ka (to_airs turn) on s k) (just_goes_on world on s k)

    neither_of : (a b : Bool) → a || b ≡ false → a ≡ false
    neither_of true b e = e
    neither_of false b e = refl

    goes_ack_next : (turn : Turn) (home : NodeId) (on : OnLinks M) (s : State M C L P) → Kept world on s → (items : List (Item P))
        → (radio_of s turn.key).items ≡ items → KeepsTo world on (ack_next world again turn home s items (radio_of s turn.key).carried)
    goes_ack_next turn home on s k [] are = just_goes_on world on s k
    goes_ack_next turn home on s k (item ∷ rest) are =
        choose_by world on ((radio_of s turn.key).carried == 0 || turn.acks == 0) (turn_over world again turn s) _
        (λ h. goes_turn_over turn on s k)
        (λ h. goes_acked_by turn on s k (confirm_done world turn.key home item rest s)
        (goes_confirm_done world turn.key home item rest on s k are (neither_of _ (turn.acks == 0) h)).it)

    goes_turn_at : (turn : Turn) (o : Option NodeId) → Keeps world (λ s. turn_at world again turn s o)
    goes_turn_at turn None on s k = just_goes_on world on s k
    goes_turn_at turn (Some home) on s k =
        choose world on turn.airing _ _
        (goes_air_next turn home on s k (nth (radio_of s turn.key).items (radio_of s turn.key).carried) refl)
        (goes_ack_next turn home on s k (radio_of s turn.key).items refl)

    goes_turn_step : (turn : Turn) → Keeps world (turn_step world again turn)
    goes_turn_step turn on s k = goes_turn_at turn (ready_home s turn.key.ue) on s k

  goes_turn_times : (left : ℕ) (turn : Turn) → Keeps world (turn_times world left turn)
  goes_turn_times zero turn on s k = just_goes_on world on s k
  goes_turn_times (suc left) turn on s k = goes_turn_step (turn_times world left) (goes_turn_times left) turn on s k

  goes_radio_turn : (key : EntityKey) → Keeps world (radio_turn world key)
  goes_radio_turn key on s k = goes_turn_times _ _ on s k

  goes_all_radios : (keys : List EntityKey) → Keeps world (all_radios world keys)
  goes_all_radios [] on s k = just_goes_on world on s k
  goes_all_radios (key ∷ keys) on s k = then_more world on (radio_turn world key s) (all_radios world keys) (goes_radio_turn key on s k) (goes_all_radios keys)

  -- ---- 5. polls

  goes_poll_at : (e : UeId × BearerId) (o : Option (ℕ × ℕ)) → Keeps world (λ s. poll_at world e s o)
  goes_poll_at e None on s k = just_goes_on world on s k
  goes_poll_at e (Some place) on s k =
      choose world on (is_unconfirmed (cu_up_of s.units (serving_gnb s e.0) place.0) e.0 e.1) _ _
      (goes_quiet_order (CuUp (serving_gnb s e.0) place.0) (orders.Poll e.0 e.1) on s k) (just_goes_on world on s k)

  goes_poll_each : (es : List (UeId × BearerId)) → Keeps world (poll_each world es)
  goes_poll_each [] on s k = just_goes_on world on s k
  goes_poll_each (e ∷ es) on s k =
      then_more world on (poll_at world e s (serving_place s e.0)) (poll_each world es) (goes_poll_at e (serving_place s e.0) on s k) (goes_poll_each es)

  -- ---- a round, all rounds

  goes_round : Keeps world (round world)
  unfolding round
  goes_round on s k =
      then_more world on _ (tick world)
      (then_more world on _ (pump world)
      (then_more world on _ (λ t. poll_each world (attached_bearers t) t)
      (then_more world on _ (λ t. all_radios world (attached_entities t) t)
      (then_more world on _ (all_tunnels world)
      (then_more world on (move_each world (attached_plans s) s) (pump world) (goes_move_each (attached_plans s) on s k) (goes_pump world))
      goes_all_tunnels)
      (λ l t kt. goes_all_radios (attached_entities t) l t kt))
      (λ l t kt. goes_poll_each (attached_bearers t) l t kt))
      (goes_pump world))
      (goes_tick world)

  -- lines that say nothing of links
  abbrev ArePlain : List (RunLine M) → Type 0
  ArePlain lines = (on : OnLinks M) → WiresFrom on lines × (after_lines on lines ≡ on)

  one_more : (line : RunLine M) (lines : List (RunLine M)) → ArePlain (line ∷ []) → ArePlain lines → ArePlain (line ∷ lines)
  one_more line lines first rest on =
      let f = first on in
      let r = rest on in (
        (f.0.0, subst (λ (l : OnLinks M). WiresFrom l lines) (sym f.1) r.0),
        ap (λ (l : OnLinks M). after_lines l lines) f.1 ∙ r.1,
      )

  ask_is_plain : (t : Bool) (e : UeId × BearerId) (a b : ℕ) → ArePlain ((if t then is_quiet e.0 e.1 a b else is_busy e.0 e.1) ∷ [])
  ask_is_plain true e a b on = ((tt, tt), refl)
  ask_is_plain false e a b on = ((tt, tt), refl)

  asks_are_plain : (s : State M C L P) (es : List (UeId × BearerId)) → ArePlain (map (λ e. ask_line s e.0 e.1) es)
  asks_are_plain s [] on = (tt, refl)
  asks_are_plain s (e ∷ es) on =
      one_more (ask_line s e.0 e.1) (map (λ e. ask_line s e.0 e.1) es) (ask_is_plain (rests s e.0 e.1) e _ _) (asks_are_plain s es) on

  goes_settled : (line : RunLine M) → ArePlain (line ∷ []) → Keeps world (λ s. prints (line ∷ ask_lines world s) s)
  goes_settled line plain on s k =
      let w = one_more line (ask_lines world s) plain (asks_are_plain s (attached_bearers s)) on in
      a_step world on None (goes (line ∷ ask_lines world s) s) (w.0, subst (λ (l : OnLinks M). Kept world l s) (sym w.1) k)

  goes_rounds_from : (rounds left : ℕ) → Keeps world (rounds_from world rounds left)
  goes_rounds_from rounds zero on s k =
      choose world on (all_quiet world s) _ _ (goes_settled (has_settled rounds) (λ l. ((tt, tt), refl)) on s k)
      (goes_settled (has_not_settled rounds) (λ l. ((tt, tt), refl)) on s k)
  goes_rounds_from rounds (suc left) on s k =
      choose world on (all_quiet world s) _ _ (goes_settled (has_settled rounds) (λ l. ((tt, tt), refl)) on s k)
      (then_more world on (round world s) (rounds_from world (rounds + 1) left) (goes_round on s k) (goes_rounds_from (rounds + 1) left))

  pub goes_settle : Keeps world (settle world)
  unfolding settle
  goes_settle on s k = goes_rounds_from 0 (round_limit world s) on s k
