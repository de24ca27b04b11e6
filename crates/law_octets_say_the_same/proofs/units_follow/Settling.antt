-- Settling comes to the same in both worlds.
use Rattle.std.proofs.Common.{◌≡◌, ◌==◌, ℕ, zero, suc, ◌+◌, ◌||◌, Bool, true, false, List, [], ◌∷◌, length, Option, Some, None, refl}
use Rattle.std.specs.Prelude.{unwrap_or}
use Rattle.gnb_types.specs.declared.names.UeId.{UeId}
use Rattle.gnb_types.specs.declared.names.BearerId.{BearerId}
use Rattle.gnb_types.specs.declared.names.NodeId.{NodeId}
use Rattle.gnb_types.specs.declared.names.NodeId.TheVariants.{CuUp, Ue}
use Rattle.gnb_types.specs.declared.keys.TunnelEnd.{TunnelEnd}
use Rattle.gnb_types.specs.declared.keys.EntityKey.{EntityKey}
use Rattle.gnb_types.specs.declared.plans.Plan.{Plan}
use Rattle.gnb_types.specs.declared.inputs.Order.{Order}
use Rattle.gnb_types.specs.declared.inputs.Order.TheVariants as orders
use Rattle.gnb_types.specs.Orders.{tunnel_cmp}
use Rattle.tables.specs.Tables.{find, at, entry_after, first_entry}
use Rattle.scenario_text.specs.declared.event.Event.{Event}
use Rattle.unit_defs.specs.declared.UeState.{UeState}
use Rattle.unit_defs.specs.declared.UeState.TheVariants as ue_states
use Rattle.unit_defs.specs.Accessors.{is_unconfirmed}
use Rattle.run_defs.specs.Lines.{held_at, radio_link}
use Rattle.run_defs.specs.Units.{cu_up_of}
use Rattle.transport_defs.specs.declared.Item.{Item}
use Rattle.transport_defs.specs.Links.{nth}
use Rattle.run_defs.specs.States.{State, order_for, goes, goes_on, Outcome, as_step, radio_of}
use Rattle.run_defs.specs.Steps.{Done, is_done, is_held, is_refused, does}
use Rattle.run_defs.specs.Conditions.{serving_gnb, serving_place, state_at, has_home, ready_home, epoch_of, receiver_of}
use Rattle.run_defs.specs.Events.{get_done, carry_done, confirm_done, pump, tick}
use Rattle.run_defs.specs.Settling.{attached_plans, attached_entities, attached_bearers, Turn, to_acks, to_airs, after_air, after_ack, quietly_by, quiet_order, move_by, move_each, got_in_turn, get_items, get_times, tunnel_turn, tunnels_from, most_tunnels, all_tunnels, aired_by, air_next, acked_by, turn_over, ack_next, turn_at, turn_step, turn_times, radio_turn, all_radios, poll_at, poll_each, round, all_quiet, rounds_from, round_limit, settle}
use Rattle.proof_run_steps.specs.steps.Causes.{IsNoAttach, by_order, by_item, by_air, by_ack}
use Rattle.proof_run_steps.specs.facts.Facts.{Hold}
use Rattle.law_octets_say_the_same.specs.units_follow.Ranges.{IsScripted}
use Rattle.law_octets_say_the_same.proofs.units_follow.Steps.{Two, SameThere, first, second, Both, BothKeep, both_choose, both_then, DoneHolds, both_by, both_does}
use Rattle.law_octets_say_the_same.proofs.units_follow.Events.{both_pump, both_tick}

module _ {M C L P : Type 0} (two : Two M C L P) (there : SameThere two) (event : Event) (scripted : IsScripted two.input two.packet two.plan event) where
  -- ---- 1. terminals arrive or return

  both_quiet_order : (node : NodeId) (order : Order) → IsNoAttach order → BothKeep two (quiet_order (first two) node order) (quiet_order (second two) node order)
  both_quiet_order node order other s h =
      both_by two (does (first two) node (order_for order) None goes_on s) (does (second two) node (order_for order) None goes_on s)
      (quietly_by (first two) s) (quietly_by (second two) s) (both_does two there event scripted (by_order node order) s h other tt) by
    where
      by : (d : Done M C L P) → DoneHolds two d → Both two (quietly_by (first two) s d) (quietly_by (second two) s d)
      by (is_done outcome) k = (refl, k)
      by (is_held reason) k = (refl, h)
      by (is_refused reason) k = (refl, h)

  both_move_by : (ue : UeId) (state : UeState) → BothKeep two (λ s. move_by (first two) ue s state) (λ s. move_by (second two) ue s state)
  both_move_by ue ue_states.Accessing s h = both_quiet_order (Ue ue.0) (orders.Arrive ue) tt s h
  both_move_by ue ue_states.Lost s h =
      both_choose two (has_home s ue) (quiet_order (first two) (Ue ue.0) (orders.Return ue) s) (goes_on s)
      (quiet_order (second two) (Ue ue.0) (orders.Return ue) s) (goes_on s)
      (λ there. both_quiet_order (Ue ue.0) (orders.Return ue) tt s h) (λ never. (refl, h))
  both_move_by ue ue_states.Idle s h = (refl, h)
  both_move_by ue ue_states.Connected s h = (refl, h)
  both_move_by ue ue_states.Returning s h = (refl, h)

  both_move_each : (es : List (UeId × Plan)) → BothKeep two (move_each (first two) es) (move_each (second two) es)
  both_move_each [] s h = (refl, h)
  both_move_each (e ∷ es) s h =
      both_then two (move_by (first two) e.0 s (state_at s e.0)) (move_by (second two) e.0 s (state_at s e.0)) (move_each (first two) es)
      (move_each (second two) es) (both_move_by e.0 (state_at s e.0) s h) (both_move_each es)

  -- ---- 3. tunnels

  -- an item at the head of what stands on a tunnel is there
  heads : (tunnels : List (TunnelEnd × List (Item L))) (end : TunnelEnd) (item : Item L) (rest : List (Item L))
      → at tunnel_cmp [] tunnels end ≡ item ∷ rest → find tunnel_cmp tunnels end ≡ Some (item ∷ rest)
  unfolding at
  heads tunnels end item rest are = by (find tunnel_cmp tunnels end) are
    where
      by : (o : Option (List (Item L))) → unwrap_or o [] ≡ item ∷ rest → o ≡ Some (item ∷ rest)
      by None e = absurd cc
      by (Some items) e = λ i. Some (e i)

  module _ (end : TunnelEnd) (f g : State M C L P → Outcome M C L P) (k : BothKeep two f g) where
    both_got_in_turn : (s : State M C L P) → Hold two.facts s → (d : Done M C L P) → DoneHolds two d
        → Both two (got_in_turn (first two) end f s d) (got_in_turn (second two) end g s d)
    both_got_in_turn s h (is_done outcome) p = both_then two outcome outcome f g (refl, p) k
    both_got_in_turn s h (is_held reason) p = (refl, h)
    both_got_in_turn s h (is_refused reason) p = (refl, h)

    both_get_items : (s : State M C L P) → Hold two.facts s → (items : List (Item L)) → at tunnel_cmp [] s.tunnels end ≡ items
        → Both two (get_items (first two) end f s items) (get_items (second two) end g s items)
    both_get_items s h [] are = (refl, h)
    both_get_items s h (item ∷ rest) are =
        both_by two (get_done (first two) end item rest s) (get_done (second two) end item rest s) (got_in_turn (first two) end f s)
        (got_in_turn (second two) end g s) (both_does two there event scripted (by_item end item rest) s h (heads s.tunnels end item rest are) tt)
        (both_got_in_turn s h)

  both_get_times : (end : TunnelEnd) (times : ℕ) → BothKeep two (get_times (first two) end times) (get_times (second two) end times)
  both_get_times end zero s h = (refl, h)
  both_get_times end (suc times) s h =
      both_get_items end (get_times (first two) end times) (get_times (second two) end times) (both_get_times end times) s h (at tunnel_cmp [] s.tunnels end)
      refl

  both_tunnel_turn : (end : TunnelEnd) → BothKeep two (tunnel_turn (first two) end) (tunnel_turn (second two) end)
  both_tunnel_turn end s h = both_get_times end (length (at tunnel_cmp [] s.tunnels end)) s h

  both_tunnels_from : (left : ℕ) (entry : Option (TunnelEnd × List (Item L)))
      → BothKeep two (λ s. tunnels_from (first two) left s entry) (λ s. tunnels_from (second two) left s entry)
  both_tunnels_from zero entry s h = (refl, h)
  both_tunnels_from (suc left) None s h = (refl, h)
  both_tunnels_from (suc left) (Some e) s h =
      both_then two (tunnel_turn (first two) e.0 s) (tunnel_turn (second two) e.0 s)
      (λ t. tunnels_from (first two) left t (entry_after tunnel_cmp t.tunnels e.0)) (λ t. tunnels_from (second two) left t (entry_after tunnel_cmp t.tunnels e.0))
      (both_tunnel_turn e.0 s h) (λ t k. both_tunnels_from left (entry_after tunnel_cmp t.tunnels e.0) t k)

  both_all_tunnels : BothKeep two (all_tunnels (first two)) (all_tunnels (second two))
  both_all_tunnels s h = both_tunnels_from (most_tunnels (first two)) (first_entry s.tunnels) s h

  -- ---- 4. radios

  module _ (f g : Turn → State M C L P → Outcome M C L P) (k : (turn : Turn) → BothKeep two (f turn) (g turn)) where
    both_aired : (turn : Turn) (home : NodeId) (s : State M C L P) → Hold two.facts s → (d : Done M C L P) → DoneHolds two d
        → Both two (aired_by (first two) f turn home s d) (aired_by (second two) g turn home s d)
    both_aired turn home s h (is_done outcome) p = both_then two outcome outcome (f (after_air turn)) (g (after_air turn)) (refl, p) (k (after_air turn))
    both_aired turn home s h (is_held reason) p =
        let e : Outcome M C L P = as_step (Some (receiver_of turn.key home)) (goes (held_at (radio_link turn.key (epoch_of s turn.key.ue)) reason ∷ []) s) in
        both_then two e e (f (to_acks (after_air turn))) (g (to_acks (after_air turn))) (refl, h) (k (to_acks (after_air turn)))
    both_aired turn home s h (is_refused reason) p = k (to_acks (after_air turn)) s h

    both_air_next : (turn : Turn) (home : NodeId) (s : State M C L P) → Hold two.facts s → ready_home s turn.key.ue ≡ Some home → (o : Option (Item P))
        → nth (radio_of s turn.key).items (radio_of s turn.key).carried ≡ o
        → Both two (air_next (first two) f turn home s o) (air_next (second two) g turn home s o)
    both_air_next turn home s h ready None found = k (to_acks turn) s h
    both_air_next turn home s h ready (Some item) found =
        both_choose two (turn.airs == 0) _ _ _ _ (λ a. k (to_acks turn) s h)
        (λ a. both_by two (carry_done (first two) turn.key home item s) (carry_done (second two) turn.key home item s) (aired_by (first two) f turn home s)
        (aired_by (second two) g turn home s) (both_does two there event scripted (by_air turn.key home item) s h (ready, found) tt) (both_aired turn home s h))

    both_acked : (turn : Turn) (s : State M C L P) → Hold two.facts s → (d : Done M C L P) → DoneHolds two d
        → Both two (acked_by (first two) f turn s d) (acked_by (second two) g turn s d)
    both_acked turn s h (is_done outcome) p = both_then two outcome outcome (f (after_ack turn)) (g (after_ack turn)) (refl, p) (k (after_ack turn))
    both_acked turn s h (is_held reason) p = k (after_ack turn) s h
    both_acked turn s h (is_refused reason) p = k (after_ack turn) s h

    both_turn_over : (turn : Turn) → BothKeep two (turn_over (first two) f turn) (turn_over (second two) g turn)
    both_turn_over turn s h = both_choose two turn.moved _ _ _ _ (λ a. k (to_airs turn) s h) (λ a. (refl, h))

    neither_of : (a b : Bool) → a || b ≡ false → a ≡ false
    neither_of true b e = e
    neither_of false b e = refl

    both_ack_next : (turn : Turn) (home : NodeId) (s : State M C L P) → Hold two.facts s → ready_home s turn.key.ue ≡ Some home → (items : List (Item P))
        → (radio_of s turn.key).items ≡ items
        → Both two (ack_next (first two) f turn home s items (radio_of s turn.key).carried) (ack_next (second two) g turn home s items (radio_of s turn.key).carried)
    both_ack_next turn home s h ready [] are = (refl, h)
    both_ack_next turn home s h ready (item ∷ rest) are =
        both_choose two ((radio_of s turn.key).carried == 0 || turn.acks == 0) (turn_over (first two) f turn s) _ (turn_over (second two) g turn s) _
        (λ a. both_turn_over turn s h)
        (λ some. both_by two (confirm_done (first two) turn.key home item rest s) (confirm_done (second two) turn.key home item rest s)
        (acked_by (first two) f turn s) (acked_by (second two) g turn s)
        (both_does two there event scripted (by_ack turn.key home item rest) s h (ready, are, neither_of _ (turn.acks == 0) some) tt) (both_acked turn s h))

    both_turn_at : (turn : Turn) (s : State M C L P) → Hold two.facts s → (o : Option NodeId) → ready_home s turn.key.ue ≡ o
        → Both two (turn_at (first two) f turn s o) (turn_at (second two) g turn s o)
    both_turn_at turn s h None ready = (refl, h)
    both_turn_at turn s h (Some home) ready =
        both_choose two turn.airing _ _ _ _
        (λ a. both_air_next turn home s h ready (nth (radio_of s turn.key).items (radio_of s turn.key).carried) refl)
        (λ a. both_ack_next turn home s h ready (radio_of s turn.key).items refl)

    both_turn_step : (turn : Turn) → BothKeep two (turn_step (first two) f turn) (turn_step (second two) g turn)
    both_turn_step turn s h = both_turn_at turn s h (ready_home s turn.key.ue) refl

  both_turn_times : (left : ℕ) (turn : Turn) → BothKeep two (turn_times (first two) left turn) (turn_times (second two) left turn)
  both_turn_times zero turn s h = (refl, h)
  both_turn_times (suc left) turn s h =
      both_turn_step (turn_times (first two) left) (turn_times (second two) left) (both_turn_times left) turn s h

  both_radio_turn : (key : EntityKey) → BothKeep two (radio_turn (first two) key) (radio_turn (second two) key)
  both_radio_turn key s h = both_turn_times _ _ s h

  both_all_radios : (keys : List EntityKey) → BothKeep two (all_radios (first two) keys) (all_radios (second two) keys)
  both_all_radios [] s h = (refl, h)
  both_all_radios (key ∷ keys) s h =
      both_then two (radio_turn (first two) key s) (radio_turn (second two) key s) (all_radios (first two) keys) (all_radios (second two) keys)
      (both_radio_turn key s h) (both_all_radios keys)

  -- ---- 5. polls

  both_poll_at : (e : UeId × BearerId) (o : Option (ℕ × ℕ)) → BothKeep two (λ s. poll_at (first two) e s o) (λ s. poll_at (second two) e s o)
  both_poll_at e None s h = (refl, h)
  both_poll_at e (Some place) s h =
      both_choose two (is_unconfirmed (cu_up_of s.units (serving_gnb s e.0) place.0) e.0 e.1) _ _ _ _
      (λ a. both_quiet_order (CuUp (serving_gnb s e.0) place.0) (orders.Poll e.0 e.1) tt s h) (λ a. (refl, h))

  both_poll_each : (es : List (UeId × BearerId)) → BothKeep two (poll_each (first two) es) (poll_each (second two) es)
  both_poll_each [] s h = (refl, h)
  both_poll_each (e ∷ es) s h =
      both_then two (poll_at (first two) e s (serving_place s e.0)) (poll_at (second two) e s (serving_place s e.0)) (poll_each (first two) es)
      (poll_each (second two) es) (both_poll_at e (serving_place s e.0) s h) (both_poll_each es)

  -- ---- a round, all rounds

  both_round : BothKeep two (round (first two)) (round (second two))
  unfolding round
  both_round s h =
      both_then two _ _ (tick (first two)) (tick (second two))
      (both_then two _ _ (pump (first two)) (pump (second two))
      (both_then two _ _ (λ t. poll_each (first two) (attached_bearers t) t) (λ t. poll_each (second two) (attached_bearers t) t)
      (both_then two _ _ (λ t. all_radios (first two) (attached_entities t) t) (λ t. all_radios (second two) (attached_entities t) t)
      (both_then two _ _ (all_tunnels (first two)) (all_tunnels (second two))
      (both_then two (move_each (first two) (attached_plans s) s) (move_each (second two) (attached_plans s) s) (pump (first two)) (pump (second two))
      (both_move_each (attached_plans s) s h) (both_pump two there event scripted))
      both_all_tunnels)
      (λ t k. both_all_radios (attached_entities t) t k))
      (λ t k. both_poll_each (attached_bearers t) t k))
      (both_pump two there event scripted))
      (both_tick two there event scripted)

  both_rounds_from : (rounds left : ℕ) → BothKeep two (rounds_from (first two) rounds left) (rounds_from (second two) rounds left)
  both_rounds_from rounds zero s h = both_choose two (all_quiet (first two) s) _ _ _ _ (λ a. (refl, h)) (λ a. (refl, h))
  both_rounds_from rounds (suc left) s h =
      both_choose two (all_quiet (first two) s) _ _ _ _ (λ a. (refl, h))
      (λ a. both_then two (round (first two) s) (round (second two) s) (rounds_from (first two) (rounds + 1) left) (rounds_from (second two) (rounds + 1) left)
      (both_round s h) (both_rounds_from (rounds + 1) left))

  pub both_settle : BothKeep two (settle (first two)) (settle (second two))
  unfolding settle
  both_settle s h = both_rounds_from 0 (round_limit (first two) s) s h
