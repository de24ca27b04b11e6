-- Settling is made of steps.
use Rattle.std.proofs.Common.{◌≡◌, ◌==◌, ℕ, zero, suc, ◌+◌, ◌||◌, Bool, true, false, List, [], ◌∷◌, length, map, Option, Some, None, refl}
use Rattle.std.specs.Prelude.{if◌then◌else◌, unwrap_or}
use Rattle.std.specs.List.{AllByRecursion}
use Rattle.gnb_types.specs.declared.names.UeId.{UeId}
use Rattle.gnb_types.specs.declared.names.BearerId.{BearerId}
use Rattle.gnb_types.specs.declared.names.NodeId.{NodeId}
use Rattle.gnb_types.specs.declared.names.NodeId.TheVariants.{CuUp, Ue}
use Rattle.gnb_types.specs.declared.keys.TunnelEnd.{TunnelEnd}
use Rattle.gnb_types.specs.declared.keys.EntityKey.{EntityKey}
use Rattle.gnb_types.specs.declared.plans.Plan.{Plan}
use Rattle.gnb_types.specs.declared.inputs.Order.{Order}
use Rattle.gnb_types.specs.declared.inputs.Order.TheVariants as orders
use Rattle.gnb_types.specs.Orders.{tunnel_cmp}
use Rattle.tables.specs.Tables.{find, at, entry_after, first_entry}
use Rattle.scenario_text.specs.declared.event.Event.{Event}
use Rattle.unit_defs.specs.declared.UeState.{UeState}
use Rattle.unit_defs.specs.declared.UeState.TheVariants as ue_states
use Rattle.unit_defs.specs.Accessors.{is_unconfirmed}
use Rattle.run_defs.specs.Lines.{RunLine, held_at, is_quiet, is_busy, has_settled, has_not_settled, radio_link}
use Rattle.run_defs.specs.Units.{cu_up_of}
use Rattle.transport_defs.specs.declared.Item.{Item}
use Rattle.transport_defs.specs.Links.{nth}
use Rattle.run_defs.specs.States.{State, order_for, World, goes, goes_on, Outcome, as_step, prints, radio_of}
use Rattle.run_defs.specs.Steps.{Done, is_done, is_held, is_refused, does}
use Rattle.run_defs.specs.Conditions.{serving_gnb, serving_place, state_at, has_home, ready_home, epoch_of, receiver_of, rests, ask_line}
use Rattle.run_defs.specs.Events.{get_done, carry_done, confirm_done, pump, tick}
use Rattle.run_defs.specs.Settling.{attached_plans, attached_entities, attached_bearers, Turn, to_acks, to_airs, after_air, after_ack, quietly_by, quiet_order, move_by, move_each, got_in_turn, get_items, get_times, tunnel_turn, tunnels_from, most_tunnels, all_tunnels, aired_by, air_next, acked_by, turn_over, ack_next, turn_at, turn_step, turn_times, radio_turn, all_radios, poll_at, poll_each, round, ask_lines, all_quiet, rounds_from, round_limit, settle}
use Rattle.proof_run_steps.specs.steps.Causes.{IsNoAttach, by_order, by_item, by_air, by_ack}
use Rattle.proof_run_steps.specs.steps.IsOutcome.{IsRemark, IsOutcome, stays, then_made, holds_item, holds_pdu, remarks}
use Rattle.proof_run_steps.proofs.steps.Steps.{Keeps, choose, DoneMade, goes_does}
use Rattle.proof_run_steps.proofs.steps.Events.{goes_pump, goes_tick}

module _ {M C L P : Type 0} (world : World M C L P) (event : Event) where
  -- ---- 1. terminals arrive or return

  quietly : (s : State M C L P) → (d : Done M C L P) → DoneMade world event s d → IsOutcome world event s (quietly_by world s d)
  quietly s (is_done outcome) p = p
  quietly s (is_held reason) p = stays s
  quietly s (is_refused reason) p = stays s

  goes_quiet_order : (node : NodeId) (order : Order) → IsNoAttach order → Keeps world event (quiet_order world node order)
  goes_quiet_order node order other s =
      quietly s (does world node (order_for order) None goes_on s) (goes_does world event (by_order node order) s other)

  goes_move_by : (ue : UeId) (state : UeState) → Keeps world event (λ s. move_by world ue s state)
  goes_move_by ue ue_states.Accessing s = goes_quiet_order (Ue ue.0) (orders.Arrive ue) tt s
  goes_move_by ue ue_states.Lost s =
      choose world event s (has_home s ue) (quiet_order world (Ue ue.0) (orders.Return ue) s) (goes_on s)
      (λ there. goes_quiet_order (Ue ue.0) (orders.Return ue) tt s) (λ never. stays s)
  goes_move_by ue state s = stays s

  goes_move_each : (es : List (UeId × Plan)) → Keeps world event (move_each world es)
  goes_move_each [] s = stays s
  goes_move_each (e ∷ es) s =
      then_made s (move_by world e.0 s (state_at s e.0)) (move_each world es) (goes_move_by e.0 (state_at s e.0) s) (goes_move_each es)

  -- ---- 3. tunnels

  goes_got_in_turn : (end : TunnelEnd) (more : State M C L P → Outcome M C L P) → Keeps world event more → (s : State M C L P) (d : Done M C L P)
      → DoneMade world event s d → IsOutcome world event s (got_in_turn world end more s d)
  goes_got_in_turn end more km s (is_done outcome) p = then_made s outcome more p km
  goes_got_in_turn end more km s (is_held reason) p = holds_item s end reason
  goes_got_in_turn end more km s (is_refused reason) p = stays s

  -- an item at the head of what stands on a tunnel is there
  heads : (tunnels : List (TunnelEnd × List (Item L))) (end : TunnelEnd) (item : Item L) (rest : List (Item L))
      → at tunnel_cmp [] tunnels end ≡ item ∷ rest → find tunnel_cmp tunnels end ≡ Some (item ∷ rest)
  unfolding at
  heads tunnels end item rest are = by (find tunnel_cmp tunnels end) are
    where
      by : (o : Option (List (Item L))) → unwrap_or o [] ≡ item ∷ rest → o ≡ Some (item ∷ rest)
      by None e = absurd cc
      by (Some items) e = λ i. Some (e i)

  goes_get_items : (end : TunnelEnd) (more : State M C L P → Outcome M C L P) → Keeps world event more → (s : State M C L P) (items : List (Item L))
      → at tunnel_cmp [] s.tunnels end ≡ items → IsOutcome world event s (get_items world end more s items)
  goes_get_items end more km s [] are = stays s
  goes_get_items end more km s (item ∷ rest) are =
      goes_got_in_turn end more km s (get_done world end item rest s)
      (goes_does world event (by_item end item rest) s (heads s.tunnels end item rest are))

  goes_get_times : (end : TunnelEnd) (times : ℕ) → Keeps world event (get_times world end times)
  goes_get_times end zero s = stays s
  goes_get_times end (suc times) s =
      goes_get_items end (get_times world end times) (goes_get_times end times) s (at tunnel_cmp [] s.tunnels end) refl

  goes_tunnel_turn : (end : TunnelEnd) → Keeps world event (tunnel_turn world end)
  goes_tunnel_turn end s = goes_get_times end (length (at tunnel_cmp [] s.tunnels end)) s

  goes_tunnels_from : (left : ℕ) (entry : Option (TunnelEnd × List (Item L))) → Keeps world event (λ s. tunnels_from world left s entry)
  goes_tunnels_from zero entry s = stays s
  goes_tunnels_from (suc left) None s = stays s
  goes_tunnels_from (suc left) (Some e) s =
      then_made s (tunnel_turn world e.0 s) (λ t. tunnels_from world left t (entry_after tunnel_cmp t.tunnels e.0))
      (goes_tunnel_turn e.0 s) (λ t. goes_tunnels_from left (entry_after tunnel_cmp t.tunnels e.0) t)

  goes_all_tunnels : Keeps world event (all_tunnels world)
  goes_all_tunnels s = goes_tunnels_from (most_tunnels world) (first_entry s.tunnels) s

  -- ---- 4. radios

  module _ (again : Turn → State M C L P → Outcome M C L P) (ka : (turn : Turn) → Keeps world event (again turn)) where
    goes_aired_by : (turn : Turn) (home : NodeId) (s : State M C L P) (d : Done M C L P) → DoneMade world event s d
        → IsOutcome world event s (aired_by world again turn home s d)
    goes_aired_by turn home s (is_done outcome) p = then_made s outcome (again (after_air turn)) p (ka (after_air turn))
    goes_aired_by turn home s (is_held reason) p =
        then_made s
        (as_step (Some (receiver_of turn.key home)) (goes (held_at (radio_link turn.key (epoch_of s turn.key.ue)) reason ∷ []) s))
        (again (to_acks (after_air turn))) (holds_pdu s turn.key home reason) (ka (to_acks (after_air turn)))
    goes_aired_by turn home s (is_refused reason) p = ka (to_acks (after_air turn)) s

    goes_air_next : (turn : Turn) (home : NodeId) (s : State M C L P) → ready_home s turn.key.ue ≡ Some home → (o : Option (Item P))
        → nth (radio_of s turn.key).items (radio_of s turn.key).carried ≡ o → IsOutcome world event s (air_next world again turn home s o)
    goes_air_next turn home s ready None found = ka (to_acks turn) s
    goes_air_next turn home s ready (Some item) found =
        choose world event s (turn.airs == 0) _ _ (λ h. ka (to_acks turn) s)
        (λ h. goes_aired_by turn home s (carry_done world turn.key home item s) (goes_does world event (by_air turn.key home item) s (ready, found)))

    goes_acked_by : (turn : Turn) (s : State M C L P) (d : Done M C L P) → DoneMade world event s d → IsOutcome world event s (acked_by world again turn s d)
    goes_acked_by turn s (is_done outcome) p = then_made s outcome (again (after_ack turn)) p (ka (after_ack turn))
    goes_acked_by turn s (is_held reason) p = ka (after_ack turn) s
    goes_acked_by turn s (is_refused reason) p = ka (after_ack turn) s

    goes_turn_over : (turn : Turn) → Keeps world event (turn_over world again turn)
    goes_turn_over turn s = choose world event s turn.moved _ _ (λ h. ka (to_airs turn) s) (λ h. stays s)

    neither_of : (a b : Bool) → a || b ≡ false → a ≡ false
    neither_of true b e = e
    neither_of false b e = refl

    goes_ack_next : (turn : Turn) (home : NodeId) (s : State M C L P) → ready_home s turn.key.ue ≡ Some home → (items : List (Item P))
        → (radio_of s turn.key).items ≡ items → IsOutcome world event s (ack_next world again turn home s items (radio_of s turn.key).carried)
    goes_ack_next turn home s ready [] are = stays s
    goes_ack_next turn home s ready (item ∷ rest) are =
        choose world event s ((radio_of s turn.key).carried == 0 || turn.acks == 0) (turn_over world again turn s) _ (λ h. goes_turn_over turn s)
        (λ some. goes_acked_by turn s (confirm_done world turn.key home item rest s)
        (goes_does world event (by_ack turn.key home item rest) s (ready, are, neither_of _ (turn.acks == 0) some)))

    goes_turn_at : (turn : Turn) (s : State M C L P) (o : Option NodeId) → ready_home s turn.key.ue ≡ o → IsOutcome world event s (turn_at world again turn s o)
    goes_turn_at turn s None ready = stays s
    goes_turn_at turn s (Some home) ready =
        choose world event s turn.airing _ _
        (λ h. goes_air_next turn home s ready (nth (radio_of s turn.key).items (radio_of s turn.key).carried) refl)
        (λ h. goes_ack_next turn home s ready (radio_of s turn.key).items refl)

    goes_turn_step : (turn : Turn) → Keeps world event (turn_step world again turn)
    goes_turn_step turn s = goes_turn_at turn s (ready_home s turn.key.ue) refl

  goes_turn_times : (left : ℕ) (turn : Turn) → Keeps world event (turn_times world left turn)
  goes_turn_times zero turn s = stays s
  goes_turn_times (suc left) turn s = goes_turn_step (turn_times world left) (goes_turn_times left) turn s

  goes_radio_turn : (key : EntityKey) → Keeps world event (radio_turn world key)
  goes_radio_turn key s = goes_turn_times _ _ s

  goes_all_radios : (keys : List EntityKey) → Keeps world event (all_radios world keys)
  goes_all_radios [] s = stays s
  goes_all_radios (key ∷ keys) s = then_made s (radio_turn world key s) (all_radios world keys) (goes_radio_turn key s) (goes_all_radios keys)

  -- ---- 5. polls

  goes_poll_at : (e : UeId × BearerId) (o : Option (ℕ × ℕ)) → Keeps world event (λ s. poll_at world e s o)
  goes_poll_at e None s = stays s
  goes_poll_at e (Some place) s =
      choose world event s (is_unconfirmed (cu_up_of s.units (serving_gnb s e.0) place.0) e.0 e.1) _ _
      (λ h. goes_quiet_order (CuUp (serving_gnb s e.0) place.0) (orders.Poll e.0 e.1) tt s) (λ h. stays s)

  goes_poll_each : (es : List (UeId × BearerId)) → Keeps world event (poll_each world es)
  goes_poll_each [] s = stays s
  goes_poll_each (e ∷ es) s =
      then_made s (poll_at world e s (serving_place s e.0)) (poll_each world es) (goes_poll_at e (serving_place s e.0) s) (goes_poll_each es)

  -- ---- a round, all rounds

  goes_round : Keeps world event (round world)
  unfolding round
  goes_round s =
      then_made s _ (tick world)
      (then_made s _ (pump world)
      (then_made s _ (λ t. poll_each world (attached_bearers t) t)
      (then_made s _ (λ t. all_radios world (attached_entities t) t)
      (then_made s _ (all_tunnels world)
      (then_made s (move_each world (attached_plans s) s) (pump world) (goes_move_each (attached_plans s) s) (goes_pump world event))
      goes_all_tunnels)
      (λ t. goes_all_radios (attached_entities t) t))
      (λ t. goes_poll_each (attached_bearers t) t))
      (goes_pump world event))
      (goes_tick world event)

  ask_is_remark : (t : Bool) (e : UeId × BearerId) (a b : ℕ) → IsRemark {M = M} (if t then is_quiet e.0 e.1 a b else is_busy e.0 e.1)
  ask_is_remark true e a b = tt
  ask_is_remark false e a b = tt

  asks_are_remarks : (s : State M C L P) (es : List (UeId × BearerId)) → AllByRecursion (IsRemark {M = M}) (map (λ e. ask_line s e.0 e.1) es)
  asks_are_remarks s [] = tt
  asks_are_remarks s (e ∷ es) = (ask_is_remark (rests s e.0 e.1) e _ _, asks_are_remarks s es)

  goes_settled : (line : RunLine M) → IsRemark line → Keeps world event (λ s. prints (line ∷ ask_lines world s) s)
  goes_settled line plain s = remarks s (line ∷ ask_lines world s) (plain, asks_are_remarks s (attached_bearers s))

  goes_rounds_from : (rounds left : ℕ) → Keeps world event (rounds_from world rounds left)
  goes_rounds_from rounds zero s =
      choose world event s (all_quiet world s) _ _ (λ h. goes_settled (has_settled rounds) tt s) (λ h. goes_settled (has_not_settled rounds) tt s)
  goes_rounds_from rounds (suc left) s =
      choose world event s (all_quiet world s) _ _ (λ h. goes_settled (has_settled rounds) tt s)
      (λ h. then_made s (round world s) (rounds_from world (rounds + 1) left) (goes_round s) (goes_rounds_from (rounds + 1) left))

  pub goes_settle : Keeps world event (settle world)
  unfolding settle
  goes_settle s = goes_rounds_from 0 (round_limit world s) s
