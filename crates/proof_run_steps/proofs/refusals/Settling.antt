-- Settling changes nothing, or makes a step.
use Rattle.std.proofs.Common.{◌==◌, ℕ, zero, suc, ◌+◌, ◌||◌, List, [], ◌∷◌, length, Option, Some, None}
use Rattle.gnb_types.specs.declared.names.UeId.{UeId}
use Rattle.gnb_types.specs.declared.names.BearerId.{BearerId}
use Rattle.gnb_types.specs.declared.names.NodeId.{NodeId}
use Rattle.gnb_types.specs.declared.names.NodeId.TheVariants.{CuUp, Ue}
use Rattle.gnb_types.specs.declared.keys.TunnelEnd.{TunnelEnd}
use Rattle.gnb_types.specs.declared.keys.EntityKey.{EntityKey}
use Rattle.gnb_types.specs.declared.plans.Plan.{Plan}
use Rattle.gnb_types.specs.declared.inputs.Order.{Order}
use Rattle.gnb_types.specs.declared.inputs.Order.TheVariants as orders
use Rattle.gnb_types.specs.Orders.{tunnel_cmp}
use Rattle.tables.specs.Tables.{at, entry_after, first_entry}
use Rattle.unit_defs.specs.declared.UeState.{UeState}
use Rattle.unit_defs.specs.declared.UeState.TheVariants as ue_states
use Rattle.unit_defs.specs.Accessors.{is_unconfirmed}
use Rattle.run_defs.specs.Lines.{held_at, radio_link}
use Rattle.run_defs.specs.Units.{cu_up_of}
use Rattle.transport_defs.specs.declared.Item.{Item}
use Rattle.transport_defs.specs.Links.{nth}
use Rattle.run_defs.specs.States.{State, order_for, World, goes, goes_on, Outcome, as_step, radio_of}
use Rattle.run_defs.specs.Steps.{Done, is_done, is_held, is_refused, does}
use Rattle.run_defs.specs.Conditions.{serving_gnb, serving_place, state_at, has_home, ready_home, epoch_of, receiver_of}
use Rattle.run_defs.specs.Events.{get_done, carry_done, confirm_done, pump, tick}
use Rattle.run_defs.specs.Settling.{attached_plans, attached_entities, attached_bearers, Turn, to_acks, to_airs, after_air, after_ack, quietly_by, quiet_order, move_by, move_each, got_in_turn, get_items, get_times, tunnel_turn, tunnels_from, most_tunnels, all_tunnels, aired_by, air_next, acked_by, turn_over, ack_next, turn_at, turn_step, turn_times, radio_turn, all_radios, poll_at, poll_each, round, settled, all_quiet, rounds_from, round_limit, settle}
use Rattle.proof_run_steps.proofs.refusals.Steps.{Stays, Keeps, then_more, just_goes_on, choose, DoneStays, goes_does}
use Rattle.proof_run_steps.proofs.refusals.Events.{goes_get_done, goes_carry_done, goes_confirm_done, goes_pump, goes_tick}

module _ {M C L P : Type 0} (world : World M C L P) where
  -- ---- 1. terminals arrive or return

  quietly : (s : State M C L P) → (d : Done M C L P) → DoneStays world s d → Stays world s (quietly_by world s d)
  quietly s (is_done outcome) p = p
  quietly s (is_held reason) p = just_goes_on world s
  quietly s (is_refused reason) p = just_goes_on world s

  goes_quiet_order : (node : NodeId) (order : Order) → Keeps world (quiet_order world node order)
  goes_quiet_order node order s =
      quietly s (does world node (order_for order) None goes_on s)
      (goes_does world node None goes_on s (order_for order)).it

  goes_move_by : (ue : UeId) (state : UeState) → Keeps world (λ s. move_by world ue s state)
  goes_move_by ue ue_states.Accessing s = goes_quiet_order (Ue ue.0) (orders.Arrive ue) s
  goes_move_by ue ue_states.Lost s =
      choose world s (has_home s ue) (quiet_order world (Ue ue.0) (orders.Return ue) s) (goes_on s)
      (goes_quiet_order (Ue ue.0) (orders.Return ue) s) (just_goes_on world s)
  goes_move_by ue state s = just_goes_on world s

  goes_move_each : (es : List (UeId × Plan)) → Keeps world (move_each world es)
  goes_move_each [] s = just_goes_on world s
  goes_move_each (e ∷ es) s =
      then_more world s (move_by world e.0 s (state_at s e.0)) (move_each world es) (goes_move_by e.0 (state_at s e.0) s) (goes_move_each es)

  -- ---- 3. tunnels

  goes_got_in_turn : (end : TunnelEnd) (more : State M C L P → Outcome M C L P) → Keeps world more → (s : State M C L P) (d : Done M C L P)
      → DoneStays world s d → Stays world s (got_in_turn world end more s d)
  goes_got_in_turn end more km s (is_done outcome) p = then_more world s outcome more p km
  goes_got_in_turn end more km s (is_held reason) p = record { it = λ h. absurd cc }
  goes_got_in_turn end more km s (is_refused reason) p = just_goes_on world s

  goes_get_items : (end : TunnelEnd) (more : State M C L P → Outcome M C L P) → Keeps world more → (items : List (Item L))
      → Keeps world (λ s. get_items world end more s items)
  goes_get_items end more km [] s = just_goes_on world s
  goes_get_items end more km (item ∷ rest) s =
      goes_got_in_turn end more km s (get_done world end item rest s) (goes_get_done world end item rest s).it

  goes_get_times : (end : TunnelEnd) (times : ℕ) → Keeps world (get_times world end times)
  goes_get_times end zero s = just_goes_on world s
  goes_get_times end (suc times) s =
      goes_get_items end (get_times world end times) (goes_get_times end times) (at tunnel_cmp [] s.tunnels end) s

  goes_tunnel_turn : (end : TunnelEnd) → Keeps world (tunnel_turn world end)
  goes_tunnel_turn end s = goes_get_times end (length (at tunnel_cmp [] s.tunnels end)) s

  goes_tunnels_from : (left : ℕ) (entry : Option (TunnelEnd × List (Item L))) → Keeps world (λ s. tunnels_from world left s entry)
  goes_tunnels_from zero entry s = just_goes_on world s
  goes_tunnels_from (suc left) None s = just_goes_on world s
  goes_tunnels_from (suc left) (Some e) s =
      then_more world s (tunnel_turn world e.0 s) (λ t. tunnels_from world left t (entry_after tunnel_cmp t.tunnels e.0))
      (goes_tunnel_turn e.0 s) (λ t. goes_tunnels_from left (entry_after tunnel_cmp t.tunnels e.0) t)

  goes_all_tunnels : Keeps world (all_tunnels world)
  goes_all_tunnels s = goes_tunnels_from (most_tunnels world) (first_entry s.tunnels) s

  -- ---- 4. radios

  module _ (again : Turn → State M C L P → Outcome M C L P) (ka : (turn : Turn) → Keeps world (again turn)) where
    goes_aired_by : (turn : Turn) (home : NodeId) (s : State M C L P) (d : Done M C L P) → DoneStays world s d
        → Stays world s (aired_by world again turn home s d)
    goes_aired_by turn home s (is_done outcome) p = then_more world s outcome (again (after_air turn)) p (ka (after_air turn))
    goes_aired_by turn home s (is_held reason) p =
        then_more world s
        (as_step (Some (receiver_of turn.key home)) (goes (held_at (radio_link turn.key (epoch_of s turn.key.ue)) reason ∷ []) s))
        (again (to_acks (after_air turn))) (record { it = λ h. absurd cc }) (ka (to_acks (after_air turn)))
    goes_aired_by turn home s (is_refused reason) p = ka (to_acks (after_air turn)) s

    goes_air_next : (turn : Turn) (home : NodeId) (o : Option (Item P)) → Keeps world (λ s. air_next world again turn home s o)
    goes_air_next turn home None s = ka (to_acks turn) s
    goes_air_next turn home (Some item) s =
        choose world s (turn.airs == 0) _ _ (ka (to_acks turn) s)
        (goes_aired_by turn home s (carry_done world turn.key home item s) (goes_carry_done world turn.key home item s).it)

    goes_acked_by : (turn : Turn) (s : State M C L P) (d : Done M C L P) → DoneStays world s d → Stays world s (acked_by world again turn s d)
    goes_acked_by turn s (is_done outcome) p = then_more world s outcome (again (after_ack turn)) p (ka (after_ack turn))
    goes_acked_by turn s (is_held reason) p = ka (after_ack turn) s
    goes_acked_by turn s (is_refused reason) p = ka (after_ack turn) s

    goes_turn_over : (turn : Turn) → Keeps world (turn_over world again turn)
    goes_turn_over turn s = choose world s turn.moved _ _ (ka (to_airs turn) s) (just_goes_on world s)

    goes_ack_next : (turn : Turn) (home : NodeId) (items : List (Item P)) (carried : ℕ)
        → Keeps world (λ s. ack_next world again turn home s items carried)
    goes_ack_next turn home [] carried s = just_goes_on world s
    goes_ack_next turn home (item ∷ rest) carried s =
        choose world s (carried == 0 || turn.acks == 0) (turn_over world again turn s) _ (goes_turn_over turn s)
        (goes_acked_by turn s (confirm_done world turn.key home item rest s) (goes_confirm_done world turn.key home item rest s).it)

    goes_turn_at : (turn : Turn) (o : Option NodeId) → Keeps world (λ s. turn_at world again turn s o)
    goes_turn_at turn None s = just_goes_on world s
    goes_turn_at turn (Some home) s =
        choose world s turn.airing _ _ (goes_air_next turn home (nth (radio_of s turn.key).items (radio_of s turn.key).carried) s)
        (goes_ack_next turn home (radio_of s turn.key).items (radio_of s turn.key).carried s)

    goes_turn_step : (turn : Turn) → Keeps world (turn_step world again turn)
    goes_turn_step turn s = goes_turn_at turn (ready_home s turn.key.ue) s

  goes_turn_times : (left : ℕ) (turn : Turn) → Keeps world (turn_times world left turn)
  goes_turn_times zero turn s = just_goes_on world s
  goes_turn_times (suc left) turn s = goes_turn_step (turn_times world left) (goes_turn_times left) turn s

  goes_radio_turn : (key : EntityKey) → Keeps world (radio_turn world key)
  goes_radio_turn key s = goes_turn_times _ _ s

  goes_all_radios : (keys : List EntityKey) → Keeps world (all_radios world keys)
  goes_all_radios [] s = just_goes_on world s
  goes_all_radios (key ∷ keys) s = then_more world s (radio_turn world key s) (all_radios world keys) (goes_radio_turn key s) (goes_all_radios keys)

  -- ---- 5. polls

  goes_poll_at : (e : UeId × BearerId) (o : Option (ℕ × ℕ)) → Keeps world (λ s. poll_at world e s o)
  goes_poll_at e None s = just_goes_on world s
  goes_poll_at e (Some place) s =
      choose world s (is_unconfirmed (cu_up_of s.units (serving_gnb s e.0) place.0) e.0 e.1) _ _
      (goes_quiet_order (CuUp (serving_gnb s e.0) place.0) (orders.Poll e.0 e.1) s) (just_goes_on world s)

  goes_poll_each : (es : List (UeId × BearerId)) → Keeps world (poll_each world es)
  goes_poll_each [] s = just_goes_on world s
  goes_poll_each (e ∷ es) s =
      then_more world s (poll_at world e s (serving_place s e.0)) (poll_each world es) (goes_poll_at e (serving_place s e.0) s) (goes_poll_each es)

  -- ---- a round, all rounds

  goes_round : Keeps world (round world)
  unfolding round
  goes_round s =
      then_more world s _ (tick world)
      (then_more world s _ (pump world)
      (then_more world s _ (λ t. poll_each world (attached_bearers t) t)
      (then_more world s _ (λ t. all_radios world (attached_entities t) t)
      (then_more world s _ (all_tunnels world)
      (then_more world s (move_each world (attached_plans s) s) (pump world) (goes_move_each (attached_plans s) s) (goes_pump world))
      goes_all_tunnels)
      (λ t. goes_all_radios (attached_entities t) t))
      (λ t. goes_poll_each (attached_bearers t) t))
      (goes_pump world))
      (goes_tick world)

  goes_rounds_from : (rounds left : ℕ) → Keeps world (rounds_from world rounds left)
  goes_rounds_from rounds zero s =
      choose world s (all_quiet world s) (settled world rounds s) _ (record { it = λ h. absurd cc })
      (record { it = λ h. absurd cc })
  goes_rounds_from rounds (suc left) s =
      choose world s (all_quiet world s) (settled world rounds s) _ (record { it = λ h. absurd cc })
      (then_more world s (round world s) (rounds_from world (rounds + 1) left) (goes_round s) (goes_rounds_from (rounds + 1) left))

  pub goes_settle : Keeps world (settle world)
  unfolding settle
  goes_settle s = goes_rounds_from 0 (round_limit world s) s
