-- `settle`: rounds until every bearer of every attached terminal is quiet, or the rounds are used up. What is refused inside a round
-- prints nothing and changes nothing.
use Rattle.std.specs.Prelude.{ℕ, ◌==◌, zero, suc, ◌+◌, ◌*◌, ◌-◌, ◌^◌, Bool, true, false, ◌||◌, if◌then◌else◌, List, [], ◌∷◌, length, map, sum, Option, Some, None}
use Rattle.std.specs.List.{list_all, flat_map}
use Rattle.gnb_types.specs.declared.names.UeId.{UeId}
use Rattle.gnb_types.specs.declared.names.BearerId.{BearerId}
use Rattle.gnb_types.specs.declared.names.NodeId.{NodeId}
use Rattle.gnb_types.specs.declared.names.NodeId.TheVariants.{CuUp, Ue}
use Rattle.gnb_types.specs.declared.keys.TunnelEnd.{TunnelEnd}
use Rattle.gnb_types.specs.declared.keys.EntityKey.{EntityKey}
use Rattle.gnb_types.specs.declared.plans.Plan.{Plan}
use Rattle.gnb_types.specs.declared.inputs.Order.{Order}
use Rattle.gnb_types.specs.declared.inputs.Order.TheVariants as orders
use Rattle.gnb_types.specs.Orders.{tunnel_cmp}
use Rattle.tables.specs.Tables.{at, entry_after, first_entry}
use Rattle.unit_defs.specs.declared.UeState.{UeState}
use Rattle.unit_defs.specs.declared.UeState.TheVariants as ue_states
use Rattle.unit_defs.specs.Accessors.{is_unconfirmed}
use Rattle.run_defs.specs.Lines.{RunLine, held_at, has_settled, has_not_settled, tunnel_link, radio_link}
use Rattle.run_defs.specs.Units.{cu_up_of}
use Rattle.transport_defs.specs.declared.Item.{Item}
use Rattle.transport_defs.specs.Links.{nth}
use Rattle.run_defs.specs.States.{State, order_for, World, goes, ◌next◌, goes_on, Outcome, as_step, prints, is_gone, book_of, radio_of}
use Rattle.run_defs.specs.Steps.{entities_of, bearer_numbers, Done, is_done, is_held, is_refused, does}
use Rattle.run_defs.specs.Conditions.{serving_gnb, serving_place, state_at, has_home, ready_home, epoch_of, receiver_of, rests, ask_line}
use Rattle.run_defs.specs.Events.{get_done, carry_done, confirm_done, pump, tick}

-- ---- the attached terminals, their bearers and entities, ascending

abbrev pub attached_plans : {M C L P : Type 0} → State M C L P → List (UeId × Plan)
attached_plans s = flat_map (λ e. if is_gone s e.0 then [] else e ∷ []) s.plans

abbrev pub attached_entities : {M C L P : Type 0} → State M C L P → List EntityKey
attached_entities s = flat_map entities_of (attached_plans s)

abbrev pub bearers_of : UeId × Plan → List (UeId × BearerId)
bearers_of e = map (λ b. (e.0, b)) (bearer_numbers 1 e.1.bearers)

abbrev pub attached_bearers : {M C L P : Type 0} → State M C L P → List (UeId × BearerId)
attached_bearers s = flat_map bearers_of (attached_plans s)

-- what is left of a radio's turn: how often it may be aired and acknowledged, which of the two it is at, and whether anything moved
-- since it last began to be aired
pub record Turn : Type 0 where
  pub key : EntityKey
  pub airs : ℕ
  pub acks : ℕ
  pub airing : Bool
  pub moved : Bool

abbrev pub to_acks : Turn → Turn
to_acks turn = record turn { airing = false }

abbrev pub to_airs : Turn → Turn
to_airs turn = record turn { airing = true; moved = false }

abbrev pub after_air : Turn → Turn
after_air turn = record turn { airs = turn.airs - 1; moved = true }

abbrev pub after_ack : Turn → Turn
after_ack turn = record turn { acks = turn.acks - 1; moved = true }

module _ {M C L P : Type 0} (world : World M C L P) where
  -- what is refused is left out
  abbrev pub quietly_by : State M C L P → Done M C L P → Outcome M C L P
  quietly_by s (is_done outcome) = outcome
  quietly_by s (is_held reason) = goes_on s
  quietly_by s (is_refused reason) = goes_on s

  abbrev pub quiet_order : NodeId → Order → State M C L P → Outcome M C L P
  quiet_order node order s = quietly_by s (does world node (order_for order) None goes_on s)

  -- ---- 1. each terminal that is accessing arrives, and each that lost its radio returns, where it was ever connected

  abbrev pub move_by : UeId → State M C L P → UeState → Outcome M C L P
  move_by ue s ue_states.Accessing = quiet_order (Ue ue.0) (orders.Arrive ue) s
  move_by ue s ue_states.Lost = if has_home s ue then quiet_order (Ue ue.0) (orders.Return ue) s else goes_on s
  move_by ue s state = goes_on s

  abbrev pub move_each : List (UeId × Plan) → State M C L P → Outcome M C L P
  move_each [] s = goes_on s
  move_each (e ∷ es) s = move_by e.0 s (state_at s e.0) next move_each es

  -- ---- 3. each tunnel, in order, is got until it is empty or holds, at most as often as items stood on it when its turn began

  abbrev pub got_in_turn : TunnelEnd → (State M C L P → Outcome M C L P) → State M C L P → Done M C L P → Outcome M C L P
  got_in_turn end more s (is_done outcome) = outcome next more
  got_in_turn end more s (is_held reason) = as_step (Some end.node) (goes (held_at (tunnel_link end) reason ∷ []) s)
  got_in_turn end more s (is_refused reason) = goes_on s

  abbrev pub get_items : TunnelEnd → (State M C L P → Outcome M C L P) → State M C L P → List (Item L) → Outcome M C L P
  get_items end more s [] = goes_on s
  get_items end more s (item ∷ rest) = got_in_turn end more s (get_done world end item rest s)

  abbrev pub get_times : TunnelEnd → ℕ → State M C L P → Outcome M C L P
  get_times end zero s = goes_on s
  get_times end (suc times) s = get_items end (get_times end times) s (at tunnel_cmp [] s.tunnels end)

  abbrev pub tunnel_turn : TunnelEnd → State M C L P → Outcome M C L P
  tunnel_turn end s = get_times end (length (at tunnel_cmp [] s.tunnels end)) s

  -- from place to place, so that one which is opened further on has its turn
  abbrev pub tunnels_from : ℕ → State M C L P → Option (TunnelEnd × List (Item L)) → Outcome M C L P
  tunnels_from zero s entry = goes_on s
  tunnels_from (suc left) s None = goes_on s
  tunnels_from (suc left) s (Some e) = tunnel_turn e.0 s next (λ t. tunnels_from left t (entry_after tunnel_cmp t.tunnels e.0))

  -- how many tunnels there can be: the TEIDs of eight nodes
  abbrev pub most_tunnels : ℕ
  most_tunnels = 8 * 2 ^ 32

  abbrev pub all_tunnels : State M C L P → Outcome M C L P
  all_tunnels s = tunnels_from most_tunnels s (first_entry s.tunnels)

  -- ---- 4. Each radio that is ready is aired until nothing is uncarried or an item is held, then acknowledged until nothing is carried. Where
  -- anything moved, it is aired and acknowledged again; its turn ends once nothing moved, it is empty or it is no longer ready. It is aired
  -- and acknowledged each at most 4,096 times more often than items stood on it when its turn began.

  abbrev pub further_turns : ℕ
  further_turns = 4096

  -- one item is carried; a held one ends the airing
  abbrev pub aired_by : (Turn → State M C L P → Outcome M C L P) → Turn → NodeId → State M C L P → Done M C L P → Outcome M C L P
  aired_by again turn home s (is_done outcome) = outcome next again (after_air turn)
  aired_by again turn home s (is_held reason) =
      as_step (Some (receiver_of turn.key home)) (goes (held_at (radio_link turn.key (epoch_of s turn.key.ue)) reason ∷ []) s)
      next again (to_acks (after_air turn))
  aired_by again turn home s (is_refused reason) = again (to_acks (after_air turn)) s

  abbrev pub air_next : (Turn → State M C L P → Outcome M C L P) → Turn → NodeId → State M C L P → Option (Item P) → Outcome M C L P
  air_next again turn home s None = again (to_acks turn) s
  air_next again turn home s (Some item) =
      if turn.airs == 0 then again (to_acks turn) s else aired_by again turn home s (carry_done world turn.key home item s)

  -- one item is confirmed; where none can be, the radio is aired again, or its turn ends
  abbrev pub acked_by : (Turn → State M C L P → Outcome M C L P) → Turn → State M C L P → Done M C L P → Outcome M C L P
  acked_by again turn s (is_done outcome) = outcome next again (after_ack turn)
  acked_by again turn s (is_held reason) = again (after_ack turn) s
  acked_by again turn s (is_refused reason) = again (after_ack turn) s

  abbrev pub turn_over : (Turn → State M C L P → Outcome M C L P) → Turn → State M C L P → Outcome M C L P
  turn_over again turn s = if turn.moved then again (to_airs turn) s else goes_on s

  abbrev pub ack_next : (Turn → State M C L P → Outcome M C L P) → Turn → NodeId → State M C L P → List (Item P) → ℕ → Outcome M C L P
  ack_next again turn home s [] carried = goes_on s
  ack_next again turn home s (item ∷ rest) carried =
      if carried == 0 || turn.acks == 0 then turn_over again turn s
      else acked_by again turn s (confirm_done world turn.key home item rest s)

  -- a radio that is no longer ready has had its turn
  abbrev pub turn_at : (Turn → State M C L P → Outcome M C L P) → Turn → State M C L P → Option NodeId → Outcome M C L P
  turn_at again turn s None = goes_on s
  turn_at again turn s (Some home) =
      let r = radio_of s turn.key in
      if turn.airing then air_next again turn home s (nth r.items r.carried) else ack_next again turn home s r.items r.carried

  abbrev pub turn_step : (Turn → State M C L P → Outcome M C L P) → Turn → State M C L P → Outcome M C L P
  turn_step again turn s = turn_at again turn s (ready_home s turn.key.ue)

  abbrev pub turn_times : ℕ → Turn → State M C L P → Outcome M C L P
  turn_times zero turn s = goes_on s
  turn_times (suc left) turn s = turn_step (turn_times left) turn s

  -- each air and each acknowledgement is followed by two changes between them at most: so many steps are more than a turn takes
  abbrev pub radio_turn : EntityKey → State M C L P → Outcome M C L P
  radio_turn key s =
      let most = length (radio_of s key).items + further_turns in
      turn_times (6 * most + 2) (record { key = key; airs = most; acks = most; airing = true; moved = false }) s

  abbrev pub all_radios : List EntityKey → State M C L P → Outcome M C L P
  all_radios [] s = goes_on s
  all_radios (key ∷ keys) s = radio_turn key s next all_radios keys

  -- ---- 5. each bearer with an unconfirmed downlink packet is polled

  abbrev pub poll_at : UeId × BearerId → State M C L P → Option (ℕ × ℕ) → Outcome M C L P
  poll_at e s None = goes_on s
  poll_at e s (Some place) =
      let gnb = serving_gnb s e.0 in
      if is_unconfirmed (cu_up_of s.units gnb place.0) e.0 e.1 then quiet_order (CuUp gnb place.0) (orders.Poll e.0 e.1) s else goes_on s

  abbrev pub poll_each : List (UeId × BearerId) → State M C L P → Outcome M C L P
  poll_each [] s = goes_on s
  poll_each (e ∷ es) s = poll_at e s (serving_place s e.0) next poll_each es

  -- ---- a round

  unfoldable pub round : State M C L P → Outcome M C L P
  round s =
      move_each (attached_plans s) s
      next pump world
      next all_tunnels
      next (λ t. all_radios (attached_entities t) t)
      next (λ t. poll_each (attached_bearers t) t)
      next pump world
      next tick world

  -- ---- all rounds, and what is printed at the end

  abbrev pub all_quiet : State M C L P → Bool
  all_quiet s = list_all (λ e. rests s e.0 e.1) (attached_bearers s)

  abbrev pub ask_lines : State M C L P → List (RunLine M)
  ask_lines s = map (λ e. ask_line s e.0 e.1) (attached_bearers s)

  abbrev pub settled : ℕ → State M C L P → Outcome M C L P
  settled rounds s = prints (has_settled rounds ∷ ask_lines s) s

  abbrev pub rounds_from : ℕ → ℕ → State M C L P → Outcome M C L P
  rounds_from rounds zero s = if all_quiet s then settled rounds s else prints (has_not_settled rounds ∷ ask_lines s) s
  rounds_from rounds (suc left) s = if all_quiet s then settled rounds s else (round s next rounds_from (rounds + 1) left)

  -- packets that were offered and aren't delivered
  abbrev pub undelivered : State M C L P → EntityKey → ℕ
  undelivered s key = (book_of s key).offered - (book_of s key).delivered

  abbrev pub round_limit : State M C L P → ℕ
  round_limit s = 100 + 10 * (length s.bag.flight + sum (map (undelivered s) (attached_entities s)))

  unfoldable pub settle : State M C L P → Outcome M C L P
  settle s = rounds_from 0 (round_limit s) s
