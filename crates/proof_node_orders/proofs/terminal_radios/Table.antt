-- The whole table of a terminal.
use Rattle.std.proofs.Common.{◌≡◌, ℕ, ◌+◌, ◌==◌, Bool, true, false, ◌&&◌, not, nat_lt, nat_le, length, List, [], ◌∷◌, ◌++◌, Option, Some, None, refl, sym, ap, subst, ◌∙◌}
use Rattle.std.specs.Prelude.{if◌then◌else◌, ⊤}
use Rattle.std.specs.List.{AllByRecursion}
use Rattle.std.specs.Ordering.{eq_by_cmp}
use Rattle.gnb_types.specs.declared.names.NodeId.{NodeId}
use Rattle.gnb_types.specs.declared.names.NodeId.TheVariants.{CuCp, CuUp, Du, Core, Ue}
use Rattle.gnb_types.specs.declared.names.BearerId.{BearerId}
use Rattle.gnb_types.specs.declared.names.UeId.{UeId}
use Rattle.gnb_types.specs.declared.plans.Plan.{Plan}
use Rattle.gnb_types.specs.declared.names.Dir.TheVariants.{Dl, Ul}
use Rattle.gnb_types.specs.declared.reasons.DropReason.TheVariants.{Stale, Unexpected}
use Rattle.gnb_types.specs.declared.reasons.RefuseReason.TheVariants.{NotAccessing, NoHome, Busy, NoRadio}
use Rattle.gnb_types.specs.declared.inputs.Order.{Order as UeOrder}
use Rattle.gnb_types.specs.declared.inputs.Order.TheVariants as orders
use Rattle.gnb_types.specs.Orders.{bearer_cmp}
use Rattle.message_types.specs.declared.rrc.Token.{Token}
use Rattle.message_types.specs.declared.rrc.Token.TheVariants as tokens
use Rattle.pdcp_defs.specs.Receivers.{is_duplicate, is_ahead}
use Rattle.unit_defs.specs.declared.UeState.{UeState}
use Rattle.unit_defs.specs.declared.UeState.TheVariants as states
use Rattle.unit_defs.specs.declared.TokenKind.TheVariants as says
use Rattle.unit_defs.specs.Ways.{Message, f1, e1, xn, core, rrc, Content, packet_content, report_content, Input, control_input, packet_input, radio_input, confirm_input, offer_input, tick_input, order_input, Output, no, Way, Answer, gives, spent, ◌then◌, nothing, puts, drops, epochs_spent}
use Rattle.unit_defs.specs.Ue.{UeNode, last_epoch, largest_packet, is_connected, is_accessing, may_return, may_obey, used_uplink, obey, arrived, arrive, returned, return_to, come_back, accepted_in, accept, fail, offer, take, confirm, told, told_by, ordered, says_it, connect, ue_acts}
use Rattle.bearer_defs.specs.chain_defs.Orders as down
use Rattle.bearer_defs.specs.uplink_defs.Orders.{ModelStep, offers, connects, leaves, arrives, acknowledges, reports}
use Rattle.proof_node_orders.specs.terminal_rows.Shown.{orders_of, numbering}
use Rattle.proof_node_orders.specs.terminal_inputs.Inputs.{Models, Orders, none, rest_of, connecting, of_command, of_accepted, of_token, of_control_message, told_to, known_to, of_taken, of_data, of_pdu, of_known, of_confirmed, offered_to, of_offer, of_arrival, of_return, of_order, if_here, orders_by}
use Rattle.proof_node_orders.specs.terminal_radios.Radios.{clears, unknown_after, is_on_radio, IsPutIn, IsMoved, IsReceived, Receives}
use Rattle.proof_node_orders.proofs.terminal_radios.Puts.{IsSame, Rests, take_rests, confirm_rests, offer_rests, connect_rests, says_rests, says_then}
use Rattle.proof_node_orders.proofs.terminal_radios.Moves.{IsPlain, all_plain, numbering_plain, AreReceived, none_received, plain_received, leaves_received, connects_received, arrives_received, offers_received, reports_received, acknowledges_received}

module _ {M C P : Type 0} (way : Way M C P) (u : UeNode) (b : Models) where
  abbrev Its : List ℕ → Orders → Answer M P UeNode → Type 0
  Its unknown o a = Receives unknown b o u a

  -- where an input confirms nothing
  abbrev Same : Orders → Answer M P UeNode → Type 0
  Same o a = Its b.up.carried o a

  put_so : (ue who : UeId) (e epoch : ℕ) (t is_there : Bool) (outputs : List (Output M P)) → who ≡ ue → epoch ≡ e → is_there ≡ t
      → AllByRecursion (IsPutIn ue e t) outputs → AllByRecursion (IsPutIn who epoch is_there) outputs
  put_so ue who e epoch t is_there outputs same_ue same_epoch same_state p =
      subst (λ (x : UeId). AllByRecursion (IsPutIn x epoch is_there) outputs) (sym same_ue)
      (subst (λ (x : ℕ). AllByRecursion (IsPutIn ue x is_there) outputs) (sym same_epoch)
      (subst (λ (x : Bool). AllByRecursion (IsPutIn ue e x) outputs) (sym same_state) p))

  -- what a terminal in this state puts, and is then
  from_rests : (unknown : List ℕ) (v : UeNode) → v.plan ≡ u.plan → (o : Orders) (a : Answer M P UeNode) → AreReceived unknown b.up o.up
      → (is_connected u.state ≡ true → (w : UeNode) → IsSame way v w → IsMoved (clears o.up) u w) → Rests way v a → Its unknown o a
  unfolding Receives
  from_rests unknown v plan o (gives outputs w) was_received moved p = record {
    plan = p.1.plan ∙ plan;
    puts = put_so v.plan.ue w.plan.ue v.epoch w.epoch (is_connected v.state) (is_connected w.state) outputs (ap (λ (x : Plan). x.ue) p.1.plan) p.1.epoch
        (ap (λ (x : UeState). is_connected x) p.1.state) p.0;
    own = was_received.own;
    carried = was_received.carried;
    moved = λ is. moved is w p.1;
  }
  from_rests unknown v plan o (spent counter) was_received moved p = tt

  -- it stays where it is, and the orders leave no radio
  stays : (unknown : List ℕ) (o : Orders) (a : Answer M P UeNode) → AreReceived unknown b.up o.up → clears o.up ≡ false → Rests way u a → Its unknown o a
  stays unknown o a was_received none_left p =
      from_rests unknown u refl o a was_received
      (λ is w same. subst (λ (t : Bool). IsMoved t u w) (sym none_left) (ap (λ (x : UeState). is_connected x) same.state ∙ is, same.epoch)) p

  itself : (v : UeNode) → IsSame way v v
  itself v = record { plan = refl; epoch = refl; state = refl }

  quiet : (a : Answer M P UeNode) → Rests way u a → Same none a
  quiet a p = stays b.up.carried none a (none_received b.up) refl p

  unexpected : Same none (drops Unexpected u)
  unexpected = quiet (drops Unexpected u) ((tt, tt), itself u)

  -- ---- states

  apart_accessing : (x : UeState) → is_accessing x ≡ true → is_connected x ≡ true → ⊥
  apart_accessing states.Idle a c = absurd cc
  apart_accessing states.Connected a c = absurd cc
  apart_accessing states.Accessing a c = absurd cc
  apart_accessing states.Lost a c = absurd cc
  apart_accessing states.Returning a c = absurd cc

  apart_away : (x : UeState) → may_return x ≡ true → is_connected x ≡ true → ⊥
  apart_away states.Idle a c = absurd cc
  apart_away states.Connected a c = absurd cc
  apart_away states.Accessing a c = absurd cc
  apart_away states.Lost a c = absurd cc
  apart_away states.Returning a c = absurd cc

  -- ---- tokens

  if_own : (t : Bool) (o : Orders) (a : Answer M P UeNode) → Same o a → Same (if t then o else none) (if t then a else drops Unexpected u)
  if_own true o a h = h
  if_own false o a h = unexpected

  obeys : (epoch : ℕ) (goal : NodeId) → Same (of_command way u b epoch) (obey way epoch goal u)
  unfolding obey
  obeys epoch goal = by (may_obey way u.state && epoch == u.epoch + 1)
    where
      by : (t : Bool) → Same (if t then record { up = leaves ∷ []; down = [] } else none)
          (if t then nothing (record u { state = states.Accessing; goal = Some goal }) else drops Stale u)
      by true =
          let v : UeNode = record u { state = states.Accessing; goal = Some goal } in
          from_rests b.up.carried v refl (record { up = leaves ∷ []; down = [] }) (nothing v) (leaves_received b.up.carried b.up)
          (λ is w same. ap (λ (x : UeState). is_on_radio x) same.state) (tt, itself v)
      by false = quiet (drops Stale u) ((tt, tt), itself u)

  moves_on : Same none (nothing (record u { token = None }))
  moves_on = quiet (nothing (record u { token = None })) (tt, record { plan = refl; epoch = refl; state = refl })

  accepts_in : (x : UeState) → u.state ≡ x → Same (of_accepted way u b x) (accepted_in way u x)
  accepts_in states.Returning at =
      let v : UeNode = record u { token = None; state = states.Connected } in
      from_rests b.up.carried v refl (record { up = connecting way u b; down = [] }) (connect way v)
      (connects_received b.up.carried b.up (orders_of u b.up.terminal) (all_plain u b.up.terminal))
      (λ is w same. absurd (let never : false ≡ true = sym (ap (λ (x : UeState). is_connected x) at) ∙ is in cc)) (connect_rests way v refl)
  accepts_in states.Idle at = moves_on
  accepts_in states.Connected at = moves_on
  accepts_in states.Accessing at = moves_on
  accepts_in states.Lost at = moves_on

  accepts : (epoch : ℕ) → Same (if epoch == u.epoch then of_accepted way u b u.state else none) (accept way epoch u)
  unfolding accept
  accepts epoch = by (epoch == u.epoch)
    where
      by : (t : Bool) → Same (if t then of_accepted way u b u.state else none) (if t then accepted_in way u u.state else drops Stale u)
      by true = accepts_in u.state refl
      by false = quiet (drops Stale u) ((tt, tt), itself u)

  told_received : (token : Token) → Same (of_token way u b token) (told way token u)
  told_received (tokens.Command ue epoch gnb du) = if_own (ue.0 == u.plan.ue.0) (of_command way u b epoch) (obey way epoch (Du gnb du) u) (obeys epoch (Du gnb du))
  told_received (tokens.Accepted ue epoch) =
      if_own (ue.0 == u.plan.ue.0) (if epoch == u.epoch then of_accepted way u b u.state else none) (accept way epoch u) (accepts epoch)
  told_received (tokens.Complete ue epoch) = unexpected
  told_received (tokens.Reestablish ue epoch) = unexpected

  control_message_received : (from : NodeId) (message : Message C) → Same (of_control_message way u b from message) (told_by way from message u)
  control_message_received (Du gnb number) (rrc token) = told_received token
  control_message_received (Du gnb number) (f1 message) = unexpected
  control_message_received (Du gnb number) (e1 message) = unexpected
  control_message_received (Du gnb number) (xn message) = unexpected
  control_message_received (Du gnb number) (core message) = unexpected
  control_message_received (CuCp gnb) message = unexpected
  control_message_received (CuUp gnb number) message = unexpected
  control_message_received Core message = unexpected
  control_message_received (Ue ue) message = unexpected

  -- ---- orders of the script

  arrives_here : (to : Option ℕ) → is_accessing u.state ≡ true → Same (of_arrival way u b to) (says_it way (arrived way u) then connect way)
  arrives_here None may =
      from_rests b.up.carried (arrived way u) refl (of_arrival way u b None) (says_it way (arrived way u) then connect way)
      (connects_received b.up.carried b.up (orders_of u b.up.terminal) (all_plain u b.up.terminal))
      (λ is w same. absurd (apart_accessing u.state may is)) (says_then way (arrived way u) refl)
  arrives_here (Some x) may =
      from_rests b.up.carried (arrived way u) refl (of_arrival way u b (Some x)) (says_it way (arrived way u) then connect way)
      (arrives_received b.up.carried b.up x (orders_of u b.up.terminal) (all_plain u b.up.terminal))
      (λ is w same. absurd (apart_accessing u.state may is)) (says_then way (arrived way u) refl)

  arrives_so : (to : Option ℕ) → Same (if is_accessing u.state then of_arrival way u b to else none) (arrive way u)
  unfolding arrive Receives
  arrives_so to = by (is_accessing u.state) refl
    where
      by_epoch : (t : Bool) → is_accessing u.state ≡ true
          → Same (of_arrival way u b to) ((if t then spent epochs_spent else says_it way (arrived way u)) then connect way)
      by_epoch true may = tt
      by_epoch false may = arrives_here to may

      by : (t : Bool) → is_accessing u.state ≡ t → Same (if t then of_arrival way u b to else none)
          (if not t then puts (no NotAccessing) u
          else ((if nat_le last_epoch u.epoch then spent epochs_spent else says_it way (arrived way u)) then connect way))
      by true may = by_epoch (nat_le last_epoch u.epoch) may
      by false may = quiet (puts (no NotAccessing) u) ((tt, tt), itself u)

  returns : Same (of_return way u b u.home) (come_back way u)
  unfolding come_back Receives
  returns = by_home u.home
    where
      by_epoch : (t : Bool) → may_return u.state ≡ true → Same (record { up = []; down = down.fails ∷ [] })
          (if t then spent epochs_spent else says_it way (returned way u))
      by_epoch true may = tt
      by_epoch false may =
          from_rests b.up.carried (returned way u) refl (record { up = []; down = down.fails ∷ [] }) (says_it way (returned way u)) (none_received b.up)
          (λ is w same. absurd (apart_away u.state may is)) (says_rests way (returned way u))

      by : (t : Bool) → may_return u.state ≡ t → Same (if t then record { up = []; down = down.fails ∷ [] } else none)
          (if not t then puts (no Busy) u else (if nat_le last_epoch u.epoch then spent epochs_spent else says_it way (returned way u)))
      by true may = by_epoch (nat_le last_epoch u.epoch) may
      by false may = quiet (puts (no Busy) u) ((tt, tt), itself u)

      by_home : (h : Option NodeId) → Same (of_return way u b h) (return_to way u h)
      by_home None = quiet (puts (no NoHome) u) ((tt, tt), itself u)
      by_home (Some home) = by (may_return u.state) refl

  fails_so : Same (if is_connected u.state then record { up = leaves ∷ []; down = [] } else none) (fail way u)
  unfolding fail
  fails_so = by (is_connected u.state)
    where
      by : (t : Bool) → Same (if t then record { up = leaves ∷ []; down = [] } else none)
          (if t then nothing (record u { state = states.Lost }) else puts (no NoRadio) u)
      by true =
          let v : UeNode = record u { state = states.Lost } in
          from_rests b.up.carried v refl (record { up = leaves ∷ []; down = [] }) (nothing v) (leaves_received b.up.carried b.up)
          (λ is w same. ap (λ (x : UeState). is_on_radio x) same.state) (tt, itself v)
      by false = quiet (puts (no NoRadio) u) ((tt, tt), itself u)

  order_received : (to : Option ℕ) (order : UeOrder) → Same (of_order way u b to order) (ordered way order u)
  order_received to (orders.Arrive ue) = arrives_so to
  order_received to (orders.Return ue) = returns
  order_received to (orders.Fail ue) = fails_so
  order_received to orders.Start = unexpected
  order_received to (orders.Attach plan) = unexpected
  order_received to (orders.Handover plan) = unexpected
  order_received to (orders.Cancel ue) = unexpected
  order_received to (orders.Release ue) = unexpected
  order_received to (orders.Poll ue other) = unexpected

  -- ---- packets and reports, of this bearer or another one

  of_here : (bearer other : BearerId) (unknown : List ℕ) (o : Orders) (a : Answer M P UeNode) → AreReceived unknown b.up o.up → clears o.up ≡ false → Rests way u a
      → Its (if eq_by_cmp bearer_cmp bearer other then unknown else b.up.carried) (if_here way u b bearer other o) a
  of_here bearer other unknown o a was_received none_left p = by (eq_by_cmp bearer_cmp bearer other)
    where
      by : (t : Bool) → Its (if t then unknown else b.up.carried) (if t then o else none) a
      by true = stays unknown o a was_received none_left p
      by false = quiet a p

  -- and where it confirms nothing
  of_some : (bearer other : BearerId) (o : Orders) (a : Answer M P UeNode) → AreReceived b.up.carried b.up o.up → clears o.up ≡ false → Rests way u a
      → Same (if_here way u b bearer other o) a
  of_some bearer other o a was_received none_left p = by (eq_by_cmp bearer_cmp bearer other)
    where
      by : (t : Bool) → Same (if t then o else none) a
      by true = stays b.up.carried o a was_received none_left p
      by false = quiet a p

  abbrev Stay : Orders → Type 0
  Stay o = AreReceived b.up.carried b.up o.up × (clears o.up ≡ false)

  none_stay : Stay none
  none_stay = (none_received b.up, refl)

  taken_stay : (old ahead : Bool) (count : ℕ) (packet : List ℕ) → Stay (of_taken way u b old ahead count packet)
  taken_stay true ahead count packet = (none_received b.up, refl)
  taken_stay false true count packet = none_stay
  taken_stay false false count packet = (none_received b.up, refl)

  pdu_stay : (content : Content) → Stay (of_pdu way u b content)
  pdu_stay (packet_content None packet) = none_stay
  pdu_stay (packet_content (Some count) packet) =
      taken_stay (is_duplicate b.down.terminal count) (is_ahead u.plan.quota b.down.terminal count) count packet
  pdu_stay (report_content fmc bits) =
      let p = numbering_plain u (told_to way u b fmc bits) in (reports_received b.up fmc bits (numbering u (told_to way u b fmc bits)) p, p.stays)

  confirms_here : (bearer : BearerId) (ue : UeId) (other : BearerId) (pdu : P) (content : Content)
      → Its (unknown_after {C = C} bearer (confirm_input ue other Ul pdu content) b.up.carried)
      (if_here way u b bearer other (of_confirmed way u b content)) (confirm way other content u)
  confirms_here bearer ue other pdu (packet_content None packet) =
      let p = numbering_plain u b.up.terminal in
      of_some bearer other (of_confirmed way u b (packet_content None packet)) (confirm way other (packet_content None packet) u)
      (plain_received b.up (numbering u b.up.terminal) p) p.stays (confirm_rests way u other (packet_content None packet))
  confirms_here bearer ue other pdu (packet_content (Some count) packet) =
      let p = numbering_plain u (known_to way u b count) in
      of_here bearer other (rest_of b.up.carried) (of_confirmed way u b (packet_content (Some count) packet)) (confirm way other (packet_content (Some count) packet) u)
      (acknowledges_received b.up count (rest_of b.up.carried) (numbering u (known_to way u b count)) p) p.stays
      (confirm_rests way u other (packet_content (Some count) packet))
  confirms_here bearer ue other pdu (report_content fmc bits) =
      of_some bearer other none (confirm way other (report_content fmc bits) u) (none_received b.up) refl (confirm_rests way u other (report_content fmc bits))

  offer_stay : (packet : List ℕ) → Stay (of_offer way u b packet)
  offer_stay packet = by (nat_lt largest_packet (length packet)) (nat_le u.plan.quota (used_uplink way b.up.terminal))
    where
      by : (large full : Bool) → Stay (if large then none else (if full then none else
          record { up = offers packet ∷ numbering u (offered_to way u b packet); down = [] }))
      by true full = none_stay
      by false true = none_stay
      by false false =
          let p = numbering_plain u (offered_to way u b packet) in (offers_received b.up packet (numbering u (offered_to way u b packet)) p, p.stays)

  pub was_received : (bearer : BearerId) (to : Option ℕ) (input : Input C P)
      → Its (unknown_after bearer input b.up.carried) (orders_by way u b bearer to input) (ue_acts way u input)
  unfolding orders_by ue_acts
  was_received bearer to (control_input from message) = control_message_received from message
  was_received bearer to (radio_input ue other Dl pdu content) =
      let h = pdu_stay content in of_some bearer other (of_pdu way u b content) (take way other content u) h.0 h.1 (take_rests way u other content)
  was_received bearer to (radio_input ue other Ul pdu content) = unexpected
  was_received bearer to (confirm_input ue other Ul pdu content) = confirms_here bearer ue other pdu content
  was_received bearer to (confirm_input ue other Dl pdu content) = unexpected
  was_received bearer to (offer_input ue other packet) =
      let h = offer_stay packet in of_some bearer other (of_offer way u b packet) (offer way other packet u) h.0 h.1 (offer_rests way u other packet)
  was_received bearer to tick_input = quiet (says_it way u) (says_rests way u)
  was_received bearer to (order_input order) = order_received to order
  was_received bearer to (packet_input teid item) = unexpected
