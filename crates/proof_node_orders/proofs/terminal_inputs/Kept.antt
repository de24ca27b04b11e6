-- The whole table, and what its orders ask for.
use Rattle.std.proofs.Common.{◌≡◌, ℕ, ◌+◌, ◌==◌, Bool, true, false, ◌&&◌, if◌then◌else◌, nat_lt, nat_le, length, List, [], ◌∷◌, Option, Some, None, refl, subst}
use Rattle.std.specs.Ordering.{eq_by_cmp}
use Rattle.std.specs.Cmp.{Equal-is}
use Rattle.gnb_types.specs.declared.names.SnBits.{SnBits}
use Rattle.gnb_types.specs.declared.names.NodeId.{NodeId}
use Rattle.gnb_types.specs.declared.names.NodeId.TheVariants.{CuCp, CuUp, Du, Core, Ue}
use Rattle.gnb_types.specs.declared.names.BearerId.{BearerId}
use Rattle.gnb_types.specs.declared.names.Dir.TheVariants.{Dl, Ul}
use Rattle.gnb_types.specs.declared.inputs.Order.{Order as UeOrder}
use Rattle.gnb_types.specs.declared.inputs.Order.TheVariants as orders
use Rattle.gnb_types.specs.Orders.{bearer_cmp}
use Rattle.gnb_types.proofs.OrderLemmas.{bearer_exact}
use Rattle.message_types.specs.declared.rrc.Token.{Token}
use Rattle.message_types.specs.declared.rrc.Token.TheVariants as tokens
use Rattle.pdcp_defs.specs.Receivers.{is_duplicate, is_ahead}
use Rattle.unit_defs.specs.declared.UeState.{UeState}
use Rattle.unit_defs.specs.declared.UeState.TheVariants as states
use Rattle.unit_defs.specs.Ways.{Message, f1, e1, xn, core, rrc, Pdu, Content, packet_content, report_content, Input, control_input, packet_input, radio_input, confirm_input, offer_input, tick_input, order_input, Way, Answer}
use Rattle.unit_defs.specs.Ue.{UeNode, is_connected, is_accessing, may_return, may_obey, largest_packet, used_uplink, ue_acts, take, confirm, offer}
use Rattle.bearer_defs.specs.chain_defs.Orders as down
use Rattle.bearer_defs.specs.chain_defs.Assumptions as asks
use Rattle.bearer_defs.specs.uplink_defs.Orders.{offers, leaves, arrives, after}
use Rattle.bearer_defs.specs.uplink_defs.Assumptions.{IsReady, IsAssumed, AreKept}
use Rattle.proof_node_orders.specs.terminal_rows.Shown.{numbering}
use Rattle.proof_node_orders.proofs.terminal_rows.Rows.{offers_asked, reports_asked, confirms_asked, unknown_asked}
use Rattle.proof_node_orders.proofs.terminal_rows.Radio.{connects_asked}
use Rattle.proof_node_orders.specs.terminal_inputs.Inputs.{Models, Orders, none, rest_of, IsShown, if_here, connecting, of_command, of_accepted, of_token, of_control_message, of_taken, of_pdu, of_confirmed, of_offer, offered_to, of_arrival, of_return, of_order, orders_by, AssumedTaken, AssumedConfirmed, AssumedArrival, AssumedOrder, IsAssumedFor, AllKept, Follows}
use Rattle.proof_node_orders.proofs.terminal_inputs.Others.{take_rests, confirm_rests, offer_rests}
use Rattle.proof_node_orders.proofs.terminal_inputs.Radio.{take_follows, confirm_follows, offer_follows}
use Rattle.proof_node_orders.proofs.terminal_inputs.Control.{control_message_follows, order_follows, tick_follows, unexpected}

-- ---- the table

module _ {M C : Type 0} (way : Way M C Pdu) (plain : (sn : SnBits) (pdu : Pdu) → way.write sn pdu ≡ pdu) (u : UeNode)
    (bearer : BearerId) (b : Models) (shown : IsShown u bearer b) where
  -- an input of some bearer is of this one or of another one
  of_some : (other : BearerId) (o : Orders) (row : BearerId → Answer M Pdu UeNode) → Follows bearer b o (row bearer)
      → (eq_by_cmp bearer_cmp bearer other ≡ false → Follows bearer b none (row other))
      → Follows bearer b (if_here way u b bearer other o) (row other)
  of_some other o row here far = by (eq_by_cmp bearer_cmp bearer other) refl
    where
      by : (t : Bool) → eq_by_cmp bearer_cmp bearer other ≡ t → Follows bearer b (if t then o else none) (row other)
      by true is = subst (λ q. Follows bearer b o (row q)) (bearer_exact bearer other ((Equal-is (bearer_cmp bearer other)).0 is)) here
      by false is = far is

  pub input_follows : (to : Option ℕ) (input : Input C Pdu) → Follows bearer b (orders_by way u b bearer to input) (ue_acts way u input)
  unfolding orders_by ue_acts
  input_follows to (control_input from message) = control_message_follows way plain u bearer b shown from message
  input_follows to (radio_input ue other Dl pdu content) = of_some other (of_pdu way u b content) (λ q. take way q content u)
      (take_follows way plain u bearer b shown content) (λ far. take_rests way plain u bearer other far b shown content)
  input_follows to (radio_input ue other Ul pdu content) = unexpected way plain u bearer b shown
  input_follows to (confirm_input ue other Ul pdu content) = of_some other (of_confirmed way u b content) (λ q. confirm way q content u)
      (confirm_follows way plain u bearer b shown content) (λ far. confirm_rests way plain u bearer other far b shown content)
  input_follows to (confirm_input ue other Dl pdu content) = unexpected way plain u bearer b shown
  input_follows to (offer_input ue other packet) = of_some other (of_offer way u b packet) (λ q. offer way q packet u)
      (offer_follows way plain u bearer b shown packet) (λ far. offer_rests way plain u bearer other far b shown packet)
  input_follows to tick_input = tick_follows way plain u bearer b shown
  input_follows to (order_input order) = order_follows way plain u bearer b shown to order
  input_follows to (packet_input teid item) = unexpected way plain u bearer b shown

-- ---- what is asked

module _ {M C P : Type 0} (way : Way M C P) (u : UeNode) (b : Models) (is : b.up.connected ≡ is_connected u.state) where
  none_kept : AllKept b none
  unfolding AreKept asks.AreKept
  none_kept = (tt, λ sn quota. tt)

  only_if : (t : Bool) (o : Orders) → AllKept b o → AllKept b (if t then o else none)
  only_if true o h = h
  only_if false o h = none_kept

  leaves_kept : AllKept b (record { up = leaves ∷ []; down = [] })
  unfolding AreKept IsReady IsAssumed asks.AreKept
  leaves_kept = ((tt, tt, tt), λ sn quota. tt)

  fails_kept : AllKept b (record { up = []; down = down.fails ∷ [] })
  unfolding AreKept asks.AreKept asks.IsReady asks.IsAssumed
  fails_kept = (tt, λ sn quota. (tt, tt, tt))

  connects_kept : AllKept b (record { up = connecting way u b; down = [] })
  unfolding asks.AreKept
  connects_kept = (connects_asked u b.up, λ sn quota. tt)

  accepted_kept : (x : UeState) → AllKept b (of_accepted way u b x)
  accepted_kept states.Returning = connects_kept
  accepted_kept states.Idle = none_kept
  accepted_kept states.Connected = none_kept
  accepted_kept states.Accessing = none_kept
  accepted_kept states.Lost = none_kept

  token_kept : (token : Token) → AllKept b (of_token way u b token)
  token_kept (tokens.Command ue epoch gnb du) = only_if (ue.0 == u.plan.ue.0) (of_command way u b epoch)
      (only_if (may_obey way u.state && epoch == u.epoch + 1) (record { up = leaves ∷ []; down = [] }) leaves_kept)
  token_kept (tokens.Accepted ue epoch) = only_if (ue.0 == u.plan.ue.0) (if epoch == u.epoch then of_accepted way u b u.state else none)
      (only_if (epoch == u.epoch) (of_accepted way u b u.state) (accepted_kept u.state))
  token_kept (tokens.Complete ue epoch) = none_kept
  token_kept (tokens.Reestablish ue epoch) = none_kept

  control_message_kept : (from : NodeId) (message : Message C) → AllKept b (of_control_message way u b from message)
  control_message_kept (Du gnb number) (rrc token) = token_kept token
  control_message_kept (Du gnb number) (f1 message) = none_kept
  control_message_kept (Du gnb number) (e1 message) = none_kept
  control_message_kept (Du gnb number) (xn message) = none_kept
  control_message_kept (Du gnb number) (core message) = none_kept
  control_message_kept (CuCp gnb) message = none_kept
  control_message_kept (CuUp gnb number) message = none_kept
  control_message_kept Core message = none_kept
  control_message_kept (Ue ue) message = none_kept

  taken_kept : (old ahead : Bool) (count : ℕ) (packet : List ℕ) → b.down.air ≡ (count, packet) ∷ rest_of b.down.air
      → AllKept b (of_taken way u b old ahead count packet)
  unfolding AreKept asks.AreKept asks.IsReady asks.IsAssumed
  taken_kept true ahead count packet stands = (tt, λ sn quota. (stands, tt, tt))
  taken_kept false true count packet stands = (tt, λ sn quota. tt)
  taken_kept false false count packet stands = (tt, λ sn quota. (stands, tt, tt))

  pdu_kept : (content : Content) → AssumedTaken way u b content → AllKept b (of_pdu way u b content)
  unfolding asks.AreKept
  pdu_kept (packet_content None packet) assumed = none_kept
  pdu_kept (packet_content (Some count) packet) assumed =
      taken_kept (is_duplicate b.down.terminal count) (is_ahead u.plan.quota b.down.terminal count) count packet assumed
  pdu_kept (report_content fmc bits) assumed = (reports_asked u b.up is fmc bits assumed, λ sn quota. tt)

  confirmed_kept : (content : Content) → AssumedConfirmed way u b content → AllKept b (of_confirmed way u b content)
  unfolding asks.AreKept
  confirmed_kept (packet_content None packet) assumed = (unknown_asked u b.up is, λ sn quota. tt)
  confirmed_kept (packet_content (Some count) packet) assumed = (confirms_asked u b.up is count (rest_of b.up.carried) assumed, λ sn quota. tt)
  confirmed_kept (report_content fmc bits) assumed = none_kept

  offer_kept : (packet : List ℕ) → AllKept b (of_offer way u b packet)
  unfolding asks.AreKept
  offer_kept packet = by (nat_lt largest_packet (length packet)) (nat_le u.plan.quota (used_uplink way b.up.terminal))
    where
      o : Orders
      o = record { up = offers packet ∷ numbering u (offered_to way u b packet); down = [] }

      by : (large full : Bool) → AllKept b (if large then none else (if full then none else o))
      by true full = none_kept
      by false true = none_kept
      by false false = (offers_asked u b.up is packet, λ sn quota. tt)

  arrival_kept : (to : Option ℕ) → AssumedArrival way u b to → AllKept b (of_arrival way u b to)
  unfolding AreKept IsReady asks.AreKept asks.IsReady asks.IsAssumed after
  arrival_kept None assumed = (connects_asked u b.up, λ sn quota. (tt, tt, tt))
  arrival_kept (Some x) assumed = ((tt, assumed.0, connects_asked u (after b.up (arrives x))), λ sn quota. (tt, assumed.1, tt))

  return_kept : (home : Option NodeId) → AllKept b (of_return way u b home)
  return_kept None = none_kept
  return_kept (Some home) = only_if (may_return u.state) (record { up = []; down = down.fails ∷ [] }) fails_kept

  order_kept : (to : Option ℕ) (order : UeOrder) → AssumedOrder way u b to order → AllKept b (of_order way u b to order)
  order_kept to (orders.Arrive ue) assumed = only_if (is_accessing u.state) (of_arrival way u b to) (arrival_kept to assumed)
  order_kept to (orders.Return ue) assumed = return_kept u.home
  order_kept to (orders.Fail ue) assumed = only_if (is_connected u.state) (record { up = leaves ∷ []; down = [] }) leaves_kept
  order_kept to orders.Start assumed = none_kept
  order_kept to (orders.Attach plan) assumed = none_kept
  order_kept to (orders.Handover plan) assumed = none_kept
  order_kept to (orders.Cancel ue) assumed = none_kept
  order_kept to (orders.Release ue) assumed = none_kept
  order_kept to (orders.Poll ue other) assumed = none_kept

  here_kept : (bearer other : BearerId) (o : Orders) → (eq_by_cmp bearer_cmp bearer other ≡ true → AllKept b o)
      → AllKept b (if_here way u b bearer other o)
  here_kept bearer other o h = by (eq_by_cmp bearer_cmp bearer other) h
    where
      by : (t : Bool) → (t ≡ true → AllKept b o) → AllKept b (if t then o else none)
      by true h = h refl
      by false h = none_kept

  pub input_kept : (bearer : BearerId) (to : Option ℕ) (input : Input C P) → IsAssumedFor way u b bearer to input
      → AllKept b (orders_by way u b bearer to input)
  unfolding orders_by IsAssumedFor
  input_kept bearer to (control_input from message) assumed = control_message_kept from message
  input_kept bearer to (radio_input ue other Dl pdu content) assumed =
      here_kept bearer other (of_pdu way u b content) (λ here. pdu_kept content (assumed here))
  input_kept bearer to (radio_input ue other Ul pdu content) assumed = none_kept
  input_kept bearer to (confirm_input ue other Ul pdu content) assumed =
      here_kept bearer other (of_confirmed way u b content) (λ here. confirmed_kept content (assumed here))
  input_kept bearer to (confirm_input ue other Dl pdu content) assumed = none_kept
  input_kept bearer to (offer_input ue other packet) assumed = here_kept bearer other (of_offer way u b packet) (λ here. offer_kept packet)
  input_kept bearer to tick_input assumed = none_kept
  input_kept bearer to (order_input order) assumed = order_kept to order assumed
  input_kept bearer to (packet_input teid item) assumed = none_kept
