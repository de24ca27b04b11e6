-- What a terminal's input does to the model down: nothing, it begins another radio, or it is a packet that is heard.
use Rattle.std.proofs.Common.{◌≡◌, ℕ, ◌+◌, ◌≤◌, ◌==◌, Bool, true, false, not, ◌&&◌, List, [], ◌∷◌, length, Option, Some, None, refl, sym, subst, ◌∙◌, arith}
use Rattle.std.specs.Prelude.{if◌then◌else◌, nat_lt, nat_le}
use Rattle.std.specs.List.{AllByRecursion}
use Rattle.std.specs.Ordering.{eq_by_cmp}
use Rattle.gnb_types.specs.declared.names.NodeId.{NodeId}
use Rattle.gnb_types.specs.declared.names.NodeId.TheVariants.{CuCp, CuUp, Du, Core, Ue}
use Rattle.gnb_types.specs.declared.names.SnBits.{SnBits}
use Rattle.gnb_types.specs.declared.names.BearerId.{BearerId}
use Rattle.gnb_types.specs.declared.names.Dir.TheVariants.{Dl, Ul}
use Rattle.gnb_types.specs.declared.inputs.Order.{Order as UeOrder}
use Rattle.gnb_types.specs.declared.inputs.Order.TheVariants as orders
use Rattle.gnb_types.specs.Orders.{bearer_cmp}
use Rattle.message_types.specs.declared.rrc.Token.{Token}
use Rattle.message_types.specs.declared.rrc.Token.TheVariants as tokens
use Rattle.pdcp_defs.specs.Receivers.{Delivery, is_duplicate, is_ahead, stored, deliver}
use Rattle.unit_defs.specs.declared.UeState.{UeState}
use Rattle.unit_defs.specs.declared.UeState.TheVariants as states
use Rattle.unit_defs.specs.Ways.{Message, f1, e1, xn, core, rrc, Pdu, packet_content, report_content, Content, Input, control_input, packet_input, radio_input, confirm_input, offer_input, tick_input, order_input}
use Rattle.unit_defs.specs.Ue.{UeNode, largest_packet, is_connected, is_accessing, may_return, may_obey, used_uplink}
use Rattle.bearer_defs.specs.chain_defs.Models.{Model}
use Rattle.bearer_defs.specs.chain_defs.Orders as down
use Rattle.bearer_defs.specs.chain_defs.Orders.{ModelStep, run}
use Rattle.run_defs.specs.Runs.{plain_way}
use Rattle.bearer_defs.specs.uplink_defs.Orders as up
use Rattle.proof_node_orders.specs.terminal_rows.Shown.{numbering}
use Rattle.proof_node_orders.specs.terminal_inputs.Inputs.{Models, Orders, none, of_command, of_accepted, of_token, of_control_message, of_confirmed, offered_to, of_offer, of_arrival, of_return, of_order, orders_by}
use Rattle.law_downlink_order.specs.received_packets.Received.{WasPut, receives}
use Rattle.law_downlink_order.proofs.received_packets.Received.{others_stay}
use Rattle.proof_bearer_refinement.specs.downlink_radio.Received.{of_received, received_by, AssumedPacket, AssumedReceived, IsKept}
use Rattle.proof_bearer_refinement.specs.runs.Steps.{IsOfRadio}

-- ---- orders of the radio leave all contexts

pub record IsAnew (d e : Model) : Type 0 where
  pub members : e.members ≡ d.members
  pub epoch : d.epoch ≤ e.epoch

handed_anew : (d : Model) (rest : List (ℕ × List ℕ)) (t : Bool) (z : Delivery (List ℕ)) → IsAnew d (down.handed (record d { air = rest }) t z)
handed_anew d rest true z = record { members = refl; epoch = omega arith }
handed_anew d rest false z = record { members = refl; epoch = omega arith }

then_anew : (d e f : Model) → IsAnew d e → IsAnew e f → IsAnew d f
then_anew d e f a b = let low = a.epoch in let more = b.epoch in record { members = b.members ∙ a.members; epoch = omega (arith, low, more) }

pub radio_anew : (d : Model) (os : List ModelStep) → AllByRecursion IsOfRadio os → IsAnew d (run d os)
unfolding down.run down.after
radio_anew d [] own = record { members = refl; epoch = omega arith }
radio_anew d (down.arrives x ∷ os) own =
    then_anew d (down.after d (down.arrives x)) (run (down.after d (down.arrives x)) os) (record { members = refl; epoch = omega arith })
    (radio_anew (down.after d (down.arrives x)) os own.1)
radio_anew d (down.fails ∷ os) own =
    then_anew d (down.after d down.fails) (run (down.after d down.fails) os) (record { members = refl; epoch = omega arith })
    (radio_anew (down.after d down.fails) os own.1)
radio_anew d (down.carries count packet rest ∷ os) own =
    then_anew d (down.after d (down.carries count packet rest)) (run (down.after d (down.carries count packet rest)) os)
    (handed_anew d rest (is_duplicate d.terminal count) (deliver (stored d.terminal count packet)))
    (radio_anew (down.after d (down.carries count packet rest)) os own.1)
radio_anew d (_ ∷ os) own = absurd own.0

-- ---- what an input is

module _ (u : UeNode) (b : Models) where
  pub record IsPacket (os : List ModelStep) : Type 0 where
    pub count : ℕ
    pub packet : List ℕ
    pub is : os ≡ receives b.down count
    pub low : count ≤ b.down.terminal.deliv
    pub put : WasPut b.down count packet

  pub data Says (os : List ModelStep) : Type 0 where
    nothing_down : os ≡ [] → Says os
    begins : (run b.down os).epoch ≡ b.down.epoch + 1 → Says os
    a_packet : IsPacket os → Says os

  abbrev SaysOf : Orders → Type 0
  SaysOf o = Says o.down

  if_says : (t : Bool) (o : Orders) → SaysOf o → SaysOf (if t then o else none)
  if_says true o h = h
  if_says false o h = nothing_down refl

  accepted_says : (x : UeState) → SaysOf (of_accepted plain_way u b x)
  accepted_says states.Returning = nothing_down refl
  accepted_says states.Idle = nothing_down refl
  accepted_says states.Connected = nothing_down refl
  accepted_says states.Accessing = nothing_down refl
  accepted_says states.Lost = nothing_down refl

  token_says : (token : Token) → SaysOf (of_token plain_way u b token)
  token_says (tokens.Command ue epoch gnb du) =
      if_says (ue.0 == u.plan.ue.0) (of_command plain_way u b epoch)
      (if_says (may_obey plain_way u.state && epoch == u.epoch + 1) (record { up = up.leaves ∷ []; down = [] }) (nothing_down refl))
  token_says (tokens.Accepted ue epoch) =
      if_says (ue.0 == u.plan.ue.0) (if epoch == u.epoch then of_accepted plain_way u b u.state else none)
      (if_says (epoch == u.epoch) (of_accepted plain_way u b u.state) (accepted_says u.state))
  token_says (tokens.Complete ue epoch) = nothing_down refl
  token_says (tokens.Reestablish ue epoch) = nothing_down refl

  control_message_says : (from : NodeId) (message : Message Token) → SaysOf (of_control_message plain_way u b from message)
  control_message_says (Du gnb number) (rrc token) = token_says token
  control_message_says (Du gnb number) (f1 message) = nothing_down refl
  control_message_says (Du gnb number) (e1 message) = nothing_down refl
  control_message_says (Du gnb number) (xn message) = nothing_down refl
  control_message_says (Du gnb number) (core message) = nothing_down refl
  control_message_says (CuCp gnb) message = nothing_down refl
  control_message_says (CuUp gnb number) message = nothing_down refl
  control_message_says Core message = nothing_down refl
  control_message_says (Ue ue) message = nothing_down refl

  confirmed_says : (content : Content) → SaysOf (of_confirmed plain_way u b content)
  confirmed_says (packet_content None sdu) = nothing_down refl
  confirmed_says (packet_content (Some count) sdu) = nothing_down refl
  confirmed_says (report_content fmc bits) = nothing_down refl

  offer_says : (large full : Bool) (os : List up.ModelStep) → SaysOf (if large then none else (if full then none else record { up = os; down = [] }))
  offer_says true full os = nothing_down refl
  offer_says false true os = nothing_down refl
  offer_says false false os = nothing_down refl

  arrival_says : (to : Option ℕ) → SaysOf (of_arrival plain_way u b to)
  unfolding down.run down.after
  arrival_says None = begins refl
  arrival_says (Some x) = begins refl

  return_says : (home : Option NodeId) → SaysOf (of_return plain_way u b home)
  unfolding down.run down.after
  return_says None = nothing_down refl
  return_says (Some home) = if_says (may_return u.state) (record { up = []; down = down.fails ∷ [] }) (begins refl)

  order_says : (to : Option ℕ) (order : UeOrder) → SaysOf (of_order plain_way u b to order)
  order_says to (orders.Arrive who) = if_says (is_accessing u.state) (of_arrival plain_way u b to) (arrival_says to)
  order_says to (orders.Return who) = return_says u.home
  order_says to (orders.Fail who) = if_says (is_connected u.state) (record { up = up.leaves ∷ []; down = [] }) (nothing_down refl)
  order_says to _ = nothing_down refl

  packet_says : (t held : Bool) (count : ℕ) (packet : List ℕ) → (t ≡ true → AssumedPacket u b (packet_content (Some count) packet))
      → SaysOf (if t then (if held then none else record { up = []; down = receives b.down count }) else none)
  packet_says false held count packet assumed = nothing_down refl
  packet_says true true count packet assumed = nothing_down refl
  packet_says true false count packet assumed =
      a_packet (record { count = count; packet = packet; is = refl; low = (assumed refl).0; put = (assumed refl).1 })

  pub input_says : (bearer : BearerId) (to : Option ℕ) (input : Input Token Pdu) → AssumedReceived u b bearer to input
      → Says (received_by u b bearer to input).down
  unfolding received_by orders_by
  input_says bearer to (control_input from message) assumed = control_message_says from message
  input_says bearer to (packet_input teid item) assumed = nothing_down refl
  input_says bearer to (radio_input who other Dl pdu (packet_content (Some count) packet)) assumed =
      packet_says (eq_by_cmp bearer_cmp bearer other) (not (is_duplicate b.down.terminal count) && is_ahead u.plan.quota b.down.terminal count) count packet assumed
  input_says bearer to (radio_input who other Dl pdu (packet_content None packet)) assumed =
      if_says (eq_by_cmp bearer_cmp bearer other) none (nothing_down refl)
  input_says bearer to (radio_input who other Dl pdu (report_content fmc bits)) assumed =
      if_says (eq_by_cmp bearer_cmp bearer other) (of_received u b (report_content fmc bits)) (nothing_down refl)
  input_says bearer to (radio_input who other Ul pdu content) assumed = nothing_down refl
  input_says bearer to (confirm_input who other Ul pdu content) assumed =
      if_says (eq_by_cmp bearer_cmp bearer other) (of_confirmed plain_way u b content) (confirmed_says content)
  input_says bearer to (confirm_input who other Dl pdu content) assumed = nothing_down refl
  input_says bearer to (offer_input who other sdu) assumed =
      if_says (eq_by_cmp bearer_cmp bearer other) (of_offer plain_way u b sdu)
      (offer_says (nat_lt largest_packet (length sdu)) (nat_le u.plan.quota (used_uplink plain_way b.up.terminal))
      (up.offers sdu ∷ numbering u (offered_to plain_way u b sdu)))
  input_says bearer to tick_input assumed = nothing_down refl
  input_says bearer to (order_input order) assumed = order_says to order

  -- so what was put for the present radio stays so, where no other begins
  pub put_on : (sn : SnBits) (quota : ℕ) → IsKept sn quota b.down → (os : List ModelStep) → Says os → (run b.down os).epoch ≡ b.down.epoch
      → (count : ℕ) (packet : List ℕ) → WasPut b.down count packet → WasPut (run b.down os) count packet
  unfolding down.run
  put_on sn quota kept os (nothing_down is) same count packet put = subst (λ (zs : List ModelStep). WasPut (run b.down zs) count packet) (sym is) put
  put_on sn quota kept os (begins is) same count packet put = absurd (omega (arith, is, same))
  put_on sn quota kept os (a_packet one) same count packet put =
      subst (λ (zs : List ModelStep). WasPut (run b.down zs) count packet) (sym one.is)
      (subst (λ (d : Model). one.count ≤ d.terminal.deliv → WasPut d one.count one.packet → WasPut d count packet → WasPut (run d (receives d one.count)) count packet)
      (sym kept.is) (λ low was h. others_stay sn quota kept.first kept.teid kept.orders kept.kept one.count one.packet low was count packet h) one.low one.put put)
