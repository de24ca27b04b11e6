-- A terminal's step leaves the bearer's contexts and tunnels, and is its input's orders.
use Rattle.std.proofs.Common.{◌≡◌, ℕ, ◌+◌, ◌==◌, Bool, true, false, ◌&&◌, nat_lt, nat_le, length, List, [], ◌∷◌, map, Option, Some, None, sym, subst, ◌∙◌}
use Rattle.std.specs.Prelude.{if◌then◌else◌}
use Rattle.std.specs.List.{AllByRecursion}
use Rattle.std.specs.Ordering.{eq_by_cmp}
use Rattle.gnb_types.specs.declared.names.NodeId.{NodeId}
use Rattle.gnb_types.specs.declared.names.NodeId.TheVariants.{CuCp, CuUp, Du, Core, Ue}
use Rattle.gnb_types.specs.declared.names.SnBits.{SnBits}
use Rattle.gnb_types.specs.declared.names.UeId.{UeId}
use Rattle.gnb_types.specs.declared.names.BearerId.{BearerId}
use Rattle.gnb_types.specs.declared.names.Dir.TheVariants.{Dl, Ul}
use Rattle.gnb_types.specs.declared.inputs.Order.{Order as UeOrder}
use Rattle.gnb_types.specs.declared.inputs.Order.TheVariants as orders
use Rattle.gnb_types.specs.Orders.{bearer_cmp}
use Rattle.message_types.specs.declared.rrc.Token.{Token}
use Rattle.message_types.specs.declared.rrc.Token.TheVariants as tokens
use Rattle.scenario_text.specs.declared.event.Event.{Event}
use Rattle.pdcp_defs.specs.Receivers.{is_duplicate, is_ahead}
use Rattle.unit_defs.specs.declared.UeState.{UeState}
use Rattle.unit_defs.specs.declared.UeState.TheVariants as states
use Rattle.unit_defs.specs.Ways.{Message, f1, e1, xn, core, rrc, Pdu, packet_content, report_content, Content, Input, control_input, packet_input, radio_input, confirm_input, offer_input, tick_input, order_input, Output}
use Rattle.unit_defs.specs.Ue.{UeNode, largest_packet, is_connected, is_accessing, may_return, may_obey, used_uplink}
use Rattle.run_defs.specs.Units.{with_ue}
use Rattle.run_defs.specs.Written.{written_put}
use Rattle.run_defs.specs.States.{sn_of}
use Rattle.run_defs.specs.Runs.{Reading, plain_world, plain_way}
use Rattle.bearer_defs.specs.chain_defs.Orders as down
use Rattle.bearer_defs.specs.uplink_defs.Orders as up
use Rattle.proof_bearer_refinement.specs.run_bearers.Bearers.{Numbering}
use Rattle.proof_node_orders.specs.terminal_rows.Shown.{numbering}
use Rattle.proof_node_orders.specs.terminal_inputs.Inputs.{Models, Orders, none, of_command, of_accepted, of_token, of_control_message, of_taken, of_pdu, of_confirmed, offered_to, of_offer, of_arrival, of_return, of_order, orders_by, IsAssumedFor, AllKept}
use Rattle.proof_node_orders.proofs.terminal_inputs.Kept.{input_kept}
use Rattle.law_terminals_are_isolated.specs.own_steps.Own.{IsActed}
use Rattle.proof_run_steps.specs.law_run_links.Own.{HoldTheirOwn}
use Rattle.proof_bearer_refinement.specs.runs.Steps.{Point, IsOfRadio, LeavesBearer, StaysInFrame}
use Rattle.proof_bearer_refinement.specs.frame_cp_and_ue.Nodes.{PutsNoItem}
use Rattle.proof_bearer_refinement.proofs.frame_cp_and_ue.Rest.{bearer_is_left}
use Rattle.proof_bearer_refinement.specs.uplink_radio.Radio.{RunCause, IsAtTerminal, IsUeStep, AssumedOnRadio}
use Rattle.proof_bearer_refinement.proofs.uplink_radio.Terminals.{terminal_then, assumed_then, own_orders}
use Rattle.proof_bearer_refinement.specs.ue_step.Assumed.{both, AssumedStill}
use Rattle.proof_bearer_refinement.specs.runs.Fair.{IsFair}

-- ---- the orders down are those of the terminal and its radio

module _ (u : UeNode) (b : Models) where
  abbrev Own : Orders → Type 0
  Own o = AllByRecursion IsOfRadio o.down

  own_if : (t : Bool) (o : Orders) → Own o → Own (if t then o else none)
  own_if true o h = h
  own_if false o h = tt

  own_accepted : (x : UeState) → Own (of_accepted plain_way u b x)
  own_accepted states.Returning = tt
  own_accepted states.Idle = tt
  own_accepted states.Connected = tt
  own_accepted states.Accessing = tt
  own_accepted states.Lost = tt

  own_token : (token : Token) → Own (of_token plain_way u b token)
  own_token (tokens.Command ue epoch gnb du) =
      own_if (ue.0 == u.plan.ue.0) (of_command plain_way u b epoch)
      (own_if (may_obey plain_way u.state && epoch == u.epoch + 1) (record { up = up.leaves ∷ []; down = [] }) tt)
  own_token (tokens.Accepted ue epoch) =
      own_if (ue.0 == u.plan.ue.0) (if epoch == u.epoch then of_accepted plain_way u b u.state else none)
      (own_if (epoch == u.epoch) (of_accepted plain_way u b u.state) (own_accepted u.state))
  own_token (tokens.Complete ue epoch) = tt
  own_token (tokens.Reestablish ue epoch) = tt

  own_control_message : (from : NodeId) (message : Message Token) → Own (of_control_message plain_way u b from message)
  own_control_message (Du gnb number) (rrc token) = own_token token
  own_control_message (Du gnb number) (f1 message) = tt
  own_control_message (Du gnb number) (e1 message) = tt
  own_control_message (Du gnb number) (xn message) = tt
  own_control_message (Du gnb number) (core message) = tt
  own_control_message (CuCp gnb) message = tt
  own_control_message (CuUp gnb number) message = tt
  own_control_message Core message = tt
  own_control_message (Ue ue) message = tt

  own_taken : (old ahead : Bool) (count : ℕ) (packet : List ℕ) → Own (of_taken plain_way u b old ahead count packet)
  own_taken true ahead count packet = (tt, tt)
  own_taken false true count packet = tt
  own_taken false false count packet = (tt, tt)

  own_pdu : (content : Content) → Own (of_pdu plain_way u b content)
  own_pdu (packet_content None packet) = tt
  own_pdu (packet_content (Some count) packet) = own_taken (is_duplicate b.down.terminal count) (is_ahead u.plan.quota b.down.terminal count) count packet
  own_pdu (report_content fmc bits) = tt

  own_confirmed : (content : Content) → Own (of_confirmed plain_way u b content)
  own_confirmed (packet_content None packet) = tt
  own_confirmed (packet_content (Some count) packet) = tt
  own_confirmed (report_content fmc bits) = tt

  own_arrival : (to : Option ℕ) → Own (of_arrival plain_way u b to)
  own_arrival None = (tt, tt)
  own_arrival (Some x) = (tt, tt)

  own_return : (home : Option NodeId) → Own (of_return plain_way u b home)
  own_return None = tt
  own_return (Some home) = own_if (may_return u.state) (record { up = []; down = down.fails ∷ [] }) (tt, tt)

  own_order : (to : Option ℕ) (order : UeOrder) → Own (of_order plain_way u b to order)
  own_order to (orders.Arrive ue) = own_if (is_accessing u.state) (of_arrival plain_way u b to) (own_arrival to)
  own_order to (orders.Return ue) = own_return u.home
  own_order to (orders.Fail ue) = own_if (is_connected u.state) (record { up = up.leaves ∷ []; down = [] }) tt
  own_order to orders.Start = tt
  own_order to (orders.Attach plan) = tt
  own_order to (orders.Handover plan) = tt
  own_order to (orders.Cancel ue) = tt
  own_order to (orders.Release ue) = tt
  own_order to (orders.Poll ue other) = tt

  own_offer : (large full : Bool) (os : List up.ModelStep) → Own (if large then none else (if full then none else record { up = os; down = [] }))
  own_offer true full os = tt
  own_offer false true os = tt
  own_offer false false os = tt

  own_down : (bearer : BearerId) (to : Option ℕ) (input : Input Token Pdu) → Own (orders_by plain_way u b bearer to input)
  unfolding orders_by
  own_down bearer to (control_input from message) = own_control_message from message
  own_down bearer to (radio_input ue other Dl pdu content) = own_if (eq_by_cmp bearer_cmp bearer other) (of_pdu plain_way u b content) (own_pdu content)
  own_down bearer to (radio_input ue other Ul pdu content) = tt
  own_down bearer to (confirm_input ue other Ul pdu content) =
      own_if (eq_by_cmp bearer_cmp bearer other) (of_confirmed plain_way u b content) (own_confirmed content)
  own_down bearer to (confirm_input ue other Dl pdu content) = tt
  own_down bearer to (offer_input ue other packet) =
      own_if (eq_by_cmp bearer_cmp bearer other) (of_offer plain_way u b packet)
      (own_offer (nat_lt largest_packet (length packet)) (nat_le u.plan.quota (used_uplink plain_way b.up.terminal))
      (up.offers packet ∷ numbering u (offered_to plain_way u b packet)))
  own_down bearer to tick_input = tt
  own_down bearer to (order_input order) = own_order to order
  own_down bearer to (packet_input teid item) = tt

  assumed_for : (bearer : BearerId) (to : Option ℕ) (input : Input Token Pdu) → AssumedStill u b bearer to input → AssumedOnRadio bearer b.up input
      → IsAssumedFor plain_way u b bearer to input
  unfolding IsAssumedFor
  assumed_for bearer to (control_input from message) still radio = tt
  assumed_for bearer to (radio_input ue other Dl pdu content) still radio = still
  assumed_for bearer to (radio_input ue other Ul pdu content) still radio = tt
  assumed_for bearer to (confirm_input ue other Ul pdu (packet_content None packet)) still radio = λ here. tt
  assumed_for bearer to (confirm_input ue other Ul pdu (packet_content (Some count) packet)) still radio = radio
  assumed_for bearer to (confirm_input ue other Ul pdu (report_content fmc bits)) still radio = λ here. tt
  assumed_for bearer to (confirm_input ue other Dl pdu content) still radio = tt
  assumed_for bearer to (offer_input ue other packet) still radio = tt
  assumed_for bearer to tick_input still radio = tt
  assumed_for bearer to (order_input order) still radio = still
  assumed_for bearer to (packet_input teid item) still radio = tt

module _ (reading : Reading) (n : Numbering) (ue : UeId) (bearer : BearerId) (sn : SnBits) (quota : ℕ) (p q : Point) (event : Event)
    (refinement : IsAtTerminal reading ue bearer p.state (both p)) (v : UeNode) (cause : RunCause) (input : Input Token Pdu)
    (outputs : List (Output (Message Token) Pdu)) (to : Option ℕ) (fair : IsFair p.state)
    (step : IsUeStep reading event p.state q.state ue refinement.terminal v cause input outputs)
    (acted : IsActed (plain_world reading) event p.state cause (map (written_put (sn_of p.state)) outputs) (with_ue p.state.units ue v))
    (assumed : AssumedStill refinement.terminal (both p) bearer to input)
    (down_is : q.down ≡ down.run p.down (orders_by plain_way refinement.terminal (both p) bearer to input).down)
    (up_is : q.up ≡ up.run p.up (orders_by plain_way refinement.terminal (both p) bearer to input).up) where
  own : HoldTheirOwn p.state
  own = fair.sound.radios

  abbrev o : Orders
  o = orders_by plain_way refinement.terminal (both p) bearer to input

  asks : AllKept (both p) o
  asks =
      input_kept plain_way refinement.terminal (both p) refinement.shown.seen.connected bearer to input
      (assumed_for refinement.terminal (both p) bearer to input assumed
      (assumed_then reading event p.state q.state ue bearer (both p) refinement v cause input outputs step own to))

  left : LeavesBearer n ue bearer p.state q.state
  left =
      bearer_is_left reading n ue bearer p.state q.state event cause (map (written_put (sn_of p.state)) outputs) (with_ue p.state.units ue v) step.lines fair
      acted (subst (λ (node : NodeId). PutsNoItem node) (sym step.node) tt) step.goes_on

  pub stays : StaysInFrame reading n ue bearer sn quota p q
  stays = record {
    rest = left;
    radio = o.down;
    terminal = o.up;
    of_radio = own_down refinement.terminal (both p) bearer to input;
    of_terminal = own_orders reading event p.state q.state ue bearer (both p) refinement v cause input outputs step own to;
    radio_asks = asks.1 sn quota;
    terminal_asks = asks.0;
    down = down_is;
    up = up_is;
  }

  pub refined : IsAtTerminal reading ue bearer q.state (both q)
  refined =
      subst (λ (b : Models). IsAtTerminal reading ue bearer q.state b) (λ i. record { up = sym up_is i; down = sym down_is i })
      (terminal_then reading event p.state q.state ue bearer (both p) refinement v cause input outputs step own to)
