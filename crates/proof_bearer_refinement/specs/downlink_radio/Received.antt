-- A terminal's steps in a run where frames of F1-U may have been lost: the orders of a packet that it takes, and what is still assumed.
use Rattle.std.specs.Prelude.{◌≡◌, true, not, ◌&&◌, ℕ, ◌≤◌, if◌then◌else◌, List, [], Option, Some, None}
use Rattle.std.specs.Ordering.{eq_by_cmp}
use Rattle.gnb_types.specs.declared.names.SnBits.{SnBits}
use Rattle.gnb_types.specs.declared.names.BearerId.{BearerId}
use Rattle.gnb_types.specs.declared.names.Dir.TheVariants.{Dl}
use Rattle.gnb_types.specs.Orders.{bearer_cmp}
use Rattle.message_types.specs.declared.rrc.Token.{Token}
use Rattle.pdcp_defs.specs.Receivers.{is_duplicate, is_ahead}
use Rattle.bearer_defs.specs.chain_defs.Models.{Model, initial}
use Rattle.bearer_defs.specs.chain_defs.Orders.{ModelStep, run}
use Rattle.bearer_defs.specs.chain_defs.Assumptions.{AreKept}
use Rattle.unit_defs.specs.Ways.{Pdu, packet_content, report_content, Content, Input, radio_input, order_input}
use Rattle.unit_defs.specs.Ue.{UeNode}
use Rattle.run_defs.specs.Runs.{plain_way}
use Rattle.proof_node_orders.specs.terminal_inputs.Inputs.{Models, Orders, none, if_here, of_pdu, orders_by, AssumedTaken, AssumedOrder}
use Rattle.law_downlink_order.specs.received_packets.Received.{WasPut, receives}

-- ---- orders: as of every input (`orders_by`), but for a packet that is taken

abbrev pub of_received : UeNode → Models → Content → Orders
of_received u b (packet_content (Some count) packet) =
    if not (is_duplicate b.down.terminal count) && is_ahead u.plan.quota b.down.terminal count then none
    else record { up = []; down = receives b.down count }
of_received u b (packet_content None packet) = none
of_received u b (report_content fmc bits) = of_pdu plain_way u b (report_content fmc bits)

unfoldable pub received_by : UeNode → Models → BearerId → Option ℕ → Input Token Pdu → Orders
received_by u b bearer to (radio_input ue other Dl pdu content) = if_here plain_way u b bearer other (of_received u b content)
received_by u b bearer to input = orders_by plain_way u b bearer to input

-- ---- owed: a packet was put for the present radio, or received before, and none before it is missing

abbrev pub AssumedPacket : UeNode → Models → Content → Type 0
AssumedPacket u b (packet_content (Some count) packet) = (count ≤ b.down.terminal.deliv) × WasPut b.down count packet
AssumedPacket u b (packet_content None packet) = Unit {0}
AssumedPacket u b (report_content fmc bits) = AssumedTaken plain_way u b (report_content fmc bits)

abbrev pub AssumedReceived : UeNode → Models → BearerId → Option ℕ → Input Token Pdu → Type 0
AssumedReceived u b bearer to (radio_input ue other Dl pdu content) = eq_by_cmp bearer_cmp bearer other ≡ true → AssumedPacket u b content
AssumedReceived u b bearer to (order_input order) = AssumedOrder plain_way u b to order
AssumedReceived u b bearer to input = Unit {0}

-- what is assumed still where the radio down is the model's: nothing of a packet
abbrev pub AssumedRest : UeNode → Models → BearerId → Option ℕ → Input Token Pdu → Type 0
AssumedRest u b bearer to (radio_input ue other Dl pdu (report_content fmc bits)) =
    eq_by_cmp bearer_cmp bearer other ≡ true → AssumedTaken plain_way u b (report_content fmc bits)
AssumedRest u b bearer to (order_input order) = AssumedOrder plain_way u b to order
AssumedRest u b bearer to input = Unit {0}

-- the model down came there by orders that are kept
pub record IsKept (sn : SnBits) (quota : ℕ) (s : Model) : Type 0 where
  pub first : ℕ
  pub teid : ℕ
  pub orders : List ModelStep
  pub kept : AreKept sn quota (initial first teid) orders
  pub is : s ≡ run (initial first teid) orders
