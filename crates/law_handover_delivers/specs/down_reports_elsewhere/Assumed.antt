-- What is asked of a terminal's inputs: of a status report that it takes, and of all else.
use Rattle.std.specs.Prelude.{◌≡◌, true, ℕ, Option}
use Rattle.std.specs.Ordering.{eq_by_cmp}
use Rattle.gnb_types.specs.declared.names.BearerId.{BearerId}
use Rattle.gnb_types.specs.declared.names.Dir.TheVariants.{Dl}
use Rattle.gnb_types.specs.Orders.{bearer_cmp}
use Rattle.message_types.specs.declared.rrc.Token.{Token}
use Rattle.unit_defs.specs.Ways.{Pdu, packet_content, report_content, Input, radio_input, order_input}
use Rattle.unit_defs.specs.Ue.{UeNode}
use Rattle.run_defs.specs.Runs.{plain_way}
use Rattle.proof_node_orders.specs.terminal_inputs.Inputs.{Models, AssumedTaken, AssumedOrder}
use Rattle.proof_bearer_refinement.specs.downlink_radio.Received.{AssumedPacket}

-- that the report says what was carried up
abbrev pub AssumedReport : UeNode → Models → BearerId → Input Token Pdu → Type 0
AssumedReport u b bearer (radio_input ue other Dl pdu (report_content fmc bits)) =
    eq_by_cmp bearer_cmp bearer other ≡ true → AssumedTaken plain_way u b (report_content fmc bits)
AssumedReport u b bearer input = Unit {0}

-- where an arrival leads, and nothing of a PDU that is taken
abbrev pub AssumedArrivals : UeNode → Models → Option ℕ → Input Token Pdu → Type 0
AssumedArrivals u b to (order_input order) = AssumedOrder plain_way u b to order
AssumedArrivals u b to input = Unit {0}

-- and that a packet which is taken was put for the present radio, or received before, and none before it is missing
abbrev pub AssumedBesides : UeNode → Models → BearerId → Option ℕ → Input Token Pdu → Type 0
AssumedBesides u b bearer to (radio_input ue other Dl pdu (packet_content count packet)) =
    eq_by_cmp bearer_cmp bearer other ≡ true → AssumedPacket u b (packet_content count packet)
AssumedBesides u b bearer to (order_input order) = AssumedOrder plain_way u b to order
AssumedBesides u b bearer to input = Unit {0}
