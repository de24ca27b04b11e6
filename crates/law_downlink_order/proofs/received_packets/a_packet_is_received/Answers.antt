use Rattle.law_downlink_order.proofs.received_packets.Received.{was_received, received, others_stay, first_is}
use Rattle.law_downlink_order.proofs.received_packets.a_packet_is_received.Goals as goal

pub returns : goal.returns
returns c = record { kept = was_received; received = received; others = others_stay; first = first_is }
