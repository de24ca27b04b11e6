use Rattle.law_downlink_order.proofs.received_packets.Received.{two_stand, both_carried, both_delivered}
use Rattle.law_downlink_order.proofs.received_packets.takes_past_a_lost_one.Goals as goal

pub returns : goal.returns
returns c = record { stands = two_stand; orders = both_carried; delivered = both_delivered }
