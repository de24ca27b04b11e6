use Rattle.law_downlink_order.proofs.received_packets.Received.{put_stays}
use Rattle.law_downlink_order.proofs.received_packets.what_was_put_stays.Goals as goal

pub returns : goal.returns
returns c = λ s order leaves count packet h. put_stays s count packet h order leaves
