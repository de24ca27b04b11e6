use Rattle.law_downlink_order.proofs.put_packets.Puts.{numbered, sent_on, sent_again, switched, resumed}
use Rattle.law_downlink_order.proofs.put_packets.orders_put_what_they_send.Goals as goal

pub returns : goal.returns
returns c = record { numbered = numbered; sent = sent_on; again = sent_again; switched = switched; resumed = resumed }
