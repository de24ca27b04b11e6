use Rattle.law_downlink_order.proofs.sent_frames.Sends.{du_takes, one_lost, one_received}
use Rattle.law_downlink_order.proofs.sent_frames.the_way_goes_on.Goals as goal

pub returns : goal.returns
returns c = record { takes = du_takes; loses = one_lost; receives = one_received }
