use Rattle.law_downlink_order.proofs.put_packets.Puts.{unconfirmed_fits}
use Rattle.law_downlink_order.proofs.put_packets.what_is_unconfirmed_has_no_gap.Goals as goal

pub returns : goal.returns
returns c = unconfirmed_fits
