use Rattle.law_downlink_order.proofs.waiting_frames.Puts.{line_fresh, line_more, packets_fit}
use Rattle.law_downlink_order.proofs.waiting_frames.a_cu_up_puts_what_fits.Goals as goal

pub returns : goal.returns
returns c = record { fresh = line_fresh; puts = line_more; packets = packets_fit }
