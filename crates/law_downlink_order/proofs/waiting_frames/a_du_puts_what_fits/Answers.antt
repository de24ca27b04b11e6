use Rattle.law_downlink_order.proofs.waiting_frames.Frames.{puts_what_fits}
use Rattle.law_downlink_order.proofs.waiting_frames.a_du_puts_what_fits.Goals as goal

pub returns : goal.returns
returns c = puts_what_fits
