use Rattle.law_downlink_order.proofs.path.Lost.{lossy_kept, lossy_delivers}
use Rattle.law_downlink_order.proofs.path.goes_on_after_losses.Goals as goal

pub returns : goal.returns
returns c = record { guards = lossy_kept; delivered = lossy_delivers }
