use Rattle.law_downlink_order.proofs.lossy_chain.Lost.{lossy_kept, lossy_delivers}
use Rattle.law_downlink_order.proofs.lossy_chain.goes_on_after_losses_and_a_handover.Goals as goal

pub returns : goal.returns
returns c = record { guards = lossy_kept; delivered = lossy_delivers }
