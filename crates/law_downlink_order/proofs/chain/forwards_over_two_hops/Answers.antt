use Rattle.law_downlink_order.proofs.chain.Relayed.{relay_kept, relay_delivers}
use Rattle.law_downlink_order.proofs.chain.forwards_over_two_hops.Goals as goal

pub returns : goal.returns
returns c = record { guards = relay_kept; delivered = relay_delivers }
