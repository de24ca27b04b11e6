use Rattle.law_uplink_order.proofs.uplink.Relayed.{cancelled_kept, cancelled_delivers}
use Rattle.law_uplink_order.proofs.uplink.goes_on_after_a_cancel.Goals as goal

pub returns : goal.returns
returns c = record { guards = cancelled_kept; delivered = cancelled_delivers }
