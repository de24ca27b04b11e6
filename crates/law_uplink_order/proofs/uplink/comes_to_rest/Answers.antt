use Rattle.law_uplink_order.proofs.uplink.Rest.{relay_rests}
use Rattle.law_uplink_order.proofs.uplink.comes_to_rest.Goals as goal

pub returns : goal.returns
returns c = record { quiet = relay_rests }
