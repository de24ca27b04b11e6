use Rattle.law_downlink_order.proofs.path.Laws.{takes_at_once}
use Rattle.law_downlink_order.proofs.path.takes_each_packet_at_once.Goals as goal

pub returns : goal.returns
returns c = record { takes = λ first downlink du steps kept. takes_at_once first downlink du steps kept }
