use Rattle.law_downlink_order.proofs.path.Laws.{delivers_in_order}
use Rattle.law_downlink_order.proofs.path.delivers_in_order.Goals as goal

pub returns : goal.returns
returns c = record { in_order = λ first downlink du steps kept. delivers_in_order first downlink du steps kept }
