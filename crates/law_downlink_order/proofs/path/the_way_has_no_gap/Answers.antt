use Rattle.law_downlink_order.proofs.path.Laws.{way_has_no_gap}
use Rattle.law_downlink_order.proofs.path.the_way_has_no_gap.Goals as goal

pub returns : goal.returns
returns c = record { no_gap = λ first downlink du steps kept. way_has_no_gap first downlink du steps kept }
