use Rattle.law_downlink_order.proofs.path.Laws.{runs_have_no_gap}
use Rattle.law_downlink_order.proofs.path.runs_have_no_gap.Goals as goal

pub returns : goal.returns
returns c = record { no_gap = λ first downlink du steps kept. runs_have_no_gap first downlink du steps kept }
