use Rattle.law_handover_delivers.proofs.assumptions.Steps.{step_asked}
use Rattle.law_handover_delivers.proofs.assumptions.what_is_assumed_is_asked.Goals as goal

pub returns : goal.returns
returns c = λ reading n ue bearer sn quota s t gnb number cause input outputs v b d u step sound own refined well_linked.
    step_asked reading n ue bearer s t gnb number cause input outputs v step sound own sn quota d u refined b well_linked
