use Rattle.law_handover_delivers.proofs.reports_at_cu_up.Assumed.{all_assumed}
use Rattle.law_handover_delivers.proofs.reports_at_cu_up.true_reports_are_what_is_assumed.Goals as goal

pub returns : goal.returns
returns c = λ reading n ue bearer sn quota s t gnb number cause input outputs v b d u step own told.
    all_assumed reading n ue bearer sn quota s t gnb number cause input outputs v step own b d u told
