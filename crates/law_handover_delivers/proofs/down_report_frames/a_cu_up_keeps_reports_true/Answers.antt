use Rattle.law_handover_delivers.proofs.down_report_frames.Steps.{cu_up_keeps}
use Rattle.law_handover_delivers.proofs.down_report_frames.a_cu_up_keeps_reports_true.Goals as goal

pub returns : goal.returns
returns c = λ reading n ue bearer sn quota event s t gnb number cause input outputs v beside d u step before after acted refined well_linked came assumes statuses told.
    cu_up_keeps reading n ue bearer sn quota event s t gnb number cause input outputs v beside step before after d u refined well_linked came assumes statuses acted told
