use Rattle.law_handover_delivers.proofs.down_report_runs.Runs.{one_step}
use Rattle.law_handover_delivers.proofs.down_report_runs.each_step_keeps_reports_true.Goals as goal

pub returns : goal.returns
returns c = λ reading n ue bearer sn quota p q positive before after comes all came told step statuses.
    one_step reading n ue bearer sn quota positive p q before after comes all came told step statuses
