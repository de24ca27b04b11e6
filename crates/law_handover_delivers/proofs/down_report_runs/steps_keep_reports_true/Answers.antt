use Rattle.law_handover_delivers.proofs.down_report_runs.Runs.{all_steps}
use Rattle.law_handover_delivers.proofs.down_report_runs.steps_keep_reports_true.Goals as goal

pub returns : goal.returns
returns c = λ reading n ue bearer sn quota p q positive all came told steps.
    all_steps reading n ue bearer sn quota positive p q all came told steps
