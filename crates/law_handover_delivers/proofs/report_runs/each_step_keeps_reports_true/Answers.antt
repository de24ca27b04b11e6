use Rattle.law_handover_delivers.proofs.report_runs.Runs.{one_step}
use Rattle.law_handover_delivers.proofs.report_runs.each_step_keeps_reports_true.Goals as goal

pub returns : goal.returns
returns c = λ reading n ue bearer sn quota p q fair came told known step. one_step reading n ue bearer sn quota p q fair came told known step
