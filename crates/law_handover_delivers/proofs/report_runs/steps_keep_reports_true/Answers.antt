use Rattle.law_handover_delivers.proofs.report_runs.Runs.{all_steps}
use Rattle.law_handover_delivers.proofs.report_runs.steps_keep_reports_true.Goals as goal

pub returns : goal.returns
returns c = λ reading n ue bearer sn quota p q positive refinements fresh well_linked came leads told known steps.
    let its = all_steps reading n ue bearer sn quota positive p q
    (record { refinements = refinements; fresh = fresh; well_linked = well_linked; came = came; leads = leads }) told known steps in
    (its.0, its.2, its.3)
