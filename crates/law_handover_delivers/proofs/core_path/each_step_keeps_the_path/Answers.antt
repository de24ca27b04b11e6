use Rattle.law_handover_delivers.proofs.core_path.Runs.{one_step}
use Rattle.law_handover_delivers.proofs.core_path.each_step_keeps_the_path.Goals as goal

pub returns : goal.returns
returns c = λ reading n ue bearer sn quota p q positive before after comes refinements fresh well_linked came leads step.
    let its = one_step reading n ue bearer sn quota positive p q before after comes
    (record { refinements = refinements; fresh = fresh; well_linked = well_linked; came = came; leads = leads }) step in
    (its.0, its.1.came, its.1.leads)
