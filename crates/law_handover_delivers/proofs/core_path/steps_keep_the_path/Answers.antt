use Rattle.law_handover_delivers.proofs.core_path.Runs.{all_steps}
use Rattle.law_handover_delivers.proofs.core_path.steps_keep_the_path.Goals as goal

pub returns : goal.returns
returns c = λ reading n ue bearer sn quota p q positive refinements fresh well_linked came leads steps.
    let its = all_steps reading n ue bearer sn quota positive p q
    (record { refinements = refinements; fresh = fresh; well_linked = well_linked; came = came; leads = leads }) steps in
    (its.0, its.1.leads)
