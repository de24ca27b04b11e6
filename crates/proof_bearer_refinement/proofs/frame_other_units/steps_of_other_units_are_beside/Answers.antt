use Rattle.proof_bearer_refinement.proofs.frame_other_units.Beside.{is_beside}
use Rattle.proof_bearer_refinement.proofs.frame_other_units.steps_of_other_units_are_beside.Goals as goal

pub returns : goal.returns
returns c = λ reading ue bearer s t event cause outputs units lines fair acted quiet goes_on.
    is_beside reading ue bearer s t event cause outputs units lines fair acted quiet goes_on
