use Rattle.proof_bearer_refinement.proofs.frame_cp_and_ue.Rest.{bearer_is_left}
use Rattle.proof_bearer_refinement.proofs.frame_cp_and_ue.units_without_items_leave_the_bearer.Goals as goal

pub returns : goal.returns
returns c = λ reading n ue bearer s t event cause outputs units lines fair acted quiet goes_on.
    bearer_is_left reading n ue bearer s t event cause outputs units lines fair acted quiet goes_on
