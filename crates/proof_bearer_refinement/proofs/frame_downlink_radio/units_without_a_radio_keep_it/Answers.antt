use Rattle.proof_bearer_refinement.proofs.frame_downlink_radio.Quiet.{keeps_it}
use Rattle.proof_bearer_refinement.proofs.frame_downlink_radio.units_without_a_radio_keep_it.Goals as goal

pub returns : goal.returns
returns c = λ reading ue bearer s t event cause outputs units lines d fair acted no_radio stays goes_on down orders leave.
    keeps_it reading ue bearer s t event cause outputs units lines d fair acted no_radio stays goes_on down orders leave
