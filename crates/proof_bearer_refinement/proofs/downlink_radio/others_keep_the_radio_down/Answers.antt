use Rattle.proof_bearer_refinement.proofs.downlink_radio.Others.{keeps_down, received_there}
use Rattle.proof_bearer_refinement.proofs.downlink_radio.others_keep_the_radio_down.Goals as goal

pub returns : goal.returns
returns c = record {
  keeps = λ reading event s t ue bearer d refinement cause outputs units stands stays step orders leaves fits.
      keeps_down reading event s t ue bearer d refinement cause outputs units stands stays step orders leaves fits;
  received = λ event s ue bearer d refinement home item rest stands. received_there event s ue bearer d refinement home item rest stands;
}
