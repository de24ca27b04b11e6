use Rattle.proof_bearer_refinement.proofs.uplink_radio.Others.{beside_then}
use Rattle.proof_bearer_refinement.proofs.uplink_radio.others_keep_the_refinement.Goals as goal

pub returns : goal.returns
returns c = λ reading s t ue bearer b cause outputs units refinement leaves step. beside_then reading s t ue bearer b refinement cause outputs units leaves step
