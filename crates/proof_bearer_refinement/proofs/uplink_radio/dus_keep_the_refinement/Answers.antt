use Rattle.proof_bearer_refinement.proofs.uplink_radio.Others.{stands_next, carried_then}
use Rattle.proof_bearer_refinement.proofs.uplink_radio.dus_keep_the_refinement.Goals as goal

pub returns : goal.returns
returns c = λ reading event s t ue bearer b refinement home item outputs units stands step x teid. (
  stands_next reading s t ue bearer event b refinement home item stands,
  carried_then reading s t ue bearer event b refinement home item stands x teid outputs units step,
)
