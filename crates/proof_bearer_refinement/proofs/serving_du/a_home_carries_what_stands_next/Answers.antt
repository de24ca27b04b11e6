use Rattle.proof_bearer_refinement.proofs.serving_du.Home.{acts, refined_then}
use Rattle.proof_bearer_refinement.proofs.serving_du.a_home_carries_what_stands_next.Goals as goal

pub returns : goal.returns
returns c = λ reading n ue bearer sn quota p q event refinement gnb number item input outputs left fair refined acted step leads down_is up_is. (
  acts reading n ue bearer sn quota p q event refinement gnb number item input outputs left fair refined acted step leads down_is up_is,
  refined_then reading n ue bearer sn quota p q event refinement gnb number item input outputs left fair refined acted step leads down_is up_is,
)
