use Rattle.proof_bearer_refinement.proofs.ue_step.Steps.{stays, refined}
use Rattle.proof_bearer_refinement.proofs.ue_step.steps_of_a_terminal_are_its_orders.Goals as goal

pub returns : goal.returns
returns c = λ reading n ue bearer sn quota p q event refinement v cause input outputs to fair step acted assumed down_is up_is. (
  stays reading n ue bearer sn quota p q event refinement v cause input outputs to fair step acted assumed down_is up_is,
  refined reading n ue bearer sn quota p q event refinement v cause input outputs to fair step acted assumed down_is up_is,
)
