use Rattle.proof_bearer_refinement.proofs.run_bearers.Bearers.{things_go}
use Rattle.proof_bearer_refinement.proofs.run_bearers.things_are_orders_of_contexts.Goals as goal

pub returns : goal.returns
returns c = λ n ue bearer u things order. things_go n ue bearer u things order
