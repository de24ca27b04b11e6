use Rattle.proof_bearer_refinement.proofs.run_bearers.Runs.{things_happen}
use Rattle.proof_bearer_refinement.proofs.run_bearers.a_run_is_a_list_of_things.Goals as goal

pub returns : goal.returns
returns c = λ reading events s t is. things_happen reading events s t is
