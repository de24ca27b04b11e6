use Rattle.proof_run_steps.proofs.steps.Runs.{made_of_steps}
use Rattle.proof_run_steps.proofs.steps.events_are_made_of_steps.Goals as goal

pub returns : goal.returns
returns g c = λ world event s. made_of_steps world event s
