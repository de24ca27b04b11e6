use Rattle.proof_run_steps.proofs.plans.Runs.{plans_stay_in_run}
use Rattle.proof_run_steps.proofs.plans.plans_stay.Goals as goal

pub returns : goal.returns
returns g c = λ world events s t is. plans_stay_in_run world events s t is
