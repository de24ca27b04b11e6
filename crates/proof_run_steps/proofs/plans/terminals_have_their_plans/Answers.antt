use Rattle.proof_run_steps.proofs.plans.Runs.{plans_are_had}
use Rattle.proof_run_steps.proofs.plans.terminals_have_their_plans.Goals as goal

pub returns : goal.returns
returns c = λ reading events t is. plans_are_had reading events t is
