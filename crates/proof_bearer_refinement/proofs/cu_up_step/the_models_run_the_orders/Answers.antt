use Rattle.proof_bearer_refinement.proofs.cu_up_step.Runs.{down_runs, up_runs}
use Rattle.proof_bearer_refinement.proofs.cu_up_step.the_models_run_the_orders.Goals as goal

pub returns : goal.returns
returns c = λ n ue bearer units sn quota d u cs hs. (down_runs n ue bearer units sn quota d cs hs, up_runs n ue bearer units sn quota u cs hs)
