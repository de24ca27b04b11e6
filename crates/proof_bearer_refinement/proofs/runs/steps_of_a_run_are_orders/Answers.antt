use Rattle.proof_bearer_refinement.proofs.runs.Runs.{step_then, steps_then}
use Rattle.proof_bearer_refinement.proofs.runs.steps_of_a_run_are_orders.Goals as goal

pub returns : goal.returns
returns c = record {
  one = λ reading n ue bearer sn quota p q sound refined step. step_then reading n ue bearer sn quota p q sound refined step;
  all = λ reading n ue bearer sn quota p q refined steps. steps_then reading n ue bearer sn quota p q refined steps;
}
