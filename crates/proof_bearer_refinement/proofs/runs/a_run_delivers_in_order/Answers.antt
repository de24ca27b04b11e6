use Rattle.proof_bearer_refinement.proofs.runs.Runs.{steps_then, delivers}
use Rattle.proof_bearer_refinement.proofs.runs.a_run_delivers_in_order.Goals as goal

pub returns : goal.returns
returns c = λ reading n ue bearer sn quota p q first teid down_is up_is refined steps.
    let its = (steps_then reading n ue bearer sn quota p q refined steps).1 in
    let both = delivers reading n ue bearer sn quota p q first teid down_is up_is its in
    (its, both.0, both.1)
