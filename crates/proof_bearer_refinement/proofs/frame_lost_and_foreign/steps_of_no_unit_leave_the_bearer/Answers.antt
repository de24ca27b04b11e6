use Rattle.proof_bearer_refinement.proofs.frame_lost_and_foreign.Left.{alike_left, lost_left}
use Rattle.proof_bearer_refinement.proofs.frame_lost_and_foreign.steps_of_no_unit_leave_the_bearer.Goals as goal

pub returns : goal.returns
returns c = record {
  alike = λ n ue bearer s t h. alike_left n ue bearer s t h;
  lost = λ reading n ue bearer s t h. lost_left n ue bearer s t reading h;
}
