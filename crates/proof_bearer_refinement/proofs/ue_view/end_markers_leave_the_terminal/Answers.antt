use Rattle.proof_bearer_refinement.proofs.ue_view.Orders.{marks_same}
use Rattle.proof_bearer_refinement.proofs.ue_view.end_markers_leave_the_terminal.Goals as goal

pub returns : goal.returns
returns c = λ n ue bearer units u ps none. marks_same n ue bearer units u ps none
