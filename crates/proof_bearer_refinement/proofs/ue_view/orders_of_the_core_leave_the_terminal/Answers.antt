use Rattle.proof_bearer_refinement.proofs.ue_view.Orders.{offered_same, told_same}
use Rattle.proof_bearer_refinement.proofs.ue_view.orders_of_the_core_leave_the_terminal.Goals as goal

pub returns : goal.returns
returns c = λ ue bearer who which packet places o d. (offered_same ue bearer who which packet d, told_same places o d)
