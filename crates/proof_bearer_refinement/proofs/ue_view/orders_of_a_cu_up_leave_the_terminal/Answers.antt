use Rattle.proof_bearer_refinement.proofs.ue_view.Orders.{down_same, up_same}
use Rattle.proof_bearer_refinement.proofs.ue_view.orders_of_a_cu_up_leave_the_terminal.Goals as goal

pub returns : goal.returns
returns c = λ n ue bearer units sn quota x b d u cs os.
    (down_same n ue bearer units sn quota x b d cs os, up_same n ue bearer units sn quota x b u cs os)
