use Rattle.proof_cu_up_orders.proofs.context_rows.Released.{orders_pass}
use Rattle.proof_cu_up_orders.proofs.context_rows.released_contexts_only_pass_on.Goals as goal

pub returns : goal.returns
returns g k = λ way r ue bearer c is gone input. orders_pass way r ue bearer c is gone input
