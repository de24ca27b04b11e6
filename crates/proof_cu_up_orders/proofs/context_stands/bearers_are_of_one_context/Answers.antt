use Rattle.proof_cu_up_orders.proofs.context_stands.Holds.{stays_same}
use Rattle.proof_cu_up_orders.proofs.context_stands.bearers_are_of_one_context.Goals as goal

pub returns : goal.returns
returns g c = λ way r input ue bearer order. stays_same way r input order ue bearer
