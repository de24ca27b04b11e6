use Rattle.proof_cu_up_orders.proofs.bearer_lists.Up.{moves_up}
use Rattle.proof_cu_up_orders.proofs.bearer_lists.orders_move_lists_up.Goals as goal

pub returns : goal.returns
returns g c = λ way. moves_up way
