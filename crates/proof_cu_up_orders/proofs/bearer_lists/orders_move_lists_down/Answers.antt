use Rattle.proof_cu_up_orders.proofs.bearer_lists.Down.{moves_down}
use Rattle.proof_cu_up_orders.proofs.bearer_lists.orders_move_lists_down.Goals as goal

pub returns : goal.returns
returns g c = λ way. moves_down way
