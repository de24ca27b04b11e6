use Rattle.proof_cu_up_orders.proofs.bearer_lists.Hops.{order_puts}
use Rattle.proof_cu_up_orders.proofs.bearer_lists.rows_put_on_the_hop.Goals as goal

pub returns : goal.returns
returns g c = λ way p order. order_puts way p order
