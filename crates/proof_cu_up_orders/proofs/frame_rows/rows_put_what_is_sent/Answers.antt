use Rattle.proof_cu_up_orders.proofs.frame_rows.Rows.{order_puts}
use Rattle.proof_cu_up_orders.proofs.frame_rows.rows_put_what_is_sent.Goals as goal

pub returns : goal.returns
returns g c = λ way p order. order_puts way p order
