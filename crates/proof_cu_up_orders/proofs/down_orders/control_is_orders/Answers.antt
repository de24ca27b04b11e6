use Rattle.proof_cu_up_orders.proofs.down_orders.Control.{control_shows}
use Rattle.proof_cu_up_orders.proofs.down_orders.control_is_orders.Goals as goal

pub returns : goal.returns
returns g c = λ way s x p is epoch order asked. control_shows way s x p is epoch order asked
