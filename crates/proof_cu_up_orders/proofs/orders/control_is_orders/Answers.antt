use Rattle.proof_cu_up_orders.proofs.orders.Control.{control_shows}
use Rattle.proof_cu_up_orders.proofs.orders.control_is_orders.Goals as goal

pub returns : goal.returns
returns g c = λ way s x p is order asked. control_shows way s x p is order asked
