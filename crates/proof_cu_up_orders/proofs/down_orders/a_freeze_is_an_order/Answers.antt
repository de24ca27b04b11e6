use Rattle.proof_cu_up_orders.proofs.down_orders.Control.{freeze_shows}
use Rattle.proof_cu_up_orders.proofs.down_orders.a_freeze_is_an_order.Goals as goal

pub returns : goal.returns
returns g c = λ way s x p is to peer down up apart. freeze_shows way s x p is to peer down up apart
