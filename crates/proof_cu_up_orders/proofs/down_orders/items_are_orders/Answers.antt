use Rattle.proof_cu_up_orders.proofs.down_orders.Items.{item_one}
use Rattle.proof_cu_up_orders.proofs.down_orders.items_are_orders.Goals as goal

pub returns : goal.returns
returns g c = λ way s x p is stands kind teid item rest fit. item_one way s x p is stands kind teid item rest fit
