use Rattle.proof_cu_up_orders.proofs.chain_rows.Rows.{freezes}
use Rattle.proof_cu_up_orders.proofs.chain_rows.freeze_forwards_all.Goals as goal

pub returns : goal.returns
returns c = record { does = λ way at. freezes way at }
