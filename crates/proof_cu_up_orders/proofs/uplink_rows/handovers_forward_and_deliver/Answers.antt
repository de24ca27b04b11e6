use Rattle.proof_cu_up_orders.proofs.uplink_rows.Rows.{freezes, delivers}
use Rattle.proof_cu_up_orders.proofs.uplink_rows.handovers_forward_and_deliver.Goals as goal

pub returns : goal.returns
returns c = record { freezes = λ way at. freezes way at; delivers = λ way at. delivers way at }
