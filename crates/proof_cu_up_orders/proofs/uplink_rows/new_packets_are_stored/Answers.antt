use Rattle.proof_cu_up_orders.proofs.uplink_rows.Rows.{takes_new, relays_new}
use Rattle.proof_cu_up_orders.proofs.uplink_rows.new_packets_are_stored.Goals as goal

pub returns : goal.returns
returns c = record { delivered = λ way at. takes_new way at; forwarded = λ way at. relays_new way at }
