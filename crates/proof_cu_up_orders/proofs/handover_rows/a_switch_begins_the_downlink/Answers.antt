use Rattle.proof_cu_up_orders.proofs.handover_rows.Rows.{switch_begins, switch_waits}
use Rattle.proof_cu_up_orders.proofs.handover_rows.a_switch_begins_the_downlink.Goals as goal

pub returns : goal.returns
returns c = record { known_ones = λ way at. switch_begins way at; others = λ way at. switch_waits way at }
