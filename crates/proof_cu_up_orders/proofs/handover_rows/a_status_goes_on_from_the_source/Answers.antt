use Rattle.proof_cu_up_orders.proofs.handover_rows.Rows.{status_waits, status_begins}
use Rattle.proof_cu_up_orders.proofs.handover_rows.a_status_goes_on_from_the_source.Goals as goal

pub returns : goal.returns
returns c = record { before = λ way at. status_waits way at; arrived = λ way at. status_begins way at }
