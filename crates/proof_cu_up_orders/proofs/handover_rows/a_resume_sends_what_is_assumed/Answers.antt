use Rattle.proof_cu_up_orders.proofs.handover_rows.Rows.{resume_sends}
use Rattle.proof_cu_up_orders.proofs.handover_rows.a_resume_sends_what_is_assumed.Goals as goal

pub returns : goal.returns
returns c = record { serves = λ way at. resume_sends way at }
