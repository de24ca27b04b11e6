use Rattle.proof_cu_up_orders.proofs.chain_rows.Rows.{keeps_a_fresh_one, each_gives}
use Rattle.proof_cu_up_orders.proofs.chain_rows.what_waits_is_numbered.Goals as goal

pub returns : goal.returns
returns c = record { waits_first = λ way at. keeps_a_fresh_one way at; numbered_next = λ way at. each_gives way at }
