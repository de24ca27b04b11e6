use Rattle.proof_cu_up_orders.proofs.chain_rows.Rows.{sends_a_numbered_one, sends_all_again}
use Rattle.proof_cu_up_orders.proofs.chain_rows.packets_are_sent.Goals as goal

pub returns : goal.returns
returns c = record {
  numbered_ones = λ way at. sends_a_numbered_one way at;
  again = λ way at. sends_all_again way at;
}
