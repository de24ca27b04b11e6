use Rattle.proof_cu_up_orders.proofs.chain_rows.Rows.{passes_a_fresh_one, passes_a_numbered_one, passes_the_end}
use Rattle.proof_cu_up_orders.proofs.chain_rows.what_comes_goes_on.Goals as goal

pub returns : goal.returns
returns c = record {
  fresh_ones = λ way at. passes_a_fresh_one way at;
  numbered_ones = λ way at. passes_a_numbered_one way at;
  end_of_n3 = λ way at. passes_the_end way at;
}
