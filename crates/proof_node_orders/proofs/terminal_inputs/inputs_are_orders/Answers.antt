use Rattle.proof_node_orders.proofs.terminal_inputs.Kept.{input_follows, input_kept}
use Rattle.proof_node_orders.proofs.terminal_inputs.inputs_are_orders.Goals as goal

pub returns : goal.returns
returns c = record {
  follows = λ way plain u bearer b shown. input_follows way plain u bearer b shown;
  kept = λ way u b is. input_kept way u b is;
}
