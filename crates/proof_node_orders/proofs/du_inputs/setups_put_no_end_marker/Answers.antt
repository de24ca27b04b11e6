use Rattle.proof_node_orders.proofs.du_inputs.Control.{setup_quiet, start_keeps, set_up_keeps}
use Rattle.proof_node_orders.proofs.du_inputs.setups_put_no_end_marker.Goals as goal

pub returns : goal.returns
returns c = record {
  setups = λ way. setup_quiet way;
  starts = λ way. start_keeps way;
  set_up = λ way. set_up_keeps way;
}
