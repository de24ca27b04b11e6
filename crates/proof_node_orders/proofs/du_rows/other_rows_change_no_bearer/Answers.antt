use Rattle.proof_node_orders.proofs.du_rows.Contexts.{relay_down_keeps, relay_up_keeps, tick_keeps}
use Rattle.proof_node_orders.proofs.du_rows.other_rows_change_no_bearer.Goals as goal

pub returns : goal.returns
returns c = record {
  down = λ way. relay_down_keeps way;
  up = λ way. relay_up_keeps way;
  ticks = λ way. tick_keeps way;
}
