use Rattle.proof_node_orders.proofs.core_rows.Rows.{control_message_follows, switch_kept}
use Rattle.proof_node_orders.proofs.core_rows.messages_are_orders.Goals as goal

pub returns : goal.returns
returns c = record {
  follows = λ way places ue bearer r s is. control_message_follows way places ue bearer r s is;
  kept = switch_kept;
}
