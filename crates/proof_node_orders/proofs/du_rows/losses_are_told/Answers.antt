use Rattle.proof_node_orders.proofs.du_rows.Frames.{tells_loss, answers_poll, tells_nothing}
use Rattle.proof_node_orders.proofs.du_rows.losses_are_told.Goals as goal

pub returns : goal.returns
returns c = record {
  missing = λ way ue bearer b. tells_loss way ue bearer b;
  polls = λ way ue bearer b. answers_poll way ue bearer b;
  others = λ way ue bearer b. tells_nothing way ue bearer b;
}
