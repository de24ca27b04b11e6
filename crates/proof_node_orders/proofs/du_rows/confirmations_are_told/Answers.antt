use Rattle.proof_node_orders.proofs.du_rows.Frames.{confirms_number, confirms_nothing}
use Rattle.proof_node_orders.proofs.du_rows.confirmations_are_told.Goals as goal

pub returns : goal.returns
returns c = record {
  numbers = λ way r ue bearer c b held. confirms_number way r ue bearer c b held;
  others = λ way r ue bearer c b held. confirms_nothing way r ue bearer c b held;
}
