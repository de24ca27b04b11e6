use Rattle.proof_node_orders.proofs.du_inputs.Ups.{take_puts, pass_puts, confirm_puts}
use Rattle.proof_node_orders.proofs.du_inputs.packets_are_put.Goals as goal

pub returns : goal.returns
returns c = record {
  frames = λ way r ue bearer. take_puts way r ue bearer;
  up = λ way r ue bearer. pass_puts way r ue bearer;
  confirmed = λ way r ue bearer. confirm_puts way r ue bearer;
}
