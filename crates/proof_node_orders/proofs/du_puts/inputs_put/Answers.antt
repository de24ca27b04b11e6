use Rattle.proof_node_orders.proofs.du_puts.ControlMessages.{input_puts}
use Rattle.proof_node_orders.proofs.du_puts.inputs_put.Goals as goal

pub returns : goal.returns
returns c = λ way ue bearer r input sorted. input_puts way ue bearer r input sorted
