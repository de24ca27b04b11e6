use Rattle.proof_node_orders.proofs.du_inputs.Control.{input_has}
use Rattle.proof_node_orders.proofs.du_inputs.inputs_are_changes.Goals as goal

pub returns : goal.returns
returns c = λ way ue bearer. input_has way ue bearer
