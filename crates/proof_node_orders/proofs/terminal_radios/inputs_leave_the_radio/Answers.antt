use Rattle.proof_node_orders.proofs.terminal_radios.Table.{was_received}
use Rattle.proof_node_orders.proofs.terminal_radios.inputs_leave_the_radio.Goals as goal

pub returns : goal.returns
returns g c = λ way u b bearer to input. was_received way u b bearer to input
