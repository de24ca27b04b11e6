use Rattle.proof_node_orders.proofs.du_steps.Ways.{puts_kept, puts_run}
use Rattle.proof_node_orders.proofs.du_steps.puts_are_orders.Goals as goal

pub returns : goal.returns
returns c = record { asked = puts_kept; comes = puts_run }
