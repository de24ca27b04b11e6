use Rattle.proof_node_orders.proofs.terminal_refusals.Refusals.{runs_alike}
use Rattle.proof_node_orders.proofs.terminal_refusals.both_models_receive_alike.Goals as goal

pub returns : goal.returns
returns c = record { alike = runs_alike }
