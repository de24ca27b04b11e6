use Rattle.proof_bearer_refinement.proofs.run_terminals.Orders.{orders_shown}
use Rattle.proof_bearer_refinement.proofs.run_terminals.inputs_are_lists_of_orders.Goals as goal

pub returns : goal.returns
returns c = orders_shown
