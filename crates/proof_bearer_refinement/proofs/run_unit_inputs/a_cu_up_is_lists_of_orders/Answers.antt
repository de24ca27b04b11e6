use Rattle.proof_bearer_refinement.proofs.run_unit_inputs.Ups.{all_go}
use Rattle.proof_bearer_refinement.proofs.run_unit_inputs.a_cu_up_is_lists_of_orders.Goals as goal

pub returns : goal.returns
returns c = all_go
