use Rattle.proof_bearer_refinement.proofs.run_unit_inputs.Dus.{models_change}
use Rattle.proof_bearer_refinement.proofs.run_unit_inputs.a_du_is_lists_of_changes.Goals as goal

pub returns : goal.returns
returns c = models_change
