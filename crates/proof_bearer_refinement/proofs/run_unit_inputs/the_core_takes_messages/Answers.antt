use Rattle.proof_bearer_refinement.proofs.run_unit_inputs.Core.{core_happens}
use Rattle.proof_bearer_refinement.proofs.run_unit_inputs.the_core_takes_messages.Goals as goal

pub returns : goal.returns
returns c = core_happens
