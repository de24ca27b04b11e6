use Rattle.proof_bearer_refinement.proofs.run_terminals.Runs.{terminals_happen}
use Rattle.proof_bearer_refinement.proofs.run_terminals.terminals_take_inputs.Goals as goal

pub returns : goal.returns
returns c = terminals_happen
