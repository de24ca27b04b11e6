use Rattle.proof_bearer_refinement.proofs.run_terminals.Starts.{first_shown}
use Rattle.proof_bearer_refinement.proofs.run_terminals.set_up_terminals_show_first_models.Goals as goal

pub returns : goal.returns
returns c = first_shown
