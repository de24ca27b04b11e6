use Rattle.proof_bearer_refinement.proofs.run_bearers.Numbers.{numbering}
use Rattle.proof_bearer_refinement.proofs.run_bearers.places_can_be_numbered.Goals as goal

pub returns : goal.returns
returns c = numbering
