use Rattle.proof_bearer_refinement.proofs.ue_view.Shown.{looks_same}
use Rattle.proof_bearer_refinement.proofs.ue_view.a_terminal_shows_what_looks_the_same.Goals as goal

pub returns : goal.returns
returns c = looks_same
