use Rattle.law_terminals_are_isolated.proofs.du_projection.Same.{du_same}
use Rattle.law_terminals_are_isolated.proofs.du_projection.a_step_of_a_du_depends_on_the_projection.Goals as goal

pub returns : goal.returns
returns g c = λ way ue input r q e is. du_same way ue input r q e is
