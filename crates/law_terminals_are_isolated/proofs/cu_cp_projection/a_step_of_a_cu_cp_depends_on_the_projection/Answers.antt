use Rattle.law_terminals_are_isolated.proofs.cu_cp_projection.Same.{cp_same}
use Rattle.law_terminals_are_isolated.proofs.cu_cp_projection.a_step_of_a_cu_cp_depends_on_the_projection.Goals as goal

pub returns : goal.returns
returns g c = λ way ue input is r q e. cp_same way ue input is r q e
