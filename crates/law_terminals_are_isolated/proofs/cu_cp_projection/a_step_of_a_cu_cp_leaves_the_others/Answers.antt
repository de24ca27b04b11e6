use Rattle.law_terminals_are_isolated.proofs.cu_cp_projection.Others.{cp_steps}
use Rattle.law_terminals_are_isolated.proofs.cu_cp_projection.a_step_of_a_cu_cp_leaves_the_others.Goals as goal

pub returns : goal.returns
returns g c = λ way ue input r is. cp_steps way ue input r is
