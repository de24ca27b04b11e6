use Rattle.law_terminals_are_isolated.proofs.cu_up_projection.Others.{up_steps}
use Rattle.law_terminals_are_isolated.proofs.cu_up_projection.a_step_of_a_cu_up_leaves_the_others.Goals as goal

pub returns : goal.returns
returns g c = λ way ue input r is. up_steps way ue input r is
