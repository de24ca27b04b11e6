use Rattle.law_terminals_are_isolated.proofs.frame_of_steps.Steps.{others_stay}
use Rattle.law_terminals_are_isolated.proofs.frame_of_steps.a_step_leaves_the_others.Goals as goal

pub returns : goal.returns
returns g c = λ world ue cause outputs units s t lines is all goes_so. others_stay world ue cause outputs units s t lines is all goes_so
