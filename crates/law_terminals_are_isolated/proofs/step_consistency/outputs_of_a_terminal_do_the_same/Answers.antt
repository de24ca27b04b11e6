use Rattle.law_terminals_are_isolated.proofs.step_consistency.Beside.{all_equal}
use Rattle.law_terminals_are_isolated.proofs.step_consistency.outputs_of_a_terminal_do_the_same.Goals as goal

pub returns : goal.returns
returns g c = λ world ue shows node taken outputs s t all h. all_equal world ue shows node taken outputs all s t h
