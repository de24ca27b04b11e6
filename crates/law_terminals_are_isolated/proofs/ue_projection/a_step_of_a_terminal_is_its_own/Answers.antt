use Rattle.law_terminals_are_isolated.proofs.ue_projection.Terminals.{acts_own}
use Rattle.law_terminals_are_isolated.proofs.ue_projection.a_step_of_a_terminal_is_its_own.Goals as goal

pub returns : goal.returns
returns g c = λ way u input. acts_own way u input
