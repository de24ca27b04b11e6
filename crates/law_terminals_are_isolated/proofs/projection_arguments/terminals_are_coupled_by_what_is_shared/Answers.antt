use Rattle.law_terminals_are_isolated.proofs.projection_arguments.Views.{equal_answers}
use Rattle.law_terminals_are_isolated.proofs.projection_arguments.terminals_are_coupled_by_what_is_shared.Goals as goal

pub returns : goal.returns
returns c = λ reading lengths u v node given ue equal is. equal_answers reading ue u v lengths node given equal is
