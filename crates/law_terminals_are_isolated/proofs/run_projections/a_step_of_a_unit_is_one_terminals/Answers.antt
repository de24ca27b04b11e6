use Rattle.law_terminals_are_isolated.proofs.run_projections.Units.{given_step}
use Rattle.law_terminals_are_isolated.proofs.run_projections.a_step_of_a_unit_is_one_terminals.Goals as goal

pub returns : goal.returns
returns c = λ reading lengths units node given ue free own is. given_step reading units ue lengths node given free (own ue) is
