use Rattle.law_terminals_are_isolated.proofs.two_runs.EqualStates.{itself_shares}
use Rattle.law_terminals_are_isolated.proofs.two_runs.a_step_depends_on_the_projection.Goals as goal

pub returns : goal.returns
returns c = λ reading ue cause place other s x t y p q h a b shared. itself_shares reading ue cause place other s x t y p q h a b shared
