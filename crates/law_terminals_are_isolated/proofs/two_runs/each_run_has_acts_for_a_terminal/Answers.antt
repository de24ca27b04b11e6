use Rattle.law_terminals_are_isolated.proofs.two_runs.Lives.{each_lives}
use Rattle.law_terminals_are_isolated.proofs.two_runs.each_run_has_acts_for_a_terminal.Goals as goal

pub returns : goal.returns
returns c = λ reading ue t after. each_lives reading ue t after
