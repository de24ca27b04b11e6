use Rattle.law_terminals_are_isolated.proofs.run_ticks.Ticks.{ticks_equal}
use Rattle.law_terminals_are_isolated.proofs.run_ticks.ticks_do_the_same_for_a_terminal.Goals as goal

pub returns : goal.returns
returns c = λ reading s t ue node first second unit equal lengths. ticks_equal reading ue s t first second node unit equal lengths
