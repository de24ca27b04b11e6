use Rattle.law_terminals_are_isolated.proofs.run_ticks.Told.{ticks_told}
use Rattle.law_terminals_are_isolated.proofs.run_ticks.ticks_put_messages_alone.Goals as goal

pub returns : goal.returns
returns c = λ reading lengths units node is. ticks_told reading lengths units node is
