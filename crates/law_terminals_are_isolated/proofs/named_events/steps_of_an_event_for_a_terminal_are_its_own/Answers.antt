use Rattle.law_terminals_are_isolated.proofs.own_steps.Runs.{sound_in_run}
use Rattle.law_terminals_are_isolated.proofs.named_events.Named.{named_for}
use Rattle.law_terminals_are_isolated.proofs.named_events.steps_of_an_event_for_a_terminal_are_its_own.Goals as goal

pub returns : goal.returns
returns c = λ reading events event s ue there its. named_for reading ue s (sound_in_run reading events s there) event its
