use Rattle.law_terminals_are_isolated.proofs.all_steps.Paths.{passed_on, in_run}
use Rattle.law_terminals_are_isolated.proofs.all_steps.states_of_runs_come_after_steps.Goals as goal

pub returns : goal.returns
returns c = λ reading events event s t there passed. passed_on reading event s t (in_run reading events s there) passed
