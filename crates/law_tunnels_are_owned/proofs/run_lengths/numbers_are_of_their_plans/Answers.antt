use Rattle.law_tunnels_are_owned.proofs.run_lengths.Runs.{planned_in_runs}
use Rattle.law_tunnels_are_owned.proofs.run_lengths.numbers_are_of_their_plans.Goals as goal

pub returns : goal.returns
returns c = λ reading events t there. planned_in_runs reading events t there
