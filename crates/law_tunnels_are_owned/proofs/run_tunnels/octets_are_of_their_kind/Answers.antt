use Rattle.law_tunnels_are_owned.proofs.run_tunnels.Runs.{laid_in_runs}
use Rattle.law_tunnels_are_owned.proofs.run_tunnels.octets_are_of_their_kind.Goals as goal

pub returns : goal.returns
returns c = λ reading events t there. laid_in_runs reading events t there
