use Rattle.law_tunnels_are_owned.proofs.run_tunnels.Runs.{own_in_runs}
use Rattle.law_tunnels_are_owned.proofs.run_tunnels.tunnels_hold_their_own.Goals as goal

pub returns : goal.returns
returns c = λ reading events t there. own_in_runs reading events t there
