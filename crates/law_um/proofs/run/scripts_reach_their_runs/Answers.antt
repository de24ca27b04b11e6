use Rattle.law_um.proofs.run.Scripts.{reaches}
use Rattle.law_um.proofs.run.scripts_reach_their_runs.Goals as goal

pub returns : goal.returns
returns c = reaches
