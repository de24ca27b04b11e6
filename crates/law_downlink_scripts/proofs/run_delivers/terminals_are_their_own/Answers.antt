use Rattle.law_downlink_scripts.proofs.run_delivers.Plans.{plans_are_own}
use Rattle.law_downlink_scripts.proofs.run_delivers.terminals_are_their_own.Goals as goal

pub returns : goal.returns
returns c = λ reading events t is. plans_are_own reading events t is
