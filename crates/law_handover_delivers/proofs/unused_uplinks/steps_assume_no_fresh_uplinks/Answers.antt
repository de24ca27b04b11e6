use Rattle.law_handover_delivers.proofs.unused_uplinks.Runs.{all_steps}
use Rattle.law_handover_delivers.proofs.unused_uplinks.steps_assume_no_fresh_uplinks.Goals as goal

pub returns : goal.returns
returns c = λ reading n ue bearer sn quota p q. all_steps reading n ue bearer sn quota p q
