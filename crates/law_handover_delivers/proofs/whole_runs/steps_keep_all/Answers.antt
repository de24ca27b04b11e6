use Rattle.law_handover_delivers.proofs.whole_runs.Runs.{all_steps}
use Rattle.law_handover_delivers.proofs.whole_runs.steps_keep_all.Goals as goal

pub returns : goal.returns
returns c = λ reading n ue bearer sn quota p q positive whole steps. all_steps reading n ue bearer sn quota positive p q whole steps
