use Rattle.law_handover_delivers.proofs.guarded_runs.Runs.{all_steps}
use Rattle.law_handover_delivers.proofs.guarded_runs.steps_keep_all.Goals as goal

pub returns : goal.returns
returns c = λ reading n ue bearer sn quota p q positive carried steps. all_steps reading n ue bearer sn quota positive p q carried steps
