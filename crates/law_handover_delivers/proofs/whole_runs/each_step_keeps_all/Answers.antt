use Rattle.law_handover_delivers.proofs.whole_runs.Runs.{one_step}
use Rattle.law_handover_delivers.proofs.whole_runs.each_step_keeps_all.Goals as goal

pub returns : goal.returns
returns c = λ reading n ue bearer sn quota p q positive before after comes whole step.
    one_step reading n ue bearer sn quota positive p q before after comes whole step
