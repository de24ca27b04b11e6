use Rattle.law_handover_delivers.proofs.assumed_runs.Runs.{one_step}
use Rattle.law_handover_delivers.proofs.assumed_runs.each_step_keeps_contexts_well_linked.Goals as goal

pub returns : goal.returns
returns c = λ reading n ue bearer sn quota p q positive. one_step reading n ue bearer sn quota positive p q
