use Rattle.law_handover_delivers.proofs.assumed_runs.Runs.{delivers}
use Rattle.law_handover_delivers.proofs.assumed_runs.runs_deliver_after_the_first_switch.Goals as goal

pub returns : goal.returns
returns c = λ reading n ue bearer sn quota p q first teid d positive. delivers reading n ue bearer sn quota positive p q first teid d
