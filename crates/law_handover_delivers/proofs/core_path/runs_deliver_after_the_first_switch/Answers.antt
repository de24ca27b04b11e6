use Rattle.law_handover_delivers.proofs.core_path.Runs.{delivers}
use Rattle.law_handover_delivers.proofs.core_path.runs_deliver_after_the_first_switch.Goals as goal

pub returns : goal.returns
returns c = λ reading n ue bearer sn quota p q first teid d positive. delivers reading n ue bearer sn quota positive p q first teid d
