use Rattle.law_handover_delivers.proofs.unused_uplinks.Runs.{delivers}
use Rattle.law_handover_delivers.proofs.unused_uplinks.runs_deliver_after_the_first_switch.Goals as goal

pub returns : goal.returns
returns c = λ reading n ue bearer sn quota p q first teid d. delivers reading n ue bearer sn quota p q first teid d
