use Rattle.law_handover_delivers.proofs.initial_runs.Runs.{delivers_after}
use Rattle.law_handover_delivers.proofs.initial_runs.runs_deliver_after_the_first_switch.Goals as goal

pub returns : goal.returns
returns c = λ reading n ue bearer sn quota p q first teid d are. delivers_after reading n ue bearer sn quota p q first teid d are
