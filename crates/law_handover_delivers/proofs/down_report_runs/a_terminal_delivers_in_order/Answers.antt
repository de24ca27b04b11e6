use Rattle.proof_bearer_refinement.proofs.initial.Start.{starts}
use Rattle.law_handover_delivers.proofs.down_report_runs.Runs.{steps_there}
use Rattle.law_handover_delivers.proofs.down_report_runs.a_terminal_delivers_in_order.Goals as goal

pub returns : goal.returns
returns c = λ reading n positive. ((starts reading n).0, (starts reading n).1, λ q steps. steps_there reading n positive q steps)
