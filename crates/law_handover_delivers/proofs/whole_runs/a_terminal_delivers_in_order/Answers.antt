use Rattle.proof_bearer_refinement.proofs.initial.Start.{starts, refined}
use Rattle.law_handover_delivers.proofs.whole_runs.Runs.{delivers_on, shown_there}
use Rattle.law_handover_delivers.proofs.whole_runs.a_terminal_delivers_in_order.Goals as goal

pub returns : goal.returns
returns c = λ reading n positive.
    ((starts reading n).0, (starts reading n).1, refined reading n, shown_there reading n, λ q steps. delivers_on reading n positive q steps)
