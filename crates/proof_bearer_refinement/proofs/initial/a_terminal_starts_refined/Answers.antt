use Rattle.proof_bearer_refinement.proofs.initial.Start.{starts, refined, goes_on}
use Rattle.proof_bearer_refinement.proofs.initial.a_terminal_starts_refined.Goals as goal

pub returns : goal.returns
returns c = λ reading n. ((starts reading n).0, (starts reading n).1, refined reading n, goes_on reading n)
