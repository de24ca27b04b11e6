use Rattle.proof_bearer_refinement.proofs.initial.Start.{starts}
use Rattle.law_handover_delivers.proofs.guarded_runs.Start.{way_there, du_assumes, switch_assumes}
use Rattle.law_handover_delivers.proofs.guarded_runs.the_assumptions_can_be_met.Goals as goal

pub returns : goal.returns
returns c = λ reading n input. ((starts reading n).0, (starts reading n).1, way_there reading n, du_assumes reading n input, switch_assumes reading n)
