use Rattle.law_terminals_are_isolated.proofs.two_runs.Acts.{same_acts}
use Rattle.law_terminals_are_isolated.proofs.two_runs.the_same_acts_leave_the_same_projection.Goals as goal

pub returns : goal.returns
returns c = λ reading ue acts s t p q. same_acts reading ue acts s p t q
