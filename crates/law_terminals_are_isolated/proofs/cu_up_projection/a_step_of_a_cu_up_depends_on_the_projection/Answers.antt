use Rattle.law_terminals_are_isolated.proofs.cu_up_projection.Same.{up_same, unknown_drops}
use Rattle.law_terminals_are_isolated.proofs.cu_up_projection.a_step_of_a_cu_up_depends_on_the_projection.Goals as goal

pub returns-clause-depends : goal.returns-clause-depends
returns-clause-depends g c = λ way ue input r q e room is. up_same way ue input r q e room is

pub returns-clause-unknown : goal.returns-clause-unknown
returns-clause-unknown g c = λ way teid item r none. unknown_drops way teid item r none
