use Rattle.law_terminals_are_isolated.proofs.projections.Cores.{acts_same, acts_steps}
use Rattle.law_terminals_are_isolated.proofs.projections.a_step_of_the_core_is_one_terminals.Goals as goal

pub returns-clause-depends : goal.returns-clause-depends
returns-clause-depends g c = λ way from m r q e. acts_same way from m r q e

pub returns-clause-leaves : goal.returns-clause-leaves
returns-clause-leaves g c = λ way from m r. acts_steps way from m r
