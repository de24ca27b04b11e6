use Rattle.law_terminals_are_isolated.proofs.du_projection.Others.{du_steps, unknown_drops}
use Rattle.law_terminals_are_isolated.proofs.du_projection.a_step_of_a_du_leaves_the_others.Goals as goal

pub returns-clause-leaves : goal.returns-clause-leaves
returns-clause-leaves g c = λ way ue input r free is. du_steps way ue input r free is

pub returns-clause-unknown : goal.returns-clause-unknown
returns-clause-unknown g c = λ way teid item r none. unknown_drops way teid item r none
