use Rattle.law_terminals_are_isolated.proofs.projection_owners.Owners.{du_owning}
use Rattle.law_terminals_are_isolated.proofs.projection_owners.a_step_of_an_owning_du_leaves_the_others.Goals as goal

pub returns : goal.returns
returns g c = λ way ue input r owns is. du_owning way ue input r owns is
