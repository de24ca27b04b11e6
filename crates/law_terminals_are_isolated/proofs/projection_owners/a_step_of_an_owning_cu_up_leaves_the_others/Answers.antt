use Rattle.law_terminals_are_isolated.proofs.projection_owners.Owners.{up_owning}
use Rattle.law_terminals_are_isolated.proofs.projection_owners.a_step_of_an_owning_cu_up_leaves_the_others.Goals as goal

pub returns : goal.returns
returns g c = λ way ue input r owns is. up_owning way ue input r owns is
