use Rattle.law_aper.proofs.feeding.Cutting.{spelled, found}
use Rattle.law_aper.proofs.feeding.a_value_is_there_where_a_front_spells_it.Goals as goal

pub returns-clause-spelled : goal.returns-clause-spelled
returns-clause-spelled c = spelled

pub returns-clause-found : goal.returns-clause-found
returns-clause-found c = found
