use Rattle.proof_aper.proofs.octets.Spelled.{some_spelling, one_spelling}
use Rattle.law_aper.proofs.a_value_has_one_spelling.Goals as goal

pub returns-clause-some : goal.returns-clause-some
returns-clause-some c = some_spelling

pub returns-clause-one : goal.returns-clause-one
returns-clause-one c = one_spelling
