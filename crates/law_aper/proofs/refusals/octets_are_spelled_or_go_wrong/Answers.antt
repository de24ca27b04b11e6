use Rattle.law_aper.proofs.refusals.Tells.{tells_some, tells_one, tells}
use Rattle.law_aper.proofs.refusals.octets_are_spelled_or_go_wrong.Goals as goal

pub returns-clause-some : goal.returns-clause-some
returns-clause-some c = tells_some

pub returns-clause-one : goal.returns-clause-one
returns-clause-one c = tells_one

pub returns-clause-found : goal.returns-clause-found
returns-clause-found c = tells
