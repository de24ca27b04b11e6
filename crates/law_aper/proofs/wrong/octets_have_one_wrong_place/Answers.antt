use Rattle.proof_aper.proofs.refused.WrongPlaces.{one_wrong}
use Rattle.law_aper.proofs.wrong.octets_have_one_wrong_place.Goals as goal

pub returns : goal.returns
returns c = one_wrong
