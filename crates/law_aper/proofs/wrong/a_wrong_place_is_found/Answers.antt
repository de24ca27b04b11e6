use Rattle.proof_aper.proofs.refused.WrongPlaces.{wrong_found}
use Rattle.law_aper.proofs.wrong.a_wrong_place_is_found.Goals as goal

pub returns : goal.returns
returns c = wrong_found
