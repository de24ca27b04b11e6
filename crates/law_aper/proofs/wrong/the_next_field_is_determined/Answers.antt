use Rattle.proof_aper.proofs.refused.WrongPlaces.{one_next}
use Rattle.law_aper.proofs.wrong.the_next_field_is_determined.Goals as goal

pub returns : goal.returns
returns c = one_next
