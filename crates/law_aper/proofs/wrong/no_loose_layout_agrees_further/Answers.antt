use Rattle.proof_aper.proofs.refused.WrongPlaces.{none_further}
use Rattle.law_aper.proofs.wrong.no_loose_layout_agrees_further.Goals as goal

pub returns : goal.returns
returns c = none_further
