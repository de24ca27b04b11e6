use Rattle.proof_aper.proofs.refused.Refused.{refused_wrong}
use Rattle.law_aper.proofs.refusals.a_refusal_is_a_wrong_place.Goals as goal

pub returns : goal.returns
returns c = refused_wrong
