use Rattle.proof_aper.proofs.spelled.Spelled.{spelled_decoded}
use Rattle.law_aper.proofs.a_spelling_is_read_as_its_value.Goals as goal

pub returns : goal.returns
returns c = spelled_decoded
