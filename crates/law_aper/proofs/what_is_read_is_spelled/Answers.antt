use Rattle.proof_aper.proofs.values.FoundWhole.{decoded_spells}
use Rattle.law_aper.proofs.what_is_read_is_spelled.Goals as goal

pub returns : goal.returns
returns c = decoded_spells
