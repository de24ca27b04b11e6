use Rattle.bits_core.proofs.BitLemmas.{fields_again}
use Rattle.bits_core.proofs.laws.fields_put_are_taken.Goals as goal

pub returns : goal.returns
returns c = fields_again
