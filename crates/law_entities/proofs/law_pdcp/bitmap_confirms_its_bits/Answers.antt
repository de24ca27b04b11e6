use Rattle.law_entities.proofs.law_pdcp.Confirming.{bitmap_confirms}
use Rattle.law_entities.proofs.law_pdcp.bitmap_confirms_its_bits.Goals as goal

pub returns : goal.returns
returns c = bitmap_confirms
