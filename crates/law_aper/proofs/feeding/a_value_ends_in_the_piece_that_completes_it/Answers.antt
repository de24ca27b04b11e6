use Rattle.law_aper.proofs.feeding.Cutting.{completes}
use Rattle.law_aper.proofs.feeding.a_value_ends_in_the_piece_that_completes_it.Goals as goal

pub returns : goal.returns
returns c = completes
