use Rattle.law_aper.proofs.pieces.Fronts.{front_cut}
use Rattle.law_aper.proofs.pieces.a_front_of_a_spelling_is_cut_off.Goals as goal

pub returns : goal.returns
returns c = front_cut
