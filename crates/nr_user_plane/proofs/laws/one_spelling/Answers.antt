use Rattle.nr_user_plane.proofs.Spellings.{one_spelling}
use Rattle.nr_user_plane.proofs.laws.one_spelling.Goals as goal

pub returns : goal.returns
returns c = one_spelling
