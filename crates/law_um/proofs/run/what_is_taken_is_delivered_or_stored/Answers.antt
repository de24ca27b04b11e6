use Rattle.law_um.proofs.run.Taken.{held}
use Rattle.law_um.proofs.run.what_is_taken_is_delivered_or_stored.Goals as goal

pub returns : goal.returns
returns c = held
