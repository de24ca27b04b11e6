use Rattle.intervals.proofs.Intervals.{upto-length, upto-join}
use Rattle.intervals.proofs.intervals_join.Goals as goal

pub returns : goal.returns
returns c = record { length_is = upto-length; joined = upto-join }
