use Rattle.intervals.proofs.Intervals.{HasNoGap-append, reach-append, upto-no_gap, upto-reach}
use Rattle.intervals.proofs.without_a_gap.Goals as goal

pub returns : goal.returns
returns c = record {
  joined = HasNoGap-append;
  reached = reach-append;
  interval = upto-no_gap;
  interval_reached = upto-reach;
}
