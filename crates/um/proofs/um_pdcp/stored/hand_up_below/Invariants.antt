use Rattle.std.proofs.Common.{◌≡◌, ◌++◌, length}
use Rattle.um_defs.specs.Receivers.{entries}
use Rattle.um.specs.um_pdcp.inside.Stored.{below, from}
use Rattle.um.specs.um_pdcp.Stored.{AreGiven}
use Rattle.um.proofs.um_pdcp.stored.hand_up_below.Given as goal

abbrev pub invariant-loop-out : goal.invariant-loop-out
invariant-loop-out l = record {
  up : entries l.outs ++ below l.count l.stored ≡ entries l.initial.outs ++ below l.count l.initial.stored;
  rest : from l.count l.stored ≡ from l.count l.initial.stored;
  given : AreGiven l.initial.stored → AreGiven l.stored;
}

abbrev pub decreases-loop-out : goal.decreases-loop-out
decreases-loop-out l = length l.stored
