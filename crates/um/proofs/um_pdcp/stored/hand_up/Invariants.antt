use Rattle.std.proofs.Common.{◌≡◌, ◌+◌, ◌≤◌, ◌++◌, length}
use Rattle.pdcp.specs.Near.{last_count}
use Rattle.pdcp_defs.specs.Receivers.{deliver_from}
use Rattle.um_defs.specs.Receivers.{entries}
use Rattle.um.specs.um_pdcp.Stored.{AreGiven}
use Rattle.um.proofs.um_pdcp.stored.hand_up.Given as goal

abbrev pub invariant-loop-out : goal.invariant-loop-out
invariant-loop-out l = record {
  up : entries l.outs ++ (deliver_from l.next l.stored).packets
      ≡ entries l.initial.outs ++ (deliver_from l.deliv l.initial.stored).packets;
  after : (deliver_from l.next l.stored).after ≡ (deliver_from l.deliv l.initial.stored).after;
  given : AreGiven l.stored;
  next : l.next ≤ last_count + 1;
}

abbrev pub decreases-loop-out : goal.decreases-loop-out
decreases-loop-out l = length l.stored
