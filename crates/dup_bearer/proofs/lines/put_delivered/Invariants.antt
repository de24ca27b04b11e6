use Rattle.std.proofs.Common.{◌≡◌, ◌++◌, map}
use Rattle.std.specs.Vec.Iter.{into_iter_items}
use Rattle.um_defs.specs.Receivers.{entries}
use Rattle.dup_bearer.specs.Bearers.{deliver_line}
use Rattle.dup_bearer.proofs.lines.put_delivered.Given as goal

abbrev pub invariant-loop-out : goal.invariant-loop-out
invariant-loop-out l = l.lines ++ map deliver_line (entries (into_iter_items l.out-iterator))
    ≡ l.initial.lines ++ map deliver_line (entries (into_iter_items l.initial.out-iterator))
