use Rattle.std.proofs.Common.{◌≡◌, ◌++◌}
use Rattle.std.specs.Vec.Iter.{into_iter_items}
use Rattle.um_defs.specs.Receivers.{entries}
use Rattle.um_defs.specs.um_run_defs.Run.{delivered}
use Rattle.um.proofs.run.lines.put_delivered.Given as goal

abbrev pub invariant-loop-out : goal.invariant-loop-out
invariant-loop-out l = l.lines ++ delivered (entries (into_iter_items l.out-iterator))
    ≡ l.initial.lines ++ delivered (entries (into_iter_items l.initial.out-iterator))
