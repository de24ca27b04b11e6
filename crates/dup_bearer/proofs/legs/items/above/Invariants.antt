use Rattle.std.proofs.Common.{◌≡◌, ◌++◌, length}
use Rattle.dup_defs.specs.dup_run_defs.Run.{above}
use Rattle.dup_bearer.proofs.legs.items.above.Given as goal

abbrev pub invariant-loop-item : goal.invariant-loop-item
invariant-loop-item l = l.left ++ above l.count l.items ≡ above l.count l.initial.items

abbrev pub decreases-loop-item : goal.decreases-loop-item
decreases-loop-item l = length l.items
