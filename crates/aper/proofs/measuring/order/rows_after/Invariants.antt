use Rattle.std.proofs.Common.{ℕ, drop, Option, List}
use Rattle.aper_defs.specs.Trees.{Tree, Slot, slots}
use Rattle.aper_values.specs.types.Types.{rows_of}
use Rattle.aper.specs.measuring.Order.{LeavesKnown}
use Rattle.aper.proofs.measuring.order.rows_after.Given as goal

abbrev pub invariant-loop-i : goal.invariant-loop-i
invariant-loop-i l = (of : ℕ → Tree) (r : Option (List Slot)) → LeavesKnown l.id (slots (rows_of of (drop l.i l.left))) r
    → LeavesKnown l.id (slots (rows_of of l.left)) r
