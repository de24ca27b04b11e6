use Rattle.std.proofs.Common.{◌≡◌, ℕ, drop}
use Rattle.aper_defs.specs.Trees.{Tree, slots, mandatory_count}
use Rattle.aper_values.specs.types.Types.{rows_of}
use Rattle.aper.proofs.measuring.order.has_mandatory.Given as goal

abbrev pub invariant-loop-row : goal.invariant-loop-row
invariant-loop-row l = (of : ℕ → Tree)
    → mandatory_count (slots (rows_of of (drop l.row-index l.rows))) ≡ mandatory_count (slots (rows_of of l.rows))
