use Rattle.std.proofs.Common.{◌≡◌, ℕ, drop}
use Rattle.aper_defs.specs.Trees.{Tree, slots}
use Rattle.aper_values.specs.types.Types.{rows_of}
use Rattle.json_fields.specs.parts.Order.{are_ids_in_order, ids_of}
use Rattle.json_fields.proofs.parts.order.are_in_order.Given as goal

abbrev pub invariant-loop-ie : goal.invariant-loop-ie
invariant-loop-ie l = (of : ℕ → Tree)
    → are_ids_in_order (slots (rows_of of l.rows)) (slots (rows_of of l.left)) (ids_of (drop l.ie-index l.ies))
    ≡ are_ids_in_order (slots (rows_of of l.rows)) (slots (rows_of of l.rows)) (ids_of l.ies)
