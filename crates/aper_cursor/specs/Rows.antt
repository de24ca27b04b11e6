-- A row that an id finds.
use Rattle.std.specs.Prelude.{◌≡◌, ℕ, ◌+◌, ◌<◌, List, length, take, drop, true, false, Option, Some, None}
use Rattle.asn1_syntax.specs.declared.assignments.assignment.IeRow.{IeRow}
use Rattle.aper_defs.specs.Trees.{has_slot, slots_before, slots_after}
use Rattle.aper_cursor.specs.Questions.{slots_of}

pub record IsRow (id : ℕ) (rows : List IeRow) (i : ℕ) : Type 0 where
  pub within : i < length rows
  pub has : has_slot id (slots_of rows) ≡ true
  pub before : slots_before id (slots_of rows) ≡ slots_of (take i rows)
  pub after : slots_after id (slots_of rows) ≡ slots_of (drop (i + 1) rows)

-- The id is that of this row, or no row has it.
abbrev pub IsFound : ℕ → List IeRow → Option ℕ → Type 0
IsFound id rows None = has_slot id (slots_of rows) ≡ false
IsFound id rows (Some i) = IsRow id rows i
