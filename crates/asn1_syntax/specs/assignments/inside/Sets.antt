-- Internal: how information object sets are read: rows with bars between them, and an extension mark.
use Rattle.std.specs.Prelude.{ℕ, List, [], ◌∷◌, ◌++◌, Bool, true, false, Result, Ok, if◌then◌else◌}
use Rattle.asn1_tokens.specs.declared.token.Sign.TheVariants as signs
use Rattle.asn1_syntax.specs.declared.types.fault.Fault.{Fault}
use Rattle.asn1_syntax.specs.declared.types.definition.Node.{Node}
use Rattle.asn1_syntax.specs.types.Reading.{Left, begins_with_sign}
use Rattle.asn1_syntax.specs.types.inside.Reading.{◌>>=◌, sign_at, repeat_at}
use Rattle.asn1_syntax.specs.declared.assignments.assignment.IeRow.{IeRow}
use Rattle.asn1_syntax.specs.declared.assignments.assignment.ProcedureRow.{ProcedureRow}
use Rattle.asn1_syntax.specs.assignments.inside.Rows.{ie_row_at, procedure_row_at}

-- whether another row follows; behind the last one stands `, ...}`
unfoldable pub set_goes_on_at : Left → Result (Bool × Left) Fault
set_goes_on_at ts = if begins_with_sign signs.Bar ts then (do
  a ← sign_at signs.Bar ts
  Ok (true, a)) else (do
    a ← sign_at signs.Comma ts
    b ← sign_at signs.Ellipsis a
    c ← sign_at signs.RightBrace b
    Ok (false, c))

-- rows so far, and the module's types so far
pub record Rows (R : Type 0) : Type 0 where
  pub rows : List R
  pub nodes : List Node

abbrev pub rows_with : {R : Type 0} → List R → List Node → Rows R
rows_with rows nodes = record { rows = rows; nodes = nodes }

unfoldable pub ie_turn_at : ℕ → Rows IeRow → Left → Result (Bool × Rows IeRow × Left) Fault
ie_turn_at turns so_far ts = do
  row ← ie_row_at turns so_far.rows so_far.nodes ts
  more ← set_goes_on_at row.2
  Ok (more.0, rows_with (so_far.rows ++ row.0 ∷ []) row.1, more.1)

unfoldable pub procedure_turn_at : ℕ → Rows ProcedureRow → Left → Result (Bool × Rows ProcedureRow × Left) Fault
procedure_turn_at turns so_far ts = do
  row ← procedure_row_at turns so_far.rows so_far.nodes ts
  more ← set_goes_on_at row.2
  Ok (more.0, rows_with (so_far.rows ++ row.0 ∷ []) row.1, more.1)

-- behind the word of the set
unfoldable pub set_start_at : Left → Result Left Fault
set_start_at ts = do
  a ← sign_at signs.Assignment ts
  sign_at signs.LeftBrace a

unfoldable pub ie_set_at : ℕ → List Node → Left → Result (Rows IeRow × Left) Fault
ie_set_at turns nodes ts = do
  a ← set_start_at ts
  repeat_at (ie_turn_at turns) turns (rows_with [] nodes) a

unfoldable pub procedure_set_at : ℕ → List Node → Left → Result (Rows ProcedureRow × Left) Fault
procedure_set_at turns nodes ts = do
  a ← set_start_at ts
  repeat_at (procedure_turn_at turns) turns (rows_with [] nodes) a
