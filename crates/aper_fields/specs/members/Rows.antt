-- The types that parts and rows of sets give, by their places and ids.
use Rattle.std.specs.Prelude.{ℕ, ◌==◌, List, [], ◌∷◌, Option, Some, None, option_map, slice_get, if◌then◌else◌}
use Rattle.asn1_syntax.specs.declared.types.definition.TypeId.{TypeId}
use Rattle.asn1_syntax.specs.declared.types.definition.Component.{Component}
use Rattle.asn1_syntax.specs.declared.assignments.assignment.IeRow.{IeRow}
use Rattle.asn1_syntax.specs.declared.assignments.assignment.ProcedureRow.{ProcedureRow}

-- that of the part at a place, counted from 0
abbrev pub part_type : ℕ → List Component → Option TypeId
part_type i parts = option_map (λ part. part.definition) (slice_get parts i)

-- that of the information element with an id
unfoldable pub row_type : ℕ → List IeRow → Option TypeId
row_type id [] = None
row_type id (row ∷ rows) = if row.id == id then Some row.definition else row_type id rows

abbrev pub outcome_type : ℕ → ProcedureRow → Option TypeId
outcome_type index row =
    if index == 0 then Some row.initiating
    else if index == 1 then row.successful
    else row.unsuccessful

-- that of the message of a procedure's code for an outcome
unfoldable pub message_type : (index code : ℕ) → List ProcedureRow → Option TypeId
message_type index code [] = None
message_type index code (row ∷ rows) = if row.code == code then outcome_type index row else message_type index code rows
