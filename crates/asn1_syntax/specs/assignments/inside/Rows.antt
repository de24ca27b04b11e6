-- Internal: how the rows of information object sets are read.
use Rattle.std.specs.Prelude.{ℕ, ◌==◌, List, Bool, Option, Some, None, Result, Ok, Err, if◌then◌else◌}
use Rattle.std.specs.List.{list_any}
use Rattle.asn1_tokens.specs.declared.token.Word.{Word}
use Rattle.asn1_tokens.specs.declared.token.Word.TheVariants as words
use Rattle.asn1_tokens.specs.declared.token.Sign.TheVariants as signs
use Rattle.asn1_syntax.specs.declared.types.fault.ModuleReason.TheVariants as reasons
use Rattle.asn1_syntax.specs.declared.types.fault.Fault.{Fault}
use Rattle.asn1_syntax.specs.declared.types.definition.TypeId.{TypeId}
use Rattle.asn1_syntax.specs.declared.types.definition.Node.{Node}
use Rattle.asn1_syntax.specs.types.Reading.{Left, begins_with}
use Rattle.asn1_syntax.specs.types.inside.Reading.{◌>>=◌, fault_at, unexpected, word_at, sign_at, lower_at}
use Rattle.asn1_syntax.specs.types.inside.Sizes.{natural_at}
use Rattle.asn1_syntax.specs.types.inside.Types.{type_at}
use Rattle.asn1_syntax.specs.declared.assignments.assignment.Criticality.{Criticality}
use Rattle.asn1_syntax.specs.declared.assignments.assignment.Presence.{Presence}
use Rattle.asn1_syntax.specs.declared.assignments.assignment.IeRow.{IeRow}
use Rattle.asn1_syntax.specs.declared.assignments.assignment.ProcedureRow.{ProcedureRow}
use Rattle.asn1_syntax.specs.assignments.Rows.{criticality_of, presence_of}

-- a number that is given for the first time in its list
unfoldable pub new_number_at : (ℕ → Bool) → ℕ → Left → Result (ℕ × Left) Fault
new_number_at taken high ts = do
  number ← natural_at 0 high ts
  if taken number.0 then Err (fault_at reasons.Twice ts) else Ok (number.0, number.1)

-- one of the names of lower form
abbrev pub found_or : {X : Type 0} → Option X → Left → Left → Result (X × Left) Fault
found_or None ts after = Err (unexpected ts)
found_or (Some x) ts after = Ok (x, after)

unfoldable pub criticality_at : Left → Result (Criticality × Left) Fault
criticality_at ts = do
  name ← lower_at ts
  found_or (criticality_of name.0) ts name.1

unfoldable pub presence_at : Left → Result (Presence × Left) Fault
presence_at ts = do
  name ← lower_at ts
  found_or (presence_of name.0) ts name.1

abbrev pub has_id : ℕ → List IeRow → Bool
has_id id rows = list_any (λ row. row.id == id) rows

-- the words of a row, and what stands between them
unfoldable pub ie_row_at : ℕ → List IeRow → List Node → Left → Result (IeRow × List Node × Left) Fault
ie_row_at turns rows nodes ts = do
  a ← sign_at signs.LeftBrace ts
  b ← word_at words.Id a
  id ← new_number_at (λ id. has_id id rows) 65535 b
  c ← word_at words.Criticality id.1
  criticality ← criticality_at c
  d ← word_at words.Type criticality.1
  definition ← type_at turns nodes d
  e ← word_at words.Presence definition.2
  presence ← presence_at e
  f ← sign_at signs.RightBrace presence.1
  Ok (record { id = id.0; criticality = criticality.0; definition = definition.0; presence = presence.0 }, definition.1, f)

-- an outcome of a procedure, where its word stands
unfoldable pub outcome_at : ℕ → Word → List Node → Left → Result (Option TypeId × List Node × Left) Fault
outcome_at turns word nodes ts = if begins_with word ts then (do
  a ← word_at word ts
  b ← word_at words.Outcome a
  definition ← type_at turns nodes b
  Ok (Some definition.0, definition.1, definition.2)) else Ok (None, nodes, ts)

abbrev pub has_code : ℕ → List ProcedureRow → Bool
has_code code rows = list_any (λ row. row.code == code) rows

-- the types of the messages of a procedure
unfoldable pub messages_at : ℕ → List Node → Left → Result (TypeId × Option TypeId × Option TypeId × List Node × Left) Fault
messages_at turns nodes ts = do
  a ← word_at words.Initiating ts
  b ← word_at words.Message a
  initiating ← type_at turns nodes b
  successful ← outcome_at turns words.Successful initiating.1 initiating.2
  unsuccessful ← outcome_at turns words.Unsuccessful successful.1 successful.2
  Ok (initiating.0, successful.0, unsuccessful.0, unsuccessful.1, unsuccessful.2)

unfoldable pub procedure_row_at : ℕ → List ProcedureRow → List Node → Left → Result (ProcedureRow × List Node × Left) Fault
procedure_row_at turns rows nodes ts = do
  a ← sign_at signs.LeftBrace ts
  messages ← messages_at turns nodes a
  b ← word_at words.Procedure messages.4
  c ← word_at words.Code b
  code ← new_number_at (λ code. has_code code rows) 255 c
  d ← word_at words.Criticality code.1
  criticality ← criticality_at d
  e ← sign_at signs.RightBrace criticality.1
  Ok (record { initiating = messages.0; successful = messages.1; unsuccessful = messages.2; code = code.0; criticality = criticality.0 }, messages.3, e)
