-- Internal: how modules (X.680, clause 13) and their assignments are read.
use Rattle.std.specs.Prelude.{ℕ, List, [], ◌∷◌, ◌++◌, length, Bool, true, false, Result, Ok, Err, if◌then◌else◌, ◌&&◌, nat_le, count_by, ◌+◌}
use Rattle.std.specs.List.{list_any}
use Rattle.asn1_tokens.specs.declared.token.Word.TheVariants as words
use Rattle.asn1_tokens.specs.declared.token.Sign.TheVariants as signs
use Rattle.asn1_tokens.specs.Words.{is_text}
use Rattle.asn1_tokens.specs.Stream.{items_of, first_place}
use Rattle.asn1_syntax.specs.declared.types.fault.ModuleReason.TheVariants as reasons
use Rattle.asn1_syntax.specs.declared.types.fault.Fault.{Fault}
use Rattle.asn1_syntax.specs.declared.types.definition.Node.{Node}
use Rattle.asn1_syntax.specs.types.Reading.{Left, begins_with, begins_with_sign}
use Rattle.asn1_syntax.specs.types.inside.Reading.{◌>>=◌, fault_at, word_at, sign_at, upper_at, repeat_at}
use Rattle.asn1_syntax.specs.types.inside.Types.{type_at}
use Rattle.asn1_syntax.specs.declared.assignments.assignment.Body.{Body}
use Rattle.asn1_syntax.specs.declared.assignments.assignment.Body.TheVariants as bodies
use Rattle.asn1_syntax.specs.declared.assignments.assignment.Assignment.{Assignment}
use Rattle.asn1_syntax.specs.declared.assignments.assignment.Syntax.{Syntax}
use Rattle.asn1_syntax.specs.assignments.inside.Sets.{ie_set_at, procedure_set_at}
use Rattle.asn1_syntax.specs.assignments.Module.{is_type}

-- the assignments so far, and the module's types so far
pub record Parts : Type 0 where
  pub assignments : List Assignment
  pub nodes : List Node

-- as many types as a module may have
abbrev pub has_all_types : List Assignment → Bool
has_all_types assignments = nat_le 1000 (count_by is_type assignments)

abbrev pub is_assigned : List ℕ → List Assignment → Bool
is_assigned name assignments = list_any (λ other. is_text other.name name) assignments

-- A name that is given for the first time. That of a type behind the thousandth one is outside the bounds, also where it was
-- given before.
unfoldable pub new_assignment_at : List Assignment → Left → Result (List ℕ × Left) Fault
new_assignment_at assignments ts = do
  name ← upper_at ts
  if begins_with_sign signs.Assignment name.1 && has_all_types assignments then Err (fault_at reasons.Bounds ts) else (if is_assigned name.0 assignments then Err (fault_at reasons.Twice ts) else Ok (name.0, name.1))

-- what a name stands for
unfoldable pub ie_body_at : ℕ → List Node → Left → Result (Body × List Node × Left) Fault
ie_body_at turns nodes ts = do
  a ← word_at words.ProtocolIes ts
  set ← ie_set_at turns nodes a
  Ok (bodies.IeSet set.0.rows, set.0.nodes, set.1)

unfoldable pub procedure_body_at : ℕ → List Node → Left → Result (Body × List Node × Left) Fault
procedure_body_at turns nodes ts = do
  a ← word_at words.ElementaryProcedure ts
  set ← procedure_set_at turns nodes a
  Ok (bodies.ProcedureSet set.0.rows, set.0.nodes, set.1)

unfoldable pub type_body_at : ℕ → List Node → Left → Result (Body × List Node × Left) Fault
type_body_at turns nodes ts = do
  a ← sign_at signs.Assignment ts
  definition ← type_at turns nodes a
  Ok (bodies.Type definition.0, definition.1, definition.2)

unfoldable pub body_at : ℕ → List Node → Left → Result (Body × List Node × Left) Fault
body_at turns nodes ts =
    if begins_with words.ProtocolIes ts then ie_body_at turns nodes ts else (
    if begins_with words.ElementaryProcedure ts then procedure_body_at turns nodes ts else
    type_body_at turns nodes ts)

unfoldable pub assignment_at : ℕ → Parts → Left → Result (Parts × Left) Fault
assignment_at turns so_far ts = do
  name ← new_assignment_at so_far.assignments ts
  body ← body_at turns so_far.nodes name.1
  Ok (
    record {
      assignments = so_far.assignments ++ record { name = name.0; place = (first_place ts).start; body = body.0; end = length body.1 } ∷ [];
      nodes = body.1;
    },
    body.2,
  )

-- the word END, or one more assignment
unfoldable pub module_turn_at : ℕ → Parts → Left → Result (Bool × Parts × Left) Fault
module_turn_at turns so_far ts = if begins_with words.End ts then Ok (false, so_far, ts) else (do
  next ← assignment_at turns so_far ts
  Ok (true, next.0, next.1))

unfoldable pub header_at : Left → Result (List ℕ × Left) Fault
header_at ts = do
  name ← upper_at ts
  a ← word_at words.Definitions name.1
  b ← word_at words.Automatic a
  c ← word_at words.Tags b
  d ← sign_at signs.Assignment c
  e ← word_at words.Begin d
  Ok (name.0, e)

abbrev pub no_assignments : List Node → Parts
no_assignments nodes = record { assignments = []; nodes = nodes }

-- the assignments up to the word END
unfoldable pub assignments_at : ℕ → List Node → Left → Result (Parts × Left) Fault
assignments_at turns nodes ts = repeat_at (module_turn_at turns) turns (no_assignments nodes) ts

unfoldable pub syntax_at : ℕ → Left → Result Syntax Fault
syntax_at turns ts = do
  header ← header_at ts
  parts ← assignments_at turns [] header.1
  Ok (record { name = header.0; assignments = parts.0.assignments; nodes = parts.0.nodes; end = (first_place parts.1).end })

-- The module at the front of a text, without a look at what its names refer to. No list has more turns than there are octets,
-- since a turn takes an item at least.
abbrev pub syntax_of : List ℕ → Result Syntax Fault
syntax_of text = syntax_at (length text + 1) (items_of text)
