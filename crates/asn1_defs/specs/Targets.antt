-- What names refer to, once they are known: the type of a name, and the rows of the set of a name.
use Rattle.std.specs.Prelude.{ℕ, IsSome, List, [], ◌∷◌, Bool, false, ◌==◌, Option, Some, None, if◌then◌else◌, slice_get}
use Rattle.asn1_tokens.specs.Words.{is_text}
use Rattle.asn1_syntax.specs.declared.types.definition.TypeId.{TypeId}
use Rattle.asn1_syntax.specs.declared.types.definition.Definition.{Definition}
use Rattle.asn1_syntax.specs.declared.types.definition.Definition.TheVariants as types
use Rattle.asn1_syntax.specs.declared.assignments.assignment.Body.{Body}
use Rattle.asn1_syntax.specs.declared.assignments.assignment.Body.TheVariants as bodies
use Rattle.asn1_syntax.specs.declared.assignments.assignment.Assignment.{Assignment}
use Rattle.asn1_syntax.specs.declared.assignments.assignment.Syntax.{Syntax}
use Rattle.asn1_syntax.specs.declared.assignments.assignment.IeRow.{IeRow}
use Rattle.asn1_syntax.specs.declared.assignments.assignment.ProcedureRow.{ProcedureRow}
use Rattle.asn1_syntax.specs.declared.types.definition.Node.{Node}

-- the type of an assignment, if it is one's
abbrev pub type_of : Body → Option TypeId
type_of (bodies.Type definition) = Some definition
type_of (bodies.IeSet rows) = None
type_of (bodies.ProcedureSet rows) = None

-- a module's types in the text's order
abbrev pub put_type : Option TypeId → List TypeId → List TypeId
put_type None ids = ids
put_type (Some id) ids = id ∷ ids

unfoldable pub type_ids : List Assignment → List TypeId
type_ids [] = []
type_ids (a ∷ assignments) = put_type (type_of a.body) (type_ids assignments)

-- the type of a name
unfoldable pub find_type : List ℕ → List Assignment → Option TypeId
find_type name [] = None
find_type name (a ∷ assignments) = if is_text a.name name then type_of a.body else find_type name assignments

-- the rows of the set of a name
abbrev pub ie_rows_of : Body → Option (List IeRow)
ie_rows_of (bodies.Type definition) = None
ie_rows_of (bodies.IeSet rows) = Some rows
ie_rows_of (bodies.ProcedureSet rows) = None

unfoldable pub ie_rows : List ℕ → List Assignment → Option (List IeRow)
ie_rows name [] = None
ie_rows name (a ∷ assignments) = if is_text a.name name then ie_rows_of a.body else ie_rows name assignments

abbrev pub procedure_rows_of : Body → Option (List ProcedureRow)
procedure_rows_of (bodies.Type definition) = None
procedure_rows_of (bodies.IeSet rows) = None
procedure_rows_of (bodies.ProcedureSet rows) = Some rows

unfoldable pub procedure_rows : List ℕ → List Assignment → Option (List ProcedureRow)
procedure_rows name [] = None
procedure_rows name (a ∷ assignments) = if is_text a.name name then procedure_rows_of a.body else procedure_rows name assignments

-- the assignment is that of this type
abbrev pub is_id : TypeId → Option TypeId → Bool
is_id id None = false
is_id id (Some other) = other.number == id.number

abbrev pub is_body_of : TypeId → Body → Bool
is_body_of id body = is_id id (type_of body)

-- the name of a type, if it has one of its own
unfoldable pub type_name : TypeId → List Assignment → List ℕ
type_name id [] = []
type_name id (a ∷ assignments) = if is_body_of id a.body then a.name else type_name id assignments

-- what the name in a type refers to is there
abbrev pub HasTarget : List Assignment → Definition → Type 0
HasTarget assignments (types.Reference name) = IsSome (find_type name assignments)
HasTarget assignments (types.IeContainer set) = IsSome (ie_rows set assignments)
HasTarget assignments (types.Pdu set) = IsSome (procedure_rows set assignments)
HasTarget assignments _ = Unit {0}

-- the form of the type with this number; BOOLEAN stands for none
abbrev pub definition_of : Option Node → Definition
definition_of None = types.Boolean
definition_of (Some node) = node.definition

abbrev pub definition_at : Syntax → ℕ → Definition
definition_at m id = definition_of (slice_get m.nodes id)

-- the type that a name refers to
abbrev pub referred : List Assignment → Definition → Option TypeId
referred assignments (types.Reference name) = find_type name assignments
referred assignments _ = None

abbrev pub all_of : {T : Type 0} → Option (List T) → List T
all_of None = []
all_of (Some rows) = rows

-- the rows of the set that a container is of, and of the set that a PDU is of
abbrev pub element_rows : List Assignment → Definition → List IeRow
element_rows assignments (types.IeContainer set) = all_of (ie_rows set assignments)
element_rows assignments _ = []

abbrev pub message_rows : List Assignment → Definition → List ProcedureRow
message_rows assignments (types.Pdu set) = all_of (procedure_rows set assignments)
message_rows assignments _ = []
