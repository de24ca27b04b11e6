-- What the names in types refer to.
use Rattle.std.specs.Prelude.{ℕ, List, [], ◌∷◌, Bool, true, false, Option, Some, None, if◌then◌else◌, ◌==◌}
use Rattle.asn1_tokens.specs.Words.{is_text}
use Rattle.asn1_syntax.specs.declared.types.definition.Definition.{Definition}
use Rattle.asn1_syntax.specs.declared.types.definition.Definition.TheVariants as types
use Rattle.asn1_syntax.specs.declared.types.definition.Node.{Node}
use Rattle.asn1_defs.specs.declared.names.Kind.{Kind}
use Rattle.asn1_defs.specs.declared.names.Kind.TheVariants as kinds
use Rattle.asn1_syntax.specs.declared.assignments.assignment.Body.{Body}
use Rattle.asn1_syntax.specs.declared.assignments.assignment.Body.TheVariants as bodies
use Rattle.asn1_syntax.specs.declared.assignments.assignment.Assignment.{Assignment}

abbrev pub kind_of_body : Body → Kind
kind_of_body (bodies.Type definition) = kinds.Type
kind_of_body (bodies.IeSet rows) = kinds.IeSet
kind_of_body (bodies.ProcedureSet rows) = kinds.ProcedureSet

-- what a name stands for, if it does for anything
unfoldable pub kind_of_name : List ℕ → List Assignment → Option Kind
kind_of_name name [] = None
kind_of_name name (other ∷ assignments) = if is_text other.name name then Some (kind_of_body other.body) else kind_of_name name assignments

abbrev pub kind_number : Kind → ℕ
kind_number kinds.Type = 0
kind_number kinds.IeSet = 1
kind_number kinds.ProcedureSet = 2

abbrev pub is_such : Kind → Option Kind → Bool
is_such kind None = false
is_such kind (Some found) = kind_number found == kind_number kind

-- a type's name is that of a type, and the name of its set that of a set of its kind
unfoldable pub is_known : List Assignment → Definition → Bool
is_known assignments (types.Reference name) = is_such kinds.Type (kind_of_name name assignments)
is_known assignments (types.IeContainer set) = is_such kinds.IeSet (kind_of_name set assignments)
is_known assignments (types.Pdu set) = is_such kinds.ProcedureSet (kind_of_name set assignments)
is_known assignments _ = true

-- the place of the first name in a type that isn't known
unfoldable pub first_unknown : List Assignment → List Node → Option ℕ
first_unknown assignments [] = None
first_unknown assignments (node ∷ nodes) = if is_known assignments node.definition then first_unknown assignments nodes else Some node.place
