-- The numbers of the assignments that the names in types refer to.
use Rattle.std.specs.Prelude.{ℕ, List, [], ◌∷◌, Option, Some, None}
use Rattle.asn1_syntax.specs.declared.types.definition.Definition.{Definition}
use Rattle.asn1_syntax.specs.declared.types.definition.Definition.TheVariants as types
use Rattle.asn1_syntax.specs.declared.types.definition.Node.{Node}
use Rattle.asn1_syntax.specs.declared.assignments.assignment.Assignment.{Assignment}
use Rattle.asn1_syntax.specs.declared.assignments.assignment.Syntax.{Syntax}
use Rattle.asn1_syntax.specs.assignments.Index.{number_of}

-- the name in a type: that of a type, or of the set that a container or a PDU is of
abbrev pub name_in : Definition → Option (List ℕ)
name_in (types.Reference name) = Some name
name_in (types.IeContainer set) = Some set
name_in (types.Pdu set) = Some set
name_in _ = None

-- the number of the name in a type, where there is one
abbrev pub number_by : (List ℕ → Option ℕ) → Option (List ℕ) → Option ℕ
number_by number None = None
number_by number (Some name) = number name

abbrev pub number_in : List Assignment → Definition → Option ℕ
number_in assignments definition = number_by (λ name. number_of name assignments) (name_in definition)

unfoldable pub all_numbers : List Assignment → List Node → List (Option ℕ)
all_numbers assignments [] = []
all_numbers assignments (node ∷ nodes) = number_in assignments node.definition ∷ all_numbers assignments nodes

abbrev pub numbers_in : Syntax → List (Option ℕ)
numbers_in m = all_numbers m.assignments m.nodes
