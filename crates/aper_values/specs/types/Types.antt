-- The tree of a type of a module: names are followed, and what a set holds stands in it (X.680, clause 17; X.681 and X.682 for the two
-- parameterised types).
use Rattle.std.specs.Prelude.{ℕ, zero, suc, ◌+◌, List, [], ◌∷◌, length, Bool, true, false, Option, Some, None, is_some}
use Rattle.asn1_syntax.specs.declared.types.definition.TypeId.{TypeId}
use Rattle.asn1_syntax.specs.declared.types.definition.Component.{Component}
use Rattle.asn1_syntax.specs.declared.types.definition.Extensible.{Extensible}
use Rattle.asn1_syntax.specs.declared.types.definition.Definition.{Definition}
use Rattle.asn1_syntax.specs.declared.types.definition.Definition.TheVariants as types
use Rattle.asn1_syntax.specs.types.Members.{additions_of}
use Rattle.asn1_syntax.specs.declared.assignments.assignment.Presence.{Presence}
use Rattle.asn1_syntax.specs.declared.assignments.assignment.Presence.TheVariants as presences
use Rattle.asn1_syntax.specs.declared.assignments.assignment.IeRow.{IeRow}
use Rattle.asn1_syntax.specs.declared.assignments.assignment.ProcedureRow.{ProcedureRow}
use Rattle.asn1_syntax.specs.declared.assignments.assignment.Assignment.{Assignment}
use Rattle.asn1_syntax.specs.declared.assignments.assignment.Syntax.{Syntax}
use Rattle.asn1_defs.specs.Targets.{definition_at, referred, element_rows, message_rows}
use Rattle.aper_defs.specs.Trees.{Tree, Parts, Rows, Procedures, Outcome, boolean, integer, enumerated, bit_string, octet_string, printable_string, sequence, choice, sequence_of, container, pdu, no_parts, part, no_rows, row, no_procedures, procedure, no_outcome, outcome}

-- Components, rows of sets and messages; `of` gives the tree of the type with a number.
abbrev pub parts_of : (ℕ → Tree) → List Component → Parts
parts_of of [] = no_parts
parts_of of (c ∷ components) = part c.name c.optional (of c.definition.number) (parts_of of components)

abbrev pub is_mandatory : Presence → Bool
is_mandatory presences.Mandatory = true
is_mandatory presences.Optional = false

abbrev pub rows_of : (ℕ → Tree) → List IeRow → Rows
rows_of of [] = no_rows
rows_of of (r ∷ rows) = row r.id (is_mandatory r.presence) (of r.definition.number) (rows_of of rows)

abbrev pub outcome_of : (ℕ → Tree) → Option TypeId → Outcome
outcome_of of None = no_outcome
outcome_of of (Some id) = outcome (of id.number)

abbrev pub procedures_of : (ℕ → Tree) → List ProcedureRow → Procedures
procedures_of of [] = no_procedures
procedures_of of (r ∷ rows) =
    procedure r.code (outcome (of r.initiating.number)) (outcome_of of r.successful) (outcome_of of r.unsuccessful) (procedures_of of rows)

-- `...` follows the root
abbrev pub is_extensible : {T : Type 0} → Extensible T → Bool
is_extensible parts = is_some parts.additions

abbrev pub sequence_tree : (ℕ → Tree) → Extensible Component → Tree
sequence_tree of members = sequence (is_extensible members) (parts_of of members.root) (parts_of of (additions_of members.additions))

abbrev pub choice_tree : (ℕ → Tree) → Extensible Component → Tree
choice_tree of members = choice (is_extensible members) (parts_of of members.root) (parts_of of (additions_of members.additions))

abbrev pub named_tree : (ℕ → Tree) → Option TypeId → Tree
named_tree of None = boolean
named_tree of (Some id) = of id.number

-- the tree of a type, by those of the types that it leads to
abbrev pub definition_tree : List Assignment → (ℕ → Tree) → Definition → Tree
definition_tree names of types.Boolean = boolean
definition_tree names of (types.Integer low high extensible) = integer low high extensible
definition_tree names of (types.Enumerated parts) = enumerated (length parts.root) (is_extensible parts)
definition_tree names of (types.BitString size) = bit_string size
definition_tree names of (types.OctetString size) = octet_string size
definition_tree names of (types.PrintableString size) = printable_string size
definition_tree names of (types.Sequence members) = sequence_tree of members
definition_tree names of (types.Choice members) = choice_tree of members
definition_tree names of (types.SequenceOf size element) = sequence_of size (of element.number)
definition_tree names of (types.Reference name) = named_tree of (referred names (types.Reference name))
definition_tree names of (types.IeContainer set) = container (rows_of of (element_rows names (types.IeContainer set)))
definition_tree names of (types.Pdu set) = pdu (procedures_of of (message_rows names (types.Pdu set)))

-- The tree of a type, at most so many steps deep. A step is one from a type to one inside it, to that of its name, or to one in its set.
unfoldable pub tree_by : ℕ → Syntax → ℕ → Tree
tree_by zero m id = boolean
tree_by (suc steps) m id = definition_tree m.assignments (tree_by steps m) (definition_at m id)

-- No type leads to itself, so a step more than there are types and names is never taken.
unfoldable pub tree : Syntax → ℕ → Tree
tree m id = tree_by (length m.nodes + length m.assignments + 1) m id
