-- The tree of a type of a module with its names: those of components, alternatives and an ENUMERATED. Names of types are followed, and
-- what a set holds stands in the tree, as in the tree that an encoding depends on.
use Rattle.std.specs.Prelude.{ℕ, zero, suc, ◌+◌, List, [], ◌∷◌, length, Option, Some, None}
use Rattle.asn1_syntax.specs.declared.types.definition.TypeId.{TypeId}
use Rattle.asn1_syntax.specs.declared.types.definition.Component.{Component}
use Rattle.asn1_syntax.specs.declared.types.definition.Definition.{Definition}
use Rattle.asn1_syntax.specs.declared.types.definition.Definition.TheVariants as types
use Rattle.asn1_syntax.specs.types.Members.{additions_of}
use Rattle.asn1_syntax.specs.declared.assignments.assignment.IeRow.{IeRow}
use Rattle.asn1_syntax.specs.declared.assignments.assignment.ProcedureRow.{ProcedureRow}
use Rattle.asn1_syntax.specs.declared.assignments.assignment.Assignment.{Assignment}
use Rattle.asn1_syntax.specs.declared.assignments.assignment.Syntax.{Syntax}
use Rattle.asn1_defs.specs.Targets.{definition_at, referred, element_rows, message_rows}
use Rattle.aper_values.specs.types.Types.{is_mandatory, is_extensible}
use Rattle.json_defs.specs.Named.{Named, NamedParts, NamedRows, NamedProcedures, NamedOutcome, boolean, integer, enumerated, bit_string, octet_string, printable_string, sequence, choice, sequence_of, container, pdu, no_parts, part, no_rows, row, no_procedures, procedure, no_outcome, outcome}

-- Components, rows of sets and messages; `of` gives the tree of the type with a number.
abbrev pub parts_with : (ℕ → Named) → List Component → NamedParts
parts_with of [] = no_parts
parts_with of (c ∷ components) = part c.name c.optional (of c.definition.number) (parts_with of components)

abbrev pub rows_with : (ℕ → Named) → List IeRow → NamedRows
rows_with of [] = no_rows
rows_with of (r ∷ rows) = row r.id (is_mandatory r.presence) (of r.definition.number) (rows_with of rows)

abbrev pub outcome_with : (ℕ → Named) → Option TypeId → NamedOutcome
outcome_with of None = no_outcome
outcome_with of (Some id) = outcome (of id.number)

abbrev pub procedures_with : (ℕ → Named) → List ProcedureRow → NamedProcedures
procedures_with of [] = no_procedures
procedures_with of (r ∷ rows) = procedure r.code (outcome (of r.initiating.number)) (outcome_with of r.successful)
    (outcome_with of r.unsuccessful) (procedures_with of rows)

abbrev pub referred_with : (ℕ → Named) → Option TypeId → Named
referred_with of None = boolean
referred_with of (Some id) = of id.number

-- the tree of a type, by those of the types that it leads to
abbrev pub definition_with : List Assignment → (ℕ → Named) → Definition → Named
definition_with names of types.Boolean = boolean
definition_with names of (types.Integer low high extensible) = integer low high extensible
definition_with names of (types.Enumerated parts) = enumerated parts.root (additions_of parts.additions) (is_extensible parts)
definition_with names of (types.BitString size) = bit_string size
definition_with names of (types.OctetString size) = octet_string size
definition_with names of (types.PrintableString size) = printable_string size
definition_with names of (types.Sequence members) =
    sequence (is_extensible members) (parts_with of members.root) (parts_with of (additions_of members.additions))
definition_with names of (types.Choice members) =
    choice (is_extensible members) (parts_with of members.root) (parts_with of (additions_of members.additions))
definition_with names of (types.SequenceOf size element) = sequence_of size (of element.number)
definition_with names of (types.Reference name) = referred_with of (referred names (types.Reference name))
definition_with names of (types.IeContainer set) = container (rows_with of (element_rows names (types.IeContainer set)))
definition_with names of (types.Pdu set) = pdu (procedures_with of (message_rows names (types.Pdu set)))

-- the tree of a type, at most so many steps deep
unfoldable pub named_by : ℕ → Syntax → ℕ → Named
named_by zero m id = boolean
named_by (suc steps) m id = definition_with m.assignments (named_by steps m) (definition_at m id)

-- No type leads to itself, so a step more than there are types and names is never taken.
unfoldable pub named : Syntax → ℕ → Named
named m id = named_by (length m.nodes + length m.assignments + 1) m id
