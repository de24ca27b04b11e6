-- What a type of a module leads to: the types inside it, that of its name, and those in its set.
use Rattle.std.specs.Prelude.{ℕ, ◌<◌, ◌≤◌, List, [], ◌∷◌, length, Option, Some, None}
use Rattle.asn1_syntax.specs.declared.types.definition.TypeId.{TypeId}
use Rattle.asn1_syntax.specs.declared.types.definition.Component.{Component}
use Rattle.asn1_syntax.specs.declared.types.definition.Definition.{Definition}
use Rattle.asn1_syntax.specs.declared.types.definition.Definition.TheVariants as types
use Rattle.asn1_syntax.specs.types.Members.{additions_of}
use Rattle.asn1_syntax.specs.declared.assignments.assignment.IeRow.{IeRow}
use Rattle.asn1_syntax.specs.declared.assignments.assignment.ProcedureRow.{ProcedureRow}
use Rattle.asn1_syntax.specs.declared.assignments.assignment.Body.{Body}
use Rattle.asn1_syntax.specs.declared.assignments.assignment.Body.TheVariants as bodies
use Rattle.asn1_syntax.specs.declared.assignments.assignment.Assignment.{Assignment}
use Rattle.asn1_syntax.specs.declared.assignments.assignment.Syntax.{Syntax}
use Rattle.asn1_defs.specs.Graph.{vertex_count}
use Rattle.asn1_defs.specs.Targets.{find_type, ie_rows, procedure_rows, definition_at, all_of}

-- Each type that stands there has a property of its number.

abbrev pub EachPart : (ℕ → Type 0) → List Component → Type 0
EachPart P [] = Unit {0}
EachPart P (c ∷ cs) = P c.definition.number × EachPart P cs

abbrev pub OfOption : (ℕ → Type 0) → Option TypeId → Type 0
OfOption P None = Unit {0}
OfOption P (Some id) = P id.number

abbrev pub EachIe : (ℕ → Type 0) → List IeRow → Type 0
EachIe P [] = Unit {0}
EachIe P (row ∷ rows) = P row.definition.number × EachIe P rows

abbrev pub EachProcedure : (ℕ → Type 0) → List ProcedureRow → Type 0
EachProcedure P [] = Unit {0}
EachProcedure P (row ∷ rows) = (P row.initiating.number × OfOption P row.successful × OfOption P row.unsuccessful) × EachProcedure P rows

abbrev pub EachOfBody : (ℕ → Type 0) → Body → Type 0
EachOfBody P (bodies.Type id) = P id.number
EachOfBody P (bodies.IeSet rows) = EachIe P rows
EachOfBody P (bodies.ProcedureSet rows) = EachProcedure P rows

abbrev pub EachOf : (ℕ → Type 0) → List Assignment → Definition → Type 0
EachOf P names (types.Sequence members) = EachPart P members.root × EachPart P (additions_of members.additions)
EachOf P names (types.Choice members) = EachPart P members.root × EachPart P (additions_of members.additions)
EachOf P names (types.SequenceOf size element) = P element.number
EachOf P names (types.Reference name) = OfOption P (find_type name names)
EachOf P names (types.IeContainer set) = EachIe P (all_of (ie_rows set names))
EachOf P names (types.Pdu set) = EachProcedure P (all_of (procedure_rows set names))
EachOf P names _ = Unit {0}

-- a type of the module of lesser rank than this one
abbrev pub Lesser : Syntax → (ℕ → ℕ) → ℕ → ℕ → Type 0
Lesser m rank id n = (n < length m.nodes) × (rank n < rank id)

-- a number for each type that falls along each step
pub record IsRank (m : Syntax) (rank : ℕ → ℕ) : Type 0 where
  pub most : (id : ℕ) → rank id ≤ vertex_count m
  pub falls : (id : ℕ) → id < length m.nodes → EachOf (Lesser m rank id) m.assignments (definition_at m id)
