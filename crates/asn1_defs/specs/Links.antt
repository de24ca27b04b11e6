-- The numbers by which types refer to those inside them.
use Rattle.std.specs.Prelude.{ℕ, suc, ◌<◌, ◌≤◌, List, [], ◌∷◌, length, Option, Some, None}
use Rattle.asn1_syntax.specs.declared.types.definition.TypeId.{TypeId}
use Rattle.asn1_syntax.specs.declared.types.definition.Component.{Component}
use Rattle.asn1_syntax.specs.declared.types.definition.Extensible.{Extensible}
use Rattle.asn1_syntax.specs.declared.types.definition.Definition.{Definition}
use Rattle.asn1_syntax.specs.declared.types.definition.Definition.TheVariants as types
use Rattle.asn1_syntax.specs.declared.types.definition.Node.{Node}
use Rattle.asn1_syntax.specs.types.Members.{additions_of}
use Rattle.asn1_syntax.specs.declared.assignments.assignment.Body.{Body}
use Rattle.asn1_syntax.specs.declared.assignments.assignment.Body.TheVariants as bodies
use Rattle.asn1_syntax.specs.declared.assignments.assignment.IeRow.{IeRow}
use Rattle.asn1_syntax.specs.declared.assignments.assignment.ProcedureRow.{ProcedureRow}
use Rattle.asn1_syntax.specs.declared.assignments.assignment.Assignment.{Assignment}
use Rattle.asn1_syntax.specs.declared.assignments.assignment.Syntax.{Syntax}

-- the types of these members have numbers below n
abbrev pub AreBelow : ℕ → List Component → Type 0
AreBelow n [] = Unit {0}
AreBelow n (c ∷ cs) = (c.definition.number < n) × AreBelow n cs

abbrev pub PartsBelow : ℕ → Extensible Component → Type 0
PartsBelow n parts = AreBelow n parts.root × AreBelow n (additions_of parts.additions)

-- the types inside a type have numbers below n
abbrev pub IsInside : ℕ → Definition → Type 0
IsInside n (types.Sequence members) = PartsBelow n members
IsInside n (types.Choice members) = PartsBelow n members
IsInside n (types.SequenceOf size element) = element.number < n
IsInside n _ = Unit {0}

-- each type stands behind those inside it; the first of these has number n
abbrev pub AreOrdered : ℕ → List Node → Type 0
AreOrdered n [] = Unit {0}
AreOrdered n (node ∷ nodes) = IsInside n node.definition × AreOrdered (suc n) nodes

abbrev pub OptionBelow : ℕ → Option TypeId → Type 0
OptionBelow n None = Unit {0}
OptionBelow n (Some id) = id.number < n

abbrev pub IesBelow : ℕ → List IeRow → Type 0
IesBelow n [] = Unit {0}
IesBelow n (row ∷ rows) = (row.definition.number < n) × IesBelow n rows

abbrev pub ProceduresBelow : ℕ → List ProcedureRow → Type 0
ProceduresBelow n [] = Unit {0}
ProceduresBelow n (row ∷ rows) = ((row.initiating.number < n) × (OptionBelow n row.successful × OptionBelow n row.unsuccessful)) × ProceduresBelow n rows

abbrev pub BodyBelow : ℕ → Body → Type 0
BodyBelow n (bodies.Type definition) = definition.number < n
BodyBelow n (bodies.IeSet rows) = IesBelow n rows
BodyBelow n (bodies.ProcedureSet rows) = ProceduresBelow n rows

abbrev pub BodiesBelow : ℕ → List Assignment → Type 0
BodiesBelow n [] = Unit {0}
BodiesBelow n (a ∷ assignments) = BodyBelow n a.body × BodiesBelow n assignments

-- the types of these have numbers from n on
abbrev pub OptionFrom : ℕ → Option TypeId → Type 0
OptionFrom n None = Unit {0}
OptionFrom n (Some id) = n ≤ id.number

abbrev pub IesFrom : ℕ → List IeRow → Type 0
IesFrom n [] = Unit {0}
IesFrom n (row ∷ rows) = (n ≤ row.definition.number) × IesFrom n rows

abbrev pub ProceduresFrom : ℕ → List ProcedureRow → Type 0
ProceduresFrom n [] = Unit {0}
ProceduresFrom n (row ∷ rows) = ((n ≤ row.initiating.number) × (OptionFrom n row.successful × OptionFrom n row.unsuccessful)) × ProceduresFrom n rows

abbrev pub BodyFrom : ℕ → Body → Type 0
BodyFrom n (bodies.Type definition) = n ≤ definition.number
BodyFrom n (bodies.IeSet rows) = IesFrom n rows
BodyFrom n (bodies.ProcedureSet rows) = ProceduresFrom n rows

-- the types of each assignment stand from the end of the one before on, up to its own; the first begins with number n
abbrev pub AreParted : ℕ → List Assignment → Type 0
AreParted n [] = Unit {0}
AreParted n (a ∷ assignments) = BodyFrom n a.body × BodyBelow a.end a.body × AreParted a.end assignments

-- each number in a module is that of one of its types, and types inside another one have lesser numbers than it
pub record IsLinked (s : Syntax) : Type 0 where
  pub types : AreOrdered 0 s.nodes
  pub assignments : BodiesBelow (length s.nodes) s.assignments
  pub parts : AreParted 0 s.assignments
