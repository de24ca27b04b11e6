-- The bounds of the profile's types, and what a module gives once, apart from how modules are read.
use Rattle.std.specs.Prelude.{◌≡◌, ℕ, ◌-◌, ◌^◌, ◌≤◌, ◌<◌, List, [], ◌∷◌, length, map, Bool, true, Option, Some, None, ℤ, pos, negsuc, ◌+ℤ◌}
use Rattle.std.specs.Int.Signed.{le_z}
use Rattle.std.specs.Int.{int_min}
use Rattle.asn1_syntax.specs.declared.types.definition.Size.{Size}
use Rattle.asn1_syntax.specs.declared.types.definition.Component.{Component}
use Rattle.asn1_syntax.specs.declared.types.definition.Extensible.{Extensible}
use Rattle.asn1_syntax.specs.declared.types.definition.Definition.{Definition}
use Rattle.asn1_syntax.specs.declared.types.members.Group.TheVariants as groups
use Rattle.asn1_syntax.specs.types.Shapes.{Content, Nothing, Interval, NameList, StringSize, TextSize, Parts, Simple, Composed, Elements, parts_of}
use Rattle.asn1_syntax.specs.types.Members.{all_parts, additions_of}
use Rattle.asn1_syntax.specs.declared.assignments.assignment.IeRow.{IeRow}
use Rattle.asn1_syntax.specs.declared.assignments.assignment.ProcedureRow.{ProcedureRow}
use Rattle.asn1_syntax.specs.declared.assignments.assignment.Body.{Body}
use Rattle.asn1_syntax.specs.declared.assignments.assignment.Body.TheVariants as bodies
use Rattle.asn1_syntax.specs.declared.assignments.assignment.Assignment.{Assignment}
use Rattle.asn1_syntax.specs.declared.assignments.assignment.Syntax.{Syntax}

-- it is none of these
abbrev pub IsNew : {A : Type 0} → A → List A → Type 0
IsNew x [] = Unit {0}
IsNew x (y ∷ ys) = (y ≡ x → ⊥) × IsNew x ys

-- each of these is given once
abbrev pub AreOnce : {A : Type 0} → List A → Type 0
AreOnce [] = Unit {0}
AreOnce (x ∷ xs) = IsNew x xs × AreOnce xs

-- each of these is so
abbrev pub Each : {A : Type 0} → (A → Type 0) → List A → Type 0
Each P [] = Unit {0}
Each P (x ∷ xs) = P x × Each P xs

-- a size: one number, or a lower and a higher one
pub record IsSize (size : Size) : Type 0 where
  pub positive : 1 ≤ size.low
  pub ordered : size.low ≤ size.high
  pub bounded : size.high < 65536

-- that of a PrintableString varies
pub record IsTextSize (size : Size) : Type 0 where
  pub is : IsSize size
  pub varies : size.low < size.high
  pub enough : 3 ≤ size.high

abbrev pub Maybe : (Size → Type 0) → Option Size → Type 0
Maybe P None = Unit {0}
Maybe P (Some size) = P size

-- From -2^63 on; the greatest is neither above 2^64 - 1 nor 2^64 or more above the least, and with `...` it is below 2^63.
pub record IsRange (low high : ℤ) (extensible : Bool) : Type 0 where
  pub least : le_z (negsuc (2 ^ 63 - 1)) low ≡ true
  pub ordered : le_z low high ≡ true
  pub greatest : le_z high (int_min (pos (2 ^ 64 - 1)) (low +ℤ pos (2 ^ 64 - 1))) ≡ true
  pub signed : extensible ≡ true → le_z high (pos (2 ^ 63 - 1)) ≡ true

-- so many parts at least in the root, 256 at most, and 64 additions; each name once
pub record AreParts {T : Type 0} (least : ℕ) (name : T → List ℕ) (parts : Extensible T) : Type 0 where
  pub enough : least ≤ length parts.root
  pub root : length parts.root ≤ 256
  pub additions : length (additions_of parts.additions) ≤ 64
  pub names : AreOnce (map name (all_parts parts))

abbrev pub component_name : Component → List ℕ
component_name component = component.name

abbrev pub own_name : List ℕ → List ℕ
own_name name = name

-- what follows the word of a type is within the bounds
abbrev pub IsContentWithin : Content → Type 0
IsContentWithin Nothing = Unit {0}
IsContentWithin (Interval low high extensible) = IsRange low high extensible
IsContentWithin (NameList names) = AreParts 1 own_name names
IsContentWithin (StringSize size) = Maybe IsSize size
IsContentWithin (TextSize size) = Maybe IsTextSize size

abbrev pub ArePartsWithin : Parts → Type 0
ArePartsWithin (Simple word content) = IsContentWithin content
ArePartsWithin (Composed groups.Sequence members) = AreParts 0 component_name members
ArePartsWithin (Composed groups.Choice members) = AreParts 1 component_name members
ArePartsWithin (Elements size element) = Maybe IsSize size
ArePartsWithin _ = Unit {0}

-- a type within the bounds
abbrev pub IsWithin : Definition → Type 0
IsWithin definition = ArePartsWithin (parts_of definition)

abbrev pub ie_id : IeRow → ℕ
ie_id row = row.id

abbrev pub procedure_code : ProcedureRow → ℕ
procedure_code row = row.code

abbrev pub IsBodyWithin : Body → Type 0
IsBodyWithin (bodies.Type id) = Unit {0}
IsBodyWithin (bodies.IeSet rows) = Each (λ id. id < 65536) (map ie_id rows) × AreOnce (map ie_id rows)
IsBodyWithin (bodies.ProcedureSet rows) = Each (λ code. code < 256) (map procedure_code rows) × AreOnce (map procedure_code rows)

abbrev pub name_of : Assignment → List ℕ
name_of assignment = assignment.name

-- A module within the bounds, which gives each name, id and code once. That it has at most a thousand types is said elsewhere.
pub record IsProper (m : Syntax) : Type 0 where
  pub types : Each (λ node. IsWithin node.definition) m.nodes
  pub sets : Each (λ assignment. IsBodyWithin assignment.body) m.assignments
  pub names : AreOnce (map name_of m.assignments)
