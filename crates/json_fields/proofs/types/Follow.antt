-- Names are followed to the end, and the forms of types with names.
use Rattle.std.proofs.Common.{◌≡◌, ℕ, ◌<◌, List, [], ◌∷◌, length, Bool, sym, ap, ◌∙◌, subst, arith}
use Rattle.std.specs.Prelude.{Option, Some, None, IsSome, ℤ}
use Rattle.std.proofs.lemmas.Int.{to_z-of_z}
use mir.Syntax.{w128}
use mir.Val.{to_z, of_z, SFits}
use Rattle.asn1_syntax.specs.declared.types.definition.TypeId.{TypeId}
use Rattle.asn1_syntax.specs.declared.types.definition.Component.{Component}
use Rattle.asn1_syntax.specs.declared.types.definition.Extensible.{Extensible}
use Rattle.asn1_syntax.specs.declared.types.definition.Definition.{Definition}
use Rattle.asn1_syntax.specs.declared.types.definition.Definition.TheVariants as types
use Rattle.asn1_syntax.specs.types.Members.{additions_of}
use Rattle.asn1_syntax.specs.declared.assignments.assignment.IeRow.{IeRow}
use Rattle.asn1_syntax.specs.declared.assignments.assignment.ProcedureRow.{ProcedureRow}
use Rattle.asn1_syntax.specs.declared.assignments.assignment.Assignment.{Assignment}
use Rattle.asn1_syntax.specs.declared.assignments.assignment.Syntax.{Syntax}
use Rattle.asn1_defs.specs.Modules.{IsModule}
use Rattle.asn1_defs.specs.Targets.{find_type, HasTarget, definition_at, referred, element_rows, message_rows}
use Rattle.asn1_defs.specs.Links.{AreBelow, PartsBelow, IsInside}
use Rattle.json_defs.specs.Named.{Named, integer, container, pdu}
use Rattle.json_defs.specs.type_defs.Types.{rows_with, procedures_with, definition_with}
use Rattle.proof_asn1_modules.specs.ranks.Leading.{OfOption, EachOf, Lesser}
use Rattle.proof_asn1_modules.proofs.ranks.Ranks.{rank}
use Rattle.proof_asn1_modules.proofs.ranks.Inside.{ranks_fall}

named_has : (P : ℕ → Type 0) (names : List Assignment) (d : Definition) (next : TypeId) → referred names d ≡ Some next → EachOf P names d
    → P next.number
named_has P names (types.Reference name) next h each = subst (OfOption P) h each
named_has P names (types.Sequence members) next h each = cc
named_has P names (types.Choice members) next h each = cc
named_has P names (types.SequenceOf size element) next h each = cc
named_has P names (types.IeContainer set) next h each = cc
named_has P names (types.Pdu set) next h each = cc
named_has P names types.Boolean next h each = cc
named_has P names (types.Integer low high extensible) next h each = cc
named_has P names (types.Enumerated parts) next h each = cc
named_has P names (types.BitString size) next h each = cc
named_has P names (types.OctetString size) next h each = cc
named_has P names (types.PrintableString size) next h each = cc

-- the type that a name refers to has a lesser rank
pub rank_follows : (m : Syntax) (id : ℕ) (next : TypeId) → IsModule m → id < length m.nodes
    → Some next ≡ referred m.assignments (definition_at m id) → rank m next.number < rank m id
rank_follows m id next is lt found =
    (named_has (Lesser m (rank m) id) m.assignments (definition_at m id) next (sym found) (ranks_fall m is id lt)).1

-- a name refers to something
pub no_name : (names : List Assignment) (d : Definition) (name : List ℕ) → d ≡ types.Reference name → HasTarget names d
    → None ≡ referred names d → ⊥
no_name names d name is has none = clash (find_type name names) (subst (HasTarget names) is has) (none ∙ ap (referred names) is)
  where
    clash : (o : Option TypeId) → IsSome o → None ≡ o → ⊥
    clash None h e = cc
    clash (Some id) h e = cc

-- ---- what stands at a number, as a form

pub integer_shown : (of : ℕ → Named) (names : List Assignment) (d : Definition) (low high : ℤ) (extensible : Bool) → SFits w128 low
    → SFits w128 high → d ≡ types.Integer low high extensible
    → definition_with names of d ≡ integer (to_z w128 (of_z w128 low)) (to_z w128 (of_z w128 high)) extensible
integer_shown of names d low high extensible l h is =
    ap (definition_with names of) is
    ∙ ap (λ (z : ℤ). integer z high extensible) (sym (to_z-of_z w128 low l))
    ∙ ap (λ (z : ℤ). integer (to_z w128 (of_z w128 low)) z extensible) (sym (to_z-of_z w128 high h))

pub container_shown : (of : ℕ → Named) (names : List Assignment) (d : Definition) (set : List ℕ) (rows : List IeRow)
    → d ≡ types.IeContainer set → rows ≡ element_rows names d
    → definition_with names of d ≡ container (rows_with of rows)
container_shown of names d set rows is are =
    ap (definition_with names of) is ∙ ap (λ (rs : List IeRow). container (rows_with of rs)) (sym (are ∙ ap (element_rows names) is))

pub pdu_shown : (of : ℕ → Named) (names : List Assignment) (d : Definition) (set : List ℕ) (rows : List ProcedureRow) → d ≡ types.Pdu set
    → rows ≡ message_rows names d
    → definition_with names of d ≡ pdu (procedures_with of rows)
pdu_shown of names d set rows is are =
    ap (definition_with names of) is ∙ ap (λ (rs : List ProcedureRow). pdu (procedures_with of rs)) (sym (are ∙ ap (message_rows names) is))

below_up : (n m : ℕ) (cs : List Component) → n < m → AreBelow n cs → AreBelow m cs
below_up n m [] lt below = tt
below_up n m (c ∷ cs) lt below = (omega (arith, below.0), below_up n m cs lt below.1)

parts_up : (n m : ℕ) (members : Extensible Component) → n < m → PartsBelow n members → PartsBelow m members
parts_up n m members lt below = (below_up n m members.root lt below.0, below_up n m (additions_of members.additions) lt below.1)

pub sequence_inside : (n m : ℕ) (d : Definition) (members : Extensible Component) → n < m → IsInside n d → d ≡ types.Sequence members
    → PartsBelow m members
sequence_inside n m d members lt inside is = parts_up n m members lt (subst (IsInside n) is inside)

pub choice_inside : (n m : ℕ) (d : Definition) (members : Extensible Component) → n < m → IsInside n d → d ≡ types.Choice members
    → PartsBelow m members
choice_inside n m d members lt inside is = parts_up n m members lt (subst (IsInside n) is inside)
