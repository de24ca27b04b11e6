-- A type of a module with its names is what its definition says, and a name of a type stands for the type that it refers to.
use Rattle.std.proofs.Common.{◌≡◌, ℕ, zero, suc, ◌+◌, ◌<◌, List, [], ◌∷◌, length, refl, ap, ◌∙◌, arith}
use Rattle.std.specs.Prelude.{Option, Some, None}
use Rattle.asn1_syntax.specs.declared.types.definition.TypeId.{TypeId}
use Rattle.asn1_syntax.specs.declared.types.definition.Component.{Component}
use Rattle.asn1_syntax.specs.declared.types.definition.Definition.{Definition}
use Rattle.asn1_syntax.specs.declared.types.definition.Definition.TheVariants as types
use Rattle.asn1_syntax.specs.types.Members.{additions_of}
use Rattle.asn1_syntax.specs.declared.assignments.assignment.IeRow.{IeRow}
use Rattle.asn1_syntax.specs.declared.assignments.assignment.ProcedureRow.{ProcedureRow}
use Rattle.asn1_syntax.specs.declared.assignments.assignment.Assignment.{Assignment}
use Rattle.asn1_syntax.specs.declared.assignments.assignment.Syntax.{Syntax}
use Rattle.asn1_defs.specs.Modules.{IsModule}
use Rattle.asn1_defs.specs.Targets.{find_type, ie_rows, procedure_rows, definition_at, referred, all_of}
use Rattle.proof_asn1_modules.specs.ranks.Leading.{EachPart, OfOption, EachIe, EachProcedure, EachOf, Lesser}
use Rattle.proof_asn1_modules.proofs.ranks.Ranks.{rank, rank_most}
use Rattle.proof_asn1_modules.proofs.ranks.Inside.{each_more, ranks_fall}
use Rattle.aper_values.specs.types.Types.{is_mandatory}
use Rattle.json_defs.specs.Named.{Named, NamedParts, NamedRows, part, row, outcome}
use Rattle.json_defs.specs.type_defs.Types.{parts_with, rows_with, outcome_with, procedures_with, referred_with, definition_with, named_by, named}

-- two trees for each number, which are one where they are asked
module _ (f g : ℕ → Named) where
  abbrev Same : ℕ → Type 0
  Same n = f n ≡ g n

  parts_same : (cs : List Component) → EachPart Same cs → parts_with f cs ≡ parts_with g cs
  parts_same [] h = refl
  parts_same (c ∷ cs) h =
      ap (λ (t : Named). part c.name c.optional t (parts_with f cs)) h.0
      ∙ ap (λ (ps : NamedParts). part c.name c.optional (g c.definition.number) ps) (parts_same cs h.1)

  rows_same : (rows : List IeRow) → EachIe Same rows → rows_with f rows ≡ rows_with g rows
  rows_same [] h = refl
  rows_same (r ∷ rows) h =
      ap (λ (t : Named). row r.id (is_mandatory r.presence) t (rows_with f rows)) h.0
      ∙ ap (λ (rs : NamedRows). row r.id (is_mandatory r.presence) (g r.definition.number) rs) (rows_same rows h.1)

  outcome_same : (o : Option TypeId) → OfOption Same o → outcome_with f o ≡ outcome_with g o
  outcome_same None h = refl
  outcome_same (Some id) h = ap outcome h

  procedures_same : (rows : List ProcedureRow) → EachProcedure Same rows → procedures_with f rows ≡ procedures_with g rows
  procedures_same [] h = refl
  procedures_same (r ∷ rows) h =
      let first : f r.initiating.number ≡ g r.initiating.number = h.0.0 in
      let good = outcome_same r.successful h.0.1 in
      let bad = outcome_same r.unsuccessful h.0.2 in
      let others = procedures_same rows h.1 in
      cc

  referred_same : (o : Option TypeId) → OfOption Same o → referred_with f o ≡ referred_with g o
  referred_same None h = refl
  referred_same (Some id) h = h

  definition_same : (names : List Assignment) (d : Definition) → EachOf Same names d → definition_with names f d ≡ definition_with names g d
  definition_same names (types.Sequence members) h =
      let root = parts_same members.root h.0 in
      let added = parts_same (additions_of members.additions) h.1 in
      cc
  definition_same names (types.Choice members) h =
      let root = parts_same members.root h.0 in
      let added = parts_same (additions_of members.additions) h.1 in
      cc
  definition_same names (types.SequenceOf size element) h = cc
  definition_same names (types.Reference name) h = referred_same (find_type name names) h
  definition_same names (types.IeContainer set) h =
      let rows = rows_same (all_of (ie_rows set names)) h in
      cc
  definition_same names (types.Pdu set) h =
      let rows = procedures_same (all_of (procedure_rows set names)) h in
      cc
  definition_same names types.Boolean h = refl
  definition_same names (types.Integer low high extensible) h = refl
  definition_same names (types.Enumerated parts) h = refl
  definition_same names (types.BitString size) h = refl
  definition_same names (types.OctetString size) h = refl
  definition_same names (types.PrintableString size) h = refl

-- more steps than the rank of a type give one tree
steps_same : (m : Syntax) → IsModule m → (a b id : ℕ) → id < length m.nodes → rank m id < a → rank m id < b
    → named_by a m id ≡ named_by b m id
unfolding named_by
steps_same m is zero b id lt fewer more = absurd (omega arith)
steps_same m is (suc a) zero id lt fewer more = absurd (omega arith)
steps_same m is (suc a) (suc b) id lt fewer more =
    definition_same (named_by a m) (named_by b m) m.assignments (definition_at m id)
    (each_more (Lesser m (rank m) id) (λ n. named_by a m n ≡ named_by b m n)
    (λ n less. steps_same m is a b n less.0 (omega (arith, less.1)) (omega (arith, less.1)))
    m.assignments (definition_at m id) (ranks_fall m is id lt))

pub named_is : (m : Syntax) (id : ℕ) → IsModule m → id < length m.nodes
    → named m id ≡ definition_with m.assignments (named m) (definition_at m id)
unfolding named named_by
named_is m id is lt =
    let steps : ℕ = length m.nodes + length m.assignments in
    ap (λ (k : ℕ). named_by k m id) (let one : steps + 1 ≡ suc steps = omega arith in one)
    ∙ definition_same (named_by (length m.nodes + length m.assignments) m)
    (named_by (length m.nodes + length m.assignments + 1) m) m.assignments (definition_at m id)
    (each_more (Lesser m (rank m) id) (λ n. named_by (length m.nodes + length m.assignments) m n ≡ named_by
    (length m.nodes + length m.assignments + 1) m n)
    (λ n less. steps_same m is (length m.nodes + length m.assignments) (length m.nodes + length m.assignments + 1) n less.0
    (omega (arith, less.1, rank_most m id)) (omega (arith, less.1, rank_most m id)))
    m.assignments (definition_at m id) (ranks_fall m is id lt))

-- ---- a name has the tree of the type that it refers to
referred_is : (of : ℕ → Named) (names : List Assignment) (d : Definition) (next : TypeId) → referred names d ≡ Some next
    → definition_with names of d ≡ of next.number
referred_is of names (types.Reference name) next h = ap (referred_with of) h
referred_is of names (types.Sequence members) next h = cc
referred_is of names (types.Choice members) next h = cc
referred_is of names (types.SequenceOf size element) next h = cc
referred_is of names (types.IeContainer set) next h = cc
referred_is of names (types.Pdu set) next h = cc
referred_is of names types.Boolean next h = cc
referred_is of names (types.Integer low high extensible) next h = cc
referred_is of names (types.Enumerated parts) next h = cc
referred_is of names (types.BitString size) next h = cc
referred_is of names (types.OctetString size) next h = cc
referred_is of names (types.PrintableString size) next h = cc

pub name_follows : (m : Syntax) (id : ℕ) (next : TypeId) → IsModule m → id < length m.nodes
    → referred m.assignments (definition_at m id) ≡ Some next → named m id ≡ named m next.number
name_follows m id next is lt found = named_is m id is lt ∙ referred_is (named m) m.assignments (definition_at m id) next found
