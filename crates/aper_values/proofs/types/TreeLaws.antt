-- The tree of a type is made of the trees of the types that it leads to.
use Rattle.std.proofs.Common.{◌≡◌, ℕ, zero, suc, ◌+◌, ◌<◌, List, [], ◌∷◌, length, refl, ap, ◌∙◌, arith}
use Rattle.std.specs.Prelude.{Option, Some, None}
use Rattle.asn1_syntax.specs.declared.types.definition.TypeId.{TypeId}
use Rattle.asn1_syntax.specs.declared.types.definition.Component.{Component}
use Rattle.asn1_syntax.specs.declared.types.definition.Definition.{Definition}
use Rattle.asn1_syntax.specs.declared.types.definition.Definition.TheVariants as types
use Rattle.asn1_syntax.specs.types.Members.{additions_of}
use Rattle.asn1_syntax.specs.declared.assignments.assignment.IeRow.{IeRow}
use Rattle.asn1_syntax.specs.declared.assignments.assignment.ProcedureRow.{ProcedureRow}
use Rattle.asn1_syntax.specs.declared.assignments.assignment.Assignment.{Assignment}
use Rattle.asn1_syntax.specs.declared.assignments.assignment.Syntax.{Syntax}
use Rattle.asn1_defs.specs.Targets.{find_type, ie_rows, procedure_rows, definition_at, all_of}
use Rattle.asn1_defs.specs.Modules.{IsModule}
use Rattle.aper_defs.specs.Trees.{Tree, Parts, Rows, part, row, outcome}
use Rattle.aper_values.specs.types.Types.{parts_of, is_mandatory, rows_of, outcome_of, procedures_of, named_tree, definition_tree, tree_by, tree}
use Rattle.proof_asn1_modules.specs.ranks.Leading.{EachPart, OfOption, EachIe, EachProcedure, EachOf, Lesser}
use Rattle.proof_asn1_modules.proofs.ranks.Ranks.{rank, rank_most}
use Rattle.proof_asn1_modules.proofs.ranks.Inside.{each_more, ranks_fall}

-- two trees for each number, which are one where they are asked
module _ (f g : ℕ → Tree) where
  abbrev Same : ℕ → Type 0
  Same n = f n ≡ g n

  parts_same : (cs : List Component) → EachPart Same cs → parts_of f cs ≡ parts_of g cs
  parts_same [] h = refl
  parts_same (c ∷ cs) h =
      ap (λ (t : Tree). part c.name c.optional t (parts_of f cs)) h.0
      ∙ ap (λ (ps : Parts). part c.name c.optional (g c.definition.number) ps) (parts_same cs h.1)

  rows_same : (rows : List IeRow) → EachIe Same rows → rows_of f rows ≡ rows_of g rows
  rows_same [] h = refl
  rows_same (r ∷ rows) h =
      ap (λ (t : Tree). row r.id (is_mandatory r.presence) t (rows_of f rows)) h.0
      ∙ ap (λ (rs : Rows). row r.id (is_mandatory r.presence) (g r.definition.number) rs) (rows_same rows h.1)

  outcome_same : (o : Option TypeId) → OfOption Same o → outcome_of f o ≡ outcome_of g o
  outcome_same None h = refl
  outcome_same (Some id) h = ap outcome h

  procedures_same : (rows : List ProcedureRow) → EachProcedure Same rows → procedures_of f rows ≡ procedures_of g rows
  procedures_same [] h = refl
  procedures_same (r ∷ rows) h =
      let first : f r.initiating.number ≡ g r.initiating.number = h.0.0 in
      let good = outcome_same r.successful h.0.1 in
      let bad = outcome_same r.unsuccessful h.0.2 in
      let others = procedures_same rows h.1 in
      cc

  named_same : (o : Option TypeId) → OfOption Same o → named_tree f o ≡ named_tree g o
  named_same None h = refl
  named_same (Some id) h = h

  definition_same : (names : List Assignment) (d : Definition) → EachOf Same names d → definition_tree names f d ≡ definition_tree names g d
  definition_same names (types.Sequence members) h =
      let root = parts_same members.root h.0 in
      let added = parts_same (additions_of members.additions) h.1 in
      cc
  definition_same names (types.Choice members) h =
      let root = parts_same members.root h.0 in
      let added = parts_same (additions_of members.additions) h.1 in
      cc
  definition_same names (types.SequenceOf size element) h = cc
  definition_same names (types.Reference name) h = named_same (find_type name names) h
  definition_same names (types.IeContainer set) h =
      let rows = rows_same (all_of (ie_rows set names)) h in
      cc
  definition_same names (types.Pdu set) h =
      let rows = procedures_same (all_of (procedure_rows set names)) h in
      cc
  definition_same names types.Boolean h = refl
  definition_same names (types.Integer low high extensible) h = refl
  definition_same names (types.Enumerated parts) h = refl
  definition_same names (types.BitString size) h = refl
  definition_same names (types.OctetString size) h = refl
  definition_same names (types.PrintableString size) h = refl

-- more steps than the rank of a type give one tree
steps_same : (m : Syntax) → IsModule m → (a b id : ℕ) → id < length m.nodes → rank m id < a → rank m id < b
    → tree_by a m id ≡ tree_by b m id
unfolding tree_by
steps_same m is zero b id lt fewer more = absurd (omega arith)
steps_same m is (suc a) zero id lt fewer more = absurd (omega arith)
steps_same m is (suc a) (suc b) id lt fewer more =
    definition_same (tree_by a m) (tree_by b m) m.assignments (definition_at m id)
    (each_more (Lesser m (rank m) id) (λ n. tree_by a m n ≡ tree_by b m n)
    (λ n less. steps_same m is a b n less.0 (omega (arith, less.1)) (omega (arith, less.1)))
    m.assignments (definition_at m id) (ranks_fall m is id lt))

pub tree_is : (m : Syntax) (id : ℕ) → IsModule m → id < length m.nodes
    → tree m id ≡ definition_tree m.assignments (tree m) (definition_at m id)
unfolding tree tree_by
tree_is m id is lt =
    let steps : ℕ = length m.nodes + length m.assignments in
    ap (λ (k : ℕ). tree_by k m id) (let one : steps + 1 ≡ suc steps = omega arith in one)
    ∙ definition_same (tree_by (length m.nodes + length m.assignments) m)
    (tree_by (length m.nodes + length m.assignments + 1) m) m.assignments (definition_at m id)
    (each_more (Lesser m (rank m) id) (λ n. tree_by (length m.nodes + length m.assignments) m n ≡ tree_by
    (length m.nodes + length m.assignments + 1) m n)
    (λ n less. steps_same m is (length m.nodes + length m.assignments) (length m.nodes + length m.assignments + 1) n less.0
    (omega (arith, less.1, rank_most m id)) (omega (arith, less.1, rank_most m id)))
    m.assignments (definition_at m id) (ranks_fall m is id lt))
