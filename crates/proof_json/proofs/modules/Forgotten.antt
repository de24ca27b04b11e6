-- A type of a module without its names is the tree that an encoding depends on.
use Rattle.std.proofs.Common.{◌≡◌, ℕ, zero, suc, ◌+◌, List, [], ◌∷◌, length, refl, ap, ◌∙◌}
use Rattle.std.specs.Prelude.{Option, Some, None}
use Rattle.asn1_syntax.specs.declared.types.definition.TypeId.{TypeId}
use Rattle.asn1_syntax.specs.declared.types.definition.Component.{Component}
use Rattle.asn1_syntax.specs.declared.types.definition.Definition.{Definition}
use Rattle.asn1_syntax.specs.declared.types.definition.Definition.TheVariants as types
use Rattle.asn1_syntax.specs.types.Members.{additions_of}
use Rattle.asn1_syntax.specs.declared.assignments.assignment.IeRow.{IeRow}
use Rattle.asn1_syntax.specs.declared.assignments.assignment.ProcedureRow.{ProcedureRow}
use Rattle.asn1_syntax.specs.declared.assignments.assignment.Assignment.{Assignment}
use Rattle.asn1_syntax.specs.declared.assignments.assignment.Syntax.{Syntax}
use Rattle.asn1_defs.specs.Targets.{find_type, ie_rows, procedure_rows, definition_at, all_of}
use Rattle.aper_defs.specs.Trees.{Tree, Parts, Rows, part, row, outcome}
use Rattle.aper_values.specs.types.Types.{is_mandatory, definition_tree, tree_by, tree}
use Rattle.aper_values.specs.types.Types as trees
use Rattle.json_defs.specs.Named.{Named, tree_of, parts_of, rows_of, procedures_of, outcome_of}
use Rattle.json_defs.specs.type_defs.Types.{parts_with, rows_with, outcome_with, procedures_with, referred_with, definition_with, named_by, named}

-- trees with names and without them, for each number
module _ (f : ℕ → Named) (g : ℕ → Tree) (same : (n : ℕ) → tree_of (f n) ≡ g n) where
  parts_same : (cs : List Component) → parts_of (parts_with f cs) ≡ trees.parts_of g cs
  unfolding parts_of
  parts_same [] = refl
  parts_same (c ∷ cs) =
      ap (λ (t : Tree). part c.name c.optional t (parts_of (parts_with f cs))) (same c.definition.number)
      ∙ ap (λ (ps : Parts). part c.name c.optional (g c.definition.number) ps) (parts_same cs)

  rows_same : (rows : List IeRow) → rows_of (rows_with f rows) ≡ trees.rows_of g rows
  unfolding rows_of
  rows_same [] = refl
  rows_same (r ∷ rows) =
      ap (λ (t : Tree). row r.id (is_mandatory r.presence) t (rows_of (rows_with f rows))) (same r.definition.number)
      ∙ ap (λ (rs : Rows). row r.id (is_mandatory r.presence) (g r.definition.number) rs) (rows_same rows)

  outcome_same : (o : Option TypeId) → outcome_of (outcome_with f o) ≡ trees.outcome_of g o
  unfolding outcome_of
  outcome_same None = refl
  outcome_same (Some id) = ap outcome (same id.number)

  procedures_same : (rows : List ProcedureRow) → procedures_of (procedures_with f rows) ≡ trees.procedures_of g rows
  unfolding procedures_of outcome_of
  procedures_same [] = refl
  procedures_same (r ∷ rows) =
      let first : tree_of (f r.initiating.number) ≡ g r.initiating.number = same r.initiating.number in
      let good = outcome_same r.successful in
      let bad = outcome_same r.unsuccessful in
      let others = procedures_same rows in
      cc

  referred_same : (o : Option TypeId) → tree_of (referred_with f o) ≡ trees.named_tree g o
  unfolding tree_of
  referred_same None = refl
  referred_same (Some id) = same id.number

  definition_same : (names : List Assignment) (d : Definition) → tree_of (definition_with names f d) ≡ definition_tree names g d
  unfolding tree_of
  definition_same names (types.Sequence members) =
      let root = parts_same members.root in
      let added = parts_same (additions_of members.additions) in
      cc
  definition_same names (types.Choice members) =
      let root = parts_same members.root in
      let added = parts_same (additions_of members.additions) in
      cc
  definition_same names (types.SequenceOf size element) = let inner = same element.number in cc
  definition_same names (types.Reference name) = referred_same (find_type name names)
  definition_same names (types.IeContainer set) =
      let rows = rows_same (all_of (ie_rows set names)) in
      cc
  definition_same names (types.Pdu set) =
      let rows = procedures_same (all_of (procedure_rows set names)) in
      cc
  definition_same names types.Boolean = refl
  definition_same names (types.Integer low high extensible) = refl
  definition_same names (types.Enumerated parts) = refl
  definition_same names (types.BitString size) = refl
  definition_same names (types.OctetString size) = refl
  definition_same names (types.PrintableString size) = refl

by_steps : (m : Syntax) (steps id : ℕ) → tree_of (named_by steps m id) ≡ tree_by steps m id
unfolding named_by tree_by tree_of
by_steps m zero id = refl
by_steps m (suc steps) id =
    definition_same (named_by steps m) (tree_by steps m) (λ n. by_steps m steps n) m.assignments (definition_at m id)

pub forgotten : (m : Syntax) (id : ℕ) → tree_of (named m id) ≡ tree m id
unfolding named tree
forgotten m id = by_steps m (length m.nodes + length m.assignments + 1) id
