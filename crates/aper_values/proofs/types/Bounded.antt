-- The types of a module are within the bounds that an encoding depends on.
use Rattle.std.proofs.Common.{◌≡◌, ℕ, zero, suc, ◌+◌, ◌-◌, ◌^◌, ◌<◌, ◌≤◌, List, [], ◌∷◌, length, Bool, true, arith}
use Rattle.std.specs.Prelude.{Option, Some, None, slice_get, ℤ, pos, ◌+ℤ◌, ◌-ℤ◌}
use Rattle.std.specs.Int.Signed.{le_z}
use Rattle.std.specs.Int.{int_min}
use Rattle.std.proofs.lemmas.Int.{ints}
use Rattle.asn1_syntax.specs.declared.types.definition.Size.{Size}
use Rattle.asn1_syntax.specs.declared.types.definition.TypeId.{TypeId}
use Rattle.asn1_syntax.specs.declared.types.definition.Component.{Component}
use Rattle.asn1_syntax.specs.declared.types.definition.Definition.{Definition}
use Rattle.asn1_syntax.specs.declared.types.definition.Definition.TheVariants as types
use Rattle.asn1_syntax.specs.declared.types.definition.Node.{Node}
use Rattle.asn1_syntax.specs.types.Members.{additions_of}
use Rattle.asn1_syntax.specs.types.Sizes.{natural}
use Rattle.asn1_syntax.specs.declared.assignments.assignment.IeRow.{IeRow}
use Rattle.asn1_syntax.specs.declared.assignments.assignment.ProcedureRow.{ProcedureRow}
use Rattle.asn1_syntax.specs.declared.assignments.assignment.Assignment.{Assignment}
use Rattle.asn1_syntax.specs.declared.assignments.assignment.Syntax.{Syntax}
use Rattle.proof_asn1.proofs.reading.Readings.{read_of}
use Rattle.asn1_defs.specs.Targets.{find_type, ie_rows, procedure_rows, definition_of, definition_at, all_of}
use Rattle.asn1_defs.specs.Modules.{IsModule}
use Rattle.proof_asn1_modules.specs.asn1_proof_module.Proper.{Each, IsSize, IsTextSize, Maybe, IsRange, IsWithin}
use Rattle.proof_asn1_modules.proofs.asn1_proof_module.ModuleBounds.{proper}
use Rattle.aper_defs.specs.Trees.{Tree}
use Rattle.aper_defs.specs.Numbers.{above}
use Rattle.aper_defs.specs.Bounds.{IsSizeBounded, IsBounded, ArePartsBounded, AreRowsBounded, AreProceduresBounded, IsOutcomeBounded}
use Rattle.aper_values.proofs.types.Members.{part_count_is}
use Rattle.aper_values.specs.types.Types.{parts_of, rows_of, outcome_of, procedures_of, named_tree, definition_tree, tree_by, tree}

size_bounded : (size : Option Size) → Maybe IsSize size → IsSizeBounded size
size_bounded None h = tt
size_bounded (Some size) h = (h.ordered, h.bounded)

text_size_bounded : (size : Option Size) → Maybe IsTextSize size → IsSizeBounded size
text_size_bounded None h = tt
text_size_bounded (Some size) h = (h.is.ordered, h.is.bounded)

least_of : (a b c : ℤ) → le_z a (int_min b c) ≡ true → le_z a c ≡ true
least_of a b c h = grind (arith, ints)

above_fits : (low high : ℤ) (most : ℕ) → le_z low high ≡ true → le_z high (low +ℤ pos most) ≡ true → natural (high -ℤ low) ≤ most
above_fits low high most ordered least = grind (arith, ints)

range_bounded : (low high : ℤ) (extensible : Bool) → IsRange low high extensible → (le_z low high ≡ true) × (above low high < 2 ^ 64)
range_bounded low high extensible h =
    let fits = above_fits low high (2 ^ 64 - 1) h.ordered (least_of high (pos (2 ^ 64 - 1)) (low +ℤ pos (2 ^ 64 - 1)) h.greatest) in
    (h.ordered, omega (arith, fits))

module _ (of : ℕ → Tree) (each : (n : ℕ) → IsBounded (of n)) where
  parts_bounded : (cs : List Component) → ArePartsBounded (parts_of of cs)
  unfolding ArePartsBounded
  parts_bounded [] = tt
  parts_bounded (c ∷ cs) = (each c.definition.number, parts_bounded cs)

  rows_bounded : (rows : List IeRow) → AreRowsBounded (rows_of of rows)
  unfolding AreRowsBounded
  rows_bounded [] = tt
  rows_bounded (row ∷ rows) = (each row.definition.number, rows_bounded rows)

  outcome_bounded : (o : Option TypeId) → IsOutcomeBounded (outcome_of of o)
  unfolding IsOutcomeBounded
  outcome_bounded None = tt
  outcome_bounded (Some id) = each id.number

  procedures_bounded : (rows : List ProcedureRow) → AreProceduresBounded (procedures_of of rows)
  unfolding AreProceduresBounded IsOutcomeBounded
  procedures_bounded [] = tt
  procedures_bounded (row ∷ rows) =
      (each row.initiating.number, outcome_bounded row.successful, outcome_bounded row.unsuccessful, procedures_bounded rows)

  named_bounded : (o : Option TypeId) → IsBounded (named_tree of o)
  unfolding IsBounded
  named_bounded None = tt
  named_bounded (Some id) = each id.number

  definition_bounded : (names : List Assignment) (d : Definition) → IsWithin d → IsBounded (definition_tree names of d)
  unfolding IsBounded
  definition_bounded names types.Boolean h = tt
  definition_bounded names (types.Integer low high extensible) h = range_bounded low high extensible h
  definition_bounded names (types.Enumerated parts) h = (h.enough, h.root)
  definition_bounded names (types.BitString size) h = size_bounded size h
  definition_bounded names (types.OctetString size) h = size_bounded size h
  definition_bounded names (types.PrintableString size) h = text_size_bounded size h
  definition_bounded names (types.Sequence members) h = (parts_bounded members.root, parts_bounded (additions_of members.additions))
  definition_bounded names (types.Choice members) h = (
    omega (arith, h.enough, part_count_is of members.root),
    omega (arith, h.root, part_count_is of members.root),
    parts_bounded members.root,
    parts_bounded (additions_of members.additions),
  )
  definition_bounded names (types.SequenceOf size element) h = (size_bounded size h, each element.number)
  definition_bounded names (types.Reference name) h = named_bounded (find_type name names)
  definition_bounded names (types.IeContainer set) h = rows_bounded (all_of (ie_rows set names))
  definition_bounded names (types.Pdu set) h = procedures_bounded (all_of (procedure_rows set names))

within_at : (nodes : List Node) (i : ℕ) → Each (λ node. IsWithin node.definition) nodes → IsWithin (definition_of (slice_get nodes i))
within_at [] i h = tt
within_at (node ∷ nodes) zero h = h.0
within_at (node ∷ nodes) (suc i) h = within_at nodes i h.1

bounded_by : (m : Syntax) → Each (λ node. IsWithin node.definition) m.nodes → (steps id : ℕ) → IsBounded (tree_by steps m id)
unfolding tree_by IsBounded
bounded_by m h zero id = tt
bounded_by m h (suc steps) id =
    definition_bounded (tree_by steps m) (bounded_by m h steps) m.assignments (definition_at m id) (within_at m.nodes id h)

pub tree_bounded : (m : Syntax) (id : ℕ) → IsModule m → IsBounded (tree m id)
unfolding tree
tree_bounded m id is =
    bounded_by m (proper is.text m (read_of is.text m is.is)).types (length m.nodes + length m.assignments + 1) id
