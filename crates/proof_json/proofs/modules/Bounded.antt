-- The types of a module are within the bounds on which JSON depends.
use Rattle.std.proofs.Common.{◌≡◌, ℕ, zero, suc, ◌+◌, ◌≤◌, List, [], ◌∷◌, length, refl, sym, ap, subst}
use Rattle.std.specs.Prelude.{Option, Some, None, is_some, slice_get}
use Rattle.asn1_syntax.specs.declared.types.definition.TypeId.{TypeId}
use Rattle.asn1_syntax.specs.declared.types.definition.Component.{Component}
use Rattle.asn1_syntax.specs.declared.types.definition.Definition.{Definition}
use Rattle.asn1_syntax.specs.declared.types.definition.Definition.TheVariants as types
use Rattle.asn1_syntax.specs.declared.types.definition.Node.{Node}
use Rattle.asn1_syntax.specs.types.Members.{additions_of}
use Rattle.asn1_syntax.specs.declared.assignments.assignment.IeRow.{IeRow}
use Rattle.asn1_syntax.specs.declared.assignments.assignment.ProcedureRow.{ProcedureRow}
use Rattle.asn1_syntax.specs.declared.assignments.assignment.Assignment.{Assignment}
use Rattle.asn1_syntax.specs.declared.assignments.assignment.Syntax.{Syntax}
use Rattle.proof_asn1.proofs.reading.Readings.{read_of}
use Rattle.asn1_defs.specs.Targets.{find_type, ie_rows, procedure_rows, definition_of, definition_at, all_of}
use Rattle.asn1_defs.specs.Modules.{IsModule}
use Rattle.proof_asn1_modules.specs.asn1_proof_module.Proper.{Each, IsWithin}
use Rattle.proof_asn1_modules.proofs.asn1_proof_module.ModuleBounds.{proper}
use Rattle.json_defs.specs.Named.{Named}
use Rattle.json_defs.specs.Shown.{count_of}
use Rattle.json_defs.specs.Bounds.{MayAdd, IsBounded, ArePartsBounded, AreRowsBounded, AreProceduresBounded, IsOutcomeBounded}
use Rattle.json_defs.specs.type_defs.Types.{parts_with, rows_with, outcome_with, procedures_with, referred_with, definition_with, named_by, named}

-- additions follow `...`
may_add : {T : Type 0} (additions : Option (List T)) → length (additions_of additions) ≤ 64
    → MayAdd (is_some additions) (length (additions_of additions))
may_add None h = refl
may_add (Some added) h = h

module _ (of : ℕ → Named) where
  parts_count : (cs : List Component) → count_of (parts_with of cs) ≡ length cs
  parts_count [] = refl
  parts_count (c ∷ cs) = ap suc (parts_count cs)

  module _ (each : (n : ℕ) → IsBounded (of n)) where
    parts_bounded : (cs : List Component) → ArePartsBounded (parts_with of cs)
    unfolding ArePartsBounded
    parts_bounded [] = tt
    parts_bounded (c ∷ cs) = (each c.definition.number, parts_bounded cs)

    rows_bounded : (rows : List IeRow) → AreRowsBounded (rows_with of rows)
    unfolding AreRowsBounded
    rows_bounded [] = tt
    rows_bounded (r ∷ rows) = (each r.definition.number, rows_bounded rows)

    outcome_bounded : (o : Option TypeId) → IsOutcomeBounded (outcome_with of o)
    unfolding IsOutcomeBounded
    outcome_bounded None = tt
    outcome_bounded (Some id) = each id.number

    procedures_bounded : (rows : List ProcedureRow) → AreProceduresBounded (procedures_with of rows)
    unfolding AreProceduresBounded IsOutcomeBounded
    procedures_bounded [] = tt
    procedures_bounded (r ∷ rows) =
        (each r.initiating.number, outcome_bounded r.successful, outcome_bounded r.unsuccessful, procedures_bounded rows)

    referred_bounded : (o : Option TypeId) → IsBounded (referred_with of o)
    unfolding IsBounded
    referred_bounded None = tt
    referred_bounded (Some id) = each id.number

    definition_bounded : (names : List Assignment) (d : Definition) → IsWithin d → IsBounded (definition_with names of d)
    unfolding IsBounded
    definition_bounded names types.Boolean h = tt
    definition_bounded names (types.Integer low high extensible) h = tt
    definition_bounded names (types.Enumerated parts) h = may_add parts.additions h.additions
    definition_bounded names (types.BitString size) h = tt
    definition_bounded names (types.OctetString size) h = tt
    definition_bounded names (types.PrintableString size) h = tt
    definition_bounded names (types.Sequence members) h = (parts_bounded members.root, parts_bounded (additions_of members.additions))
    definition_bounded names (types.Choice members) h = (
      subst (λ (n : ℕ). MayAdd (is_some members.additions) n) (sym (parts_count (additions_of members.additions)))
          (may_add members.additions h.additions),
      parts_bounded members.root,
      parts_bounded (additions_of members.additions),
    )
    definition_bounded names (types.SequenceOf size element) h = each element.number
    definition_bounded names (types.Reference name) h = referred_bounded (find_type name names)
    definition_bounded names (types.IeContainer set) h = rows_bounded (all_of (ie_rows set names))
    definition_bounded names (types.Pdu set) h = procedures_bounded (all_of (procedure_rows set names))

within_at : (nodes : List Node) (i : ℕ) → Each (λ node. IsWithin node.definition) nodes → IsWithin (definition_of (slice_get nodes i))
within_at [] i h = tt
within_at (node ∷ nodes) zero h = h.0
within_at (node ∷ nodes) (suc i) h = within_at nodes i h.1

bounded_by : (m : Syntax) → Each (λ node. IsWithin node.definition) m.nodes → (steps id : ℕ) → IsBounded (named_by steps m id)
unfolding named_by IsBounded
bounded_by m h zero id = tt
bounded_by m h (suc steps) id =
    definition_bounded (named_by steps m) (bounded_by m h steps) m.assignments (definition_at m id) (within_at m.nodes id h)

pub bounded : (m : Syntax) (id : ℕ) → IsModule m → IsBounded (named m id)
unfolding named
bounded m id is = bounded_by m (proper is.text m (read_of is.text m is.is)).types (length m.nodes + length m.assignments + 1) id
