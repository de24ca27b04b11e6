-- The types of a module nest at most sixty levels.
use Rattle.std.proofs.Common.{◌≡◌, ℕ, zero, suc, ◌+◌, ◌-◌, ◌<◌, ◌≤◌, List, [], ◌∷◌, ◌++◌, length, get_or, replicate, refl, ap, subst, inl, inr, ◌⊎◌, arith, Option, Some, None}
use Rattle.std.specs.Prelude.{slice_get, slice_index}
use Rattle.std.proofs.lemmas.Bool.{cases_lt}
use Rattle.asn1_syntax.specs.declared.types.definition.TypeId.{TypeId}
use Rattle.asn1_syntax.specs.declared.types.definition.Component.{Component}
use Rattle.asn1_syntax.specs.declared.types.definition.Definition.{Definition}
use Rattle.asn1_syntax.specs.declared.types.definition.Definition.TheVariants as types
use Rattle.asn1_syntax.specs.declared.types.definition.Node.{Node}
use Rattle.asn1_syntax.specs.types.Reading.{Left}
use Rattle.asn1_syntax.specs.types.Members.{additions_of}
use Rattle.asn1_syntax.specs.declared.assignments.assignment.IeRow.{IeRow}
use Rattle.asn1_syntax.specs.declared.assignments.assignment.ProcedureRow.{ProcedureRow}
use Rattle.asn1_syntax.specs.declared.assignments.assignment.Assignment.{Assignment}
use Rattle.asn1_syntax.specs.declared.assignments.assignment.Syntax.{Syntax}
use Rattle.asn1_defs.specs.declared.graph.Edge.{Edge}
use Rattle.asn1_defs.specs.Graph.{edge, range_edges, parts_edges, vertex_count, edges_of}
use Rattle.asn1_defs.specs.Paths.{IsAmong, Nests, alone, around}
use Rattle.asn1_defs.specs.Judgement.{weight_of, node_weights, weights_of}
use Rattle.asn1_defs.specs.Targets.{find_type, ie_rows, procedure_rows, definition_of, definition_at, all_of}
use Rattle.asn1_defs.specs.Modules.{IsModule}
use Rattle.asn1_defs.specs.ItemMeanings.{start_of}
use Rattle.asn1_defs.specs.ModuleMeanings as modules
use Rattle.asn1_defs.specs.ModuleMeanings.{MeansAssignments, MeansModule}
use Rattle.proof_asn1_modules.specs.ranks.Leading.{EachPart, OfOption, EachIe, EachProcedure, EachOf}
use Rattle.proof_asn1_modules.proofs.ranks.Steps.{among_left, among_right}
use Rattle.proof_asn1_modules.proofs.ranks.Inside.{each_more, range_has, name_step, Among, each_reached}
use Rattle.json_defs.specs.Named.{Named}
use Rattle.json_defs.specs.shown_defs.Levels.{levels, part_levels, row_levels, procedure_levels, outcome_levels}
use Rattle.json_defs.specs.type_defs.Types.{parts_with, rows_with, outcome_with, procedures_with, referred_with, definition_with, named_by, named}

-- ---- each type of a module stands in an assignment

abbrev Stands : ℕ → ℕ → List Assignment → ℕ → Type 0
Stands vertex start names id = (k : ℕ) × (k < length names) × IsAmong (edge (vertex + k) id) (parts_edges vertex start names)

stands : {nodes all : List Node} {names : List Assignment} {end : ℕ} {ts : Left} → MeansAssignments nodes ts names all end
    → (vertex id : ℕ) → length nodes ≤ id → id < length all → Stands vertex (length nodes) names id
unfolding parts_edges
stands (modules.none a) vertex id least most = absurd (omega (arith, least, most))
stands (modules.one {nodes} {inside} {all} {name} {body} {assignments} {ts} a means others) vertex id least most =
    go (cases_lt id (length inside)) (λ later. stands others (vertex + 1) id later most)
  where
    one : Assignment
    one = record { name = name; place = start_of ts; body = body; end = length inside }

    front : List Edge
    front = range_edges vertex (length nodes) (length inside - length nodes)

    behind : List Edge
    behind = parts_edges (vertex + 1) (length inside) assignments

    go : (id < length inside) ⊎ (length inside ≤ id)
        → (length inside ≤ id → Stands (vertex + 1) (length inside) assignments id) → Stands vertex (length nodes) (one ∷ assignments) id
    go (inl here) on = (
      0,
      omega arith,
      subst (λ (v : ℕ). IsAmong (edge v id) (front ++ behind)) (omega arith)
          (among_left (edge vertex id) front behind
          (range_has vertex (length nodes) (length inside - length nodes) id least (omega (arith, least, here)))),
    )
    go (inr later) on =
        let inner = on later in (
          suc inner.0,
          omega (arith, inner.1),
          among_right (edge (vertex + suc inner.0) id) front behind
              (subst (λ (v : ℕ). IsAmong (edge v id) behind) (omega arith) inner.2),
        )

abbrev Holder : Syntax → ℕ → Type 0
Holder m id = (k : ℕ) × (k < length m.assignments) × IsAmong (edge (length m.nodes + k) id) (parts_edges (length m.nodes) 0 m.assignments)

holder : {m : Syntax} {ts : Left} → MeansModule ts m → (id : ℕ) → id < length m.nodes → Holder m id
holder (modules.a_module {nodes = nodes} a b c d e f names) id lt = stands names (length nodes) id (omega arith) lt

-- ---- how deep types nest

abbrev IsUnder : Syntax → ℕ → ℕ → Type 0
IsUnder m v most = (d : ℕ) → Nests (vertex_count m) (edges_of m) (weights_of m) v d → d ≤ most

all_under : (m : Syntax) → IsModule m → (id : ℕ) → id < length m.nodes → IsUnder m id 60
all_under m is id lt d nests =
    let h = holder is.is.means id lt in
    elim (cases_lt 60 d) [
      | inl deep ↦ absurd (is.sound.shallow h.0 h.1 (
        slice_index (weights_of m) (length m.nodes + h.0) + d,
        around (name_step m h.0 id h.1 lt h.2) nests,
        omega (arith, deep),
      ))
      | inr few ↦ few
    ]

weight_at : (nodes : List Node) (more : List ℕ) (i : ℕ) → i < length nodes
    → get_or (node_weights nodes ++ more) i 0 ≡ weight_of (definition_of (slice_get nodes i))
unfolding node_weights
weight_at [] more i lt = absurd (omega (arith, lt))
weight_at (node ∷ nodes) more zero lt = refl
weight_at (node ∷ nodes) more (suc i) lt = weight_at nodes more i (omega (arith, lt))

module _ (of : ℕ → Named) (most : ℕ) where
  abbrev IsLow : ℕ → Type 0
  IsLow n = levels (of n) ≤ most

  parts_low : (cs : List Component) → EachPart IsLow cs → part_levels (parts_with of cs) ≤ most
  unfolding part_levels
  parts_low [] h = omega arith
  parts_low (c ∷ cs) h = omega (arith, h.0, parts_low cs h.1)

  rows_low : (rows : List IeRow) → EachIe IsLow rows → row_levels (rows_with of rows) ≤ most
  unfolding row_levels
  rows_low [] h = omega arith
  rows_low (r ∷ rows) h = omega (arith, h.0, rows_low rows h.1)

  outcome_low : (o : Option TypeId) → OfOption IsLow o → outcome_levels (outcome_with of o) ≤ most
  unfolding outcome_levels
  outcome_low None h = omega arith
  outcome_low (Some id) h = h

  procedures_low : (rows : List ProcedureRow) → EachProcedure IsLow rows → procedure_levels (procedures_with of rows) ≤ most
  unfolding procedure_levels outcome_levels
  procedures_low [] h = omega arith
  procedures_low (r ∷ rows) h =
      omega (arith, h.0.0, outcome_low r.successful h.0.1, outcome_low r.unsuccessful h.0.2, procedures_low rows h.1)

  referred_low : (o : Option TypeId) → OfOption IsLow o → levels (referred_with of o) ≤ most
  unfolding levels
  referred_low None h = omega arith
  referred_low (Some id) h = h

  definition_low : (names : List Assignment) (d : Definition) → EachOf IsLow names d → levels (definition_with names of d) ≤ weight_of d + most
  unfolding levels
  definition_low names (types.Sequence members) h =
      omega (arith, parts_low members.root h.0, parts_low (additions_of members.additions) h.1)
  definition_low names (types.Choice members) h =
      omega (arith, parts_low members.root h.0, parts_low (additions_of members.additions) h.1)
  definition_low names (types.SequenceOf size element) h = omega (arith, h)
  definition_low names (types.Reference name) h = omega (arith, referred_low (find_type name names) h)
  definition_low names (types.IeContainer set) h = omega (arith, rows_low (all_of (ie_rows set names)) h)
  definition_low names (types.Pdu set) h = omega (arith, procedures_low (all_of (procedure_rows set names)) h)
  definition_low names types.Boolean h = omega arith
  definition_low names (types.Integer low high extensible) h = omega arith
  definition_low names (types.Enumerated parts) h = omega arith
  definition_low names (types.BitString size) h = omega arith
  definition_low names (types.OctetString size) h = omega arith
  definition_low names (types.PrintableString size) h = omega arith

-- A type is no higher than what nests from it on: it adds its own weight, and what it leads to stands inside it.
low_by : (m : Syntax) → IsModule m → (steps id most : ℕ) → id < length m.nodes → IsUnder m id most → levels (named_by steps m id) ≤ most
unfolding named_by levels
low_by m is zero id most lt under = omega arith
low_by m is (suc steps) id most lt under =
    let own : ℕ = slice_index (weights_of m) id in
    let weight : own ≡ weight_of (definition_at m id) = weight_at m.nodes (replicate (length m.assignments) 0) id lt in
    let room : own ≤ most = under own (alone (omega (arith, lt))) in
    let inner : levels (definition_with m.assignments (named_by steps m) (definition_at m id)) ≤ weight_of (definition_at m id) + (most - own) =
    definition_low (named_by steps m) (most - own) m.assignments (definition_at m id)
    (each_more (Among m (λ v. IsUnder m v (most - own))) (λ n. levels (named_by steps m n) ≤ most - own)
    (λ n among. low_by m is steps n (most - own) among.0 among.1) m.assignments (definition_at m id)
    (each_reached m is (λ v. IsUnder m v (most - own))
    (λ k n at step d nests. omega (arith, at (slice_index (weights_of m) (length m.nodes + k) + d) (around step nests)))
    id lt (λ n step d nests. omega (arith, under (own + d) (around step nests)))))
    in
    omega (arith, weight, room, inner)

outside : (m : Syntax) (id steps : ℕ) → length m.nodes ≤ id → levels (named_by steps m id) ≡ 0
unfolding named_by levels
outside m id zero past = refl
outside m id (suc steps) past =
    ap (λ (d : Definition). levels (definition_with m.assignments (named_by steps m) d)) (none m.nodes id past)
  where
    none : (nodes : List Node) (i : ℕ) → length nodes ≤ i → definition_of (slice_get nodes i) ≡ types.Boolean
    none [] i past = refl
    none (node ∷ nodes) zero past = absurd (omega (arith, past))
    none (node ∷ nodes) (suc i) past = none nodes i (omega (arith, past))

pub low : (m : Syntax) (id : ℕ) → IsModule m → levels (named m id) ≤ 60
unfolding named
low m id is = elim (cases_lt id (length m.nodes)) [
  | inl lt ↦ low_by m is (length m.nodes + length m.assignments + 1) id 60 lt (all_under m is id lt)
  | inr past ↦ omega (arith, outside m id (length m.nodes + length m.assignments + 1) past)
]
