-- What a type of a module leads to: the types inside it, that of its name, and those in its set. Each has a lesser rank.
use Rattle.std.proofs.Common.{◌≡◌, ℕ, zero, suc, ◌+◌, ◌-◌, ◌<◌, ◌≤◌, List, [], ◌∷◌, ◌++◌, length, refl, sym, ap, subst, inl, inr, arith}
use Rattle.std.specs.Prelude.{Option, Some, None, slice_get, option_map}
use Rattle.std.proofs.lemmas.Option.{slice_get_within}
use Rattle.std.proofs.lemmas.Bool.{cases_lt}
use Rattle.asn1_syntax.specs.declared.types.definition.TypeId.{TypeId}
use Rattle.asn1_syntax.specs.declared.types.definition.Component.{Component}
use Rattle.asn1_syntax.specs.declared.types.definition.Definition.{Definition}
use Rattle.asn1_syntax.specs.declared.types.definition.Definition.TheVariants as types
use Rattle.asn1_syntax.specs.declared.types.definition.Node.{Node}
use Rattle.asn1_syntax.specs.types.Members.{additions_of}
use Rattle.asn1_syntax.specs.declared.assignments.assignment.Body.{Body}
use Rattle.asn1_syntax.specs.declared.assignments.assignment.Body.TheVariants as bodies
use Rattle.asn1_syntax.specs.declared.assignments.assignment.IeRow.{IeRow}
use Rattle.asn1_syntax.specs.declared.assignments.assignment.ProcedureRow.{ProcedureRow}
use Rattle.asn1_syntax.specs.declared.assignments.assignment.Assignment.{Assignment}
use Rattle.asn1_syntax.specs.declared.assignments.assignment.Syntax.{Syntax}
use Rattle.asn1_defs.specs.declared.graph.Edge.{Edge}
use Rattle.asn1_syntax.specs.assignments.Index.{number_of}
use Rattle.asn1_defs.specs.Graph.{edge, member_edges, numbered_edges, node_edges, nodes_edges, range_edges, parts_edges, vertex_count, edges_of}
use Rattle.asn1_defs.specs.Paths.{IsAmong, IsStep}
use Rattle.asn1_defs.specs.Links.{AreBelow, IsInside, AreOrdered, OptionBelow, IesBelow, ProceduresBelow, BodyBelow, BodiesBelow, OptionFrom, IesFrom, ProceduresFrom, BodyFrom, AreParted}
use Rattle.asn1_defs.specs.Targets.{type_of, find_type, ie_rows_of, ie_rows, procedure_rows_of, procedure_rows, definition_of, definition_at, all_of}
use Rattle.asn1_defs.specs.Modules.{IsModule}
use Rattle.asn1_module.specs.Numbers.{body_at, found_in}
use Rattle.asn1_module.proofs.NamesByNumber.{type_numbered, ies_numbered, procedures_numbered}
use Rattle.proof_asn1_modules.specs.ranks.Leading.{EachPart, OfOption, EachIe, EachProcedure, EachOfBody, EachOf, Lesser, IsRank}
use Rattle.proof_asn1_modules.proofs.ranks.Ranks.{rank, rank_most, rank_falls}
use Rattle.proof_asn1_modules.proofs.ranks.Steps.{among_left, among_right, finite}

-- ---- a property of each type that a type leads to

module _ (P Q : ℕ → Type 0) (more : (n : ℕ) → P n → Q n) where
  parts_more : (cs : List Component) → EachPart P cs → EachPart Q cs
  parts_more [] h = tt
  parts_more (c ∷ cs) h = (more c.definition.number h.0, parts_more cs h.1)

  option_more : (o : Option TypeId) → OfOption P o → OfOption Q o
  option_more None h = tt
  option_more (Some id) h = more id.number h

  ies_more : (rows : List IeRow) → EachIe P rows → EachIe Q rows
  ies_more [] h = tt
  ies_more (row ∷ rows) h = (more row.definition.number h.0, ies_more rows h.1)

  procedures_more : (rows : List ProcedureRow) → EachProcedure P rows → EachProcedure Q rows
  procedures_more [] h = tt
  procedures_more (row ∷ rows) h =
      ((more row.initiating.number h.0.0, option_more row.successful h.0.1, option_more row.unsuccessful h.0.2), procedures_more rows h.1)

  pub each_more : (names : List Assignment) (d : Definition) → EachOf P names d → EachOf Q names d
  each_more names (types.Sequence members) h = (parts_more members.root h.0, parts_more (additions_of members.additions) h.1)
  each_more names (types.Choice members) h = (parts_more members.root h.0, parts_more (additions_of members.additions) h.1)
  each_more names (types.SequenceOf size element) h = more element.number h
  each_more names (types.Reference name) h = option_more (find_type name names) h
  each_more names (types.IeContainer set) h = ies_more (all_of (ie_rows set names)) h
  each_more names (types.Pdu set) h = procedures_more (all_of (procedure_rows set names)) h
  each_more names _ h = tt

-- ---- steps from a name to the types in its assignment

pub range_has : (from start count to : ℕ) → start ≤ to → to < start + count → IsAmong (edge from to) (range_edges from start count)
unfolding range_edges
range_has from start zero to least most = absurd (omega arith)
range_has from start (suc count) to least most = elim (cases_lt start to) [
  | inl after ↦ inr (range_has from (start + 1) count to (omega arith) (omega arith))
  | inr none ↦ inl (ap (edge from) (omega arith))
]

-- numbers from one on and below another one
module _ (P : ℕ → Type 0) (least most : ℕ) (between : (n : ℕ) → least ≤ n → n < most → P n) where
  option_between : (o : Option TypeId) → OptionFrom least o → OptionBelow most o → OfOption P o
  option_between None from below = tt
  option_between (Some id) from below = between id.number from below

  ies_between : (rows : List IeRow) → IesFrom least rows → IesBelow most rows → EachIe P rows
  ies_between [] from below = tt
  ies_between (row ∷ rows) from below = (between row.definition.number from.0 below.0, ies_between rows from.1 below.1)

  procedures_between : (rows : List ProcedureRow) → ProceduresFrom least rows → ProceduresBelow most rows → EachProcedure P rows
  procedures_between [] from below = tt
  procedures_between (row ∷ rows) from below = (
    (
      between row.initiating.number from.0.0 below.0.0,
      option_between row.successful from.0.1.0 below.0.1.0,
      option_between row.unsuccessful from.0.1.1 below.0.1.1,
    ),
    procedures_between rows from.1 below.1,
  )

  body_between : (body : Body) → BodyFrom least body → BodyBelow most body → EachOfBody P body
  body_between (bodies.Type id) from below = between id.number from below
  body_between (bodies.IeSet rows) from below = ies_between rows from below
  body_between (bodies.ProcedureSet rows) from below = procedures_between rows from below

body_more : (P Q : ℕ → Type 0) → ((n : ℕ) → P n → Q n) → (body : Body) → EachOfBody P body → EachOfBody Q body
body_more P Q more (bodies.Type id) h = more id.number h
body_more P Q more (bodies.IeSet rows) h = ies_more P Q more rows h
body_more P Q more (bodies.ProcedureSet rows) h = procedures_more P Q more rows h

body_steps : (vertex start : ℕ) (names : List Assignment) (k : ℕ) (a : Assignment) → slice_get names k ≡ Some a → AreParted start names
    → EachOfBody (λ n. IsAmong (edge (vertex + k) n) (parts_edges vertex start names)) a.body
unfolding parts_edges
body_steps vertex start [] k a there parted = cc
body_steps vertex start (b ∷ names) zero a there parted = subst (λ (x : Assignment). EachOfBody (λ n. Has n) x.body) (same there)
    (body_between Has start b.end (λ n least most. among_left (edge (vertex + 0) n) (range_edges vertex start (b.end - start))
    (parts_edges (vertex + 1) b.end names)
    (subst (λ (v : ℕ). IsAmong (edge v n) (range_edges vertex start (b.end - start))) (omega arith)
    (range_has vertex start (b.end - start) n least (omega arith))))
    b.body parted.0 parted.1)
  where
    Has : ℕ → Type 0
    Has n = IsAmong (edge (vertex + 0) n) (range_edges vertex start (b.end - start) ++ parts_edges (vertex + 1) b.end names)

    same : Some b ≡ Some a → b ≡ a
    same e = cc
body_steps vertex start (b ∷ names) (suc k) a there parted =
    body_more
    (λ n. IsAmong (edge (vertex + 1 + k) n) (parts_edges (vertex + 1) b.end names))
    (λ n. IsAmong (edge (vertex + suc k) n) (range_edges vertex start (b.end - start) ++ parts_edges (vertex + 1) b.end names))
    (λ n among. among_right (edge (vertex + suc k) n) (range_edges vertex start (b.end - start)) (parts_edges (vertex + 1) b.end names)
    (subst (λ (v : ℕ). IsAmong (edge v n) (parts_edges (vertex + 1) b.end names)) (omega arith) among))
    a.body (body_steps (vertex + 1) b.end names k a there parted.2)

-- ---- steps from a type

nodes_have : (base : ℕ) (names : List Assignment) (from : ℕ) (nodes : List Node) (i : ℕ) (e : Edge) → i < length nodes
    → IsAmong e (node_edges base names (from + i) (definition_of (slice_get nodes i))) → IsAmong e (nodes_edges base names from nodes)
unfolding nodes_edges
nodes_have base names from [] i e lt h = absurd (omega arith)
nodes_have base names from (node ∷ nodes) zero e lt h =
    among_left e (node_edges base names from node.definition) (nodes_edges base names (from + 1) nodes)
    (subst (λ (k : ℕ). IsAmong e (node_edges base names k node.definition)) (omega arith) h)
nodes_have base names from (node ∷ nodes) (suc i) e lt h =
    among_right e (node_edges base names from node.definition) (nodes_edges base names (from + 1) nodes)
    (nodes_have base names (from + 1) nodes i e (omega arith)
    (subst (λ (k : ℕ). IsAmong e (node_edges base names k (definition_of (slice_get nodes i)))) (omega arith) h))

pub type_step : (m : Syntax) (id to : ℕ) → id < length m.nodes → to < vertex_count m
    → IsAmong (edge id to) (node_edges (length m.nodes) m.assignments id (definition_at m id))
    → IsStep (vertex_count m) (edges_of m) id to
unfolding edges_of
type_step m id to lt inner h = record {
  among = among_left (edge id to) (nodes_edges (length m.nodes) m.assignments 0 m.nodes) (parts_edges (length m.nodes) 0 m.assignments)
      (nodes_have (length m.nodes) m.assignments 0 m.nodes id (edge id to) lt
      (subst (λ (k : ℕ). IsAmong (edge id to) (node_edges (length m.nodes) m.assignments k (definition_at m id))) (omega arith) h));
  from = omega arith;
  to = inner;
}

pub name_step : (m : Syntax) (k to : ℕ) → k < length m.assignments → to < length m.nodes
    → IsAmong (edge (length m.nodes + k) to) (parts_edges (length m.nodes) 0 m.assignments)
    → IsStep (vertex_count m) (edges_of m) (length m.nodes + k) to
unfolding edges_of
name_step m k to lt inner h = record {
  among =
      among_right (edge (length m.nodes + k) to) (nodes_edges (length m.nodes) m.assignments 0 m.nodes)
      (parts_edges (length m.nodes) 0 m.assignments) h;
  from = omega arith;
  to = omega arith;
}

-- ---- what a type leads to, by a step from it, or by a step to a name and one from there

-- a type of the module, of which this holds
abbrev pub Among : Syntax → (ℕ → Type 0) → ℕ → Type 0
Among m Q n = (n < length m.nodes) × Q n

members_each : (m : Syntax) (Q : ℕ → Type 0) (id : ℕ) (cs : List Component) → id < length m.nodes → AreBelow id cs
    → ((n : ℕ) → n < length m.nodes → IsAmong (edge id n) (member_edges id cs) → Q n) → EachPart (Among m Q) cs
unfolding member_edges
members_each m Q id [] lt below step = tt
members_each m Q id (c ∷ cs) lt below step = (
  (omega (arith, below.0), step c.definition.number (omega (arith, below.0)) (inl refl)),
  members_each m Q id cs lt below.1 (λ n inner among. step n inner (inr among)),
)

all_members_each : (m : Syntax) (Q : ℕ → Type 0) (id : ℕ) (cs ds : List Component) → id < length m.nodes → AreBelow id cs → AreBelow id ds
    → ((n : ℕ) → n < length m.nodes → IsAmong (edge id n) (member_edges id cs ++ member_edges id ds) → Q n)
    → EachPart (Among m Q) cs × EachPart (Among m Q) ds
all_members_each m Q id cs ds lt below added step = (
  members_each m Q id cs lt below (λ n inner among. step n inner (among_left (edge id n) (member_edges id cs) (member_edges id ds) among)),
  members_each m Q id ds lt added
      (λ n inner among. step n inner (among_right (edge id n) (member_edges id cs) (member_edges id ds) among)),
)

-- what stands at a number
bodies_at : (n : ℕ) (names : List Assignment) (k : ℕ) (a : Assignment) → slice_get names k ≡ Some a → BodiesBelow n names
    → BodyBelow n a.body
bodies_at n [] k a there ok = cc
bodies_at n (b ∷ names) zero a there ok = subst (λ (x : Assignment). BodyBelow n x.body) (same there) ok.0
  where
    same : Some b ≡ Some a → b ≡ a
    same e = cc
bodies_at n (b ∷ names) (suc k) a there ok = bodies_at n names k a there ok.1

-- It holds of what a type leads to, where it goes on from a name to the types in its assignment.
module _ (m : Syntax) (is : IsModule m) (Q : ℕ → Type 0)
    (on : (k n : ℕ) → Q (length m.nodes + k) → IsStep (vertex_count m) (edges_of m) (length m.nodes + k) n → Q n)
    (id : ℕ) (lt : id < length m.nodes) where
  both_of : (P Q : ℕ → Type 0) (body : Body) → EachOfBody P body → EachOfBody Q body → EachOfBody (λ n. P n × Q n) body
  both_of P Q (bodies.Type d) p q = (p, q)
  both_of P Q (bodies.IeSet rows) p q = ies rows p q
    where
      ies : (rows : List IeRow) → EachIe P rows → EachIe Q rows → EachIe (λ n. P n × Q n) rows
      ies [] p q = tt
      ies (row ∷ rows) p q = ((p.0, q.0), ies rows p.1 q.1)
  both_of P Q (bodies.ProcedureSet rows) p q = procedures rows p q
    where
      option : (o : Option TypeId) → OfOption P o → OfOption Q o → OfOption (λ n. P n × Q n) o
      option None p q = tt
      option (Some d) p q = (p, q)

      procedures : (rows : List ProcedureRow) → EachProcedure P rows → EachProcedure Q rows → EachProcedure (λ n. P n × Q n) rows
      procedures [] p q = tt
      procedures (row ∷ rows) p q =
          (((p.0.0, q.0.0), option row.successful p.0.1 q.0.1, option row.unsuccessful p.0.2 q.0.2), procedures rows p.1 q.1)

  below_of : (n : ℕ) (body : Body) → BodyBelow n body → EachOfBody (λ k. k < n) body
  below_of n (bodies.Type d) ok = ok
  below_of n (bodies.IeSet rows) ok = ies rows ok
    where
      ies : (rows : List IeRow) → IesBelow n rows → EachIe (λ k. k < n) rows
      ies [] ok = tt
      ies (row ∷ rows) ok = (ok.0, ies rows ok.1)
  below_of n (bodies.ProcedureSet rows) ok = procedures rows ok
    where
      option : (o : Option TypeId) → OptionBelow n o → OfOption (λ k. k < n) o
      option None ok = tt
      option (Some d) ok = ok

      procedures : (rows : List ProcedureRow) → ProceduresBelow n rows → EachProcedure (λ k. k < n) rows
      procedures [] ok = tt
      procedures (row ∷ rows) ok = ((ok.0.0, option row.successful ok.0.1.0, option row.unsuccessful ok.0.1.1), procedures rows ok.1)

  -- what the name with this number stands for
  body_each : (k : ℕ) (a : Assignment) → slice_get m.assignments k ≡ Some a → Q (length m.nodes + k) → EachOfBody (Among m Q) a.body
  body_each k a there at =
      let inner : k < length m.assignments = slice_get_within m.assignments k a there in
      body_more (λ n. (n < length m.nodes) × IsAmong (edge (length m.nodes + k) n) (parts_edges (length m.nodes) 0 m.assignments))
      (Among m Q)
      (λ n both. (both.0, on k n at (name_step m k n inner both.0 both.1)))
      a.body
      (both_of (λ n. n < length m.nodes) (λ n. IsAmong (edge (length m.nodes + k) n) (parts_edges (length m.nodes) 0 m.assignments)) a.body
      (below_of (length m.nodes) a.body (bodies_at (length m.nodes) m.assignments k a there is.linked.assignments))
      (body_steps (length m.nodes) 0 m.assignments k a there is.linked.parts))

  -- what the name in a type stands for
  named_each : (name : List ℕ) (R : Option Body → Type 0) → ((body : Body) → EachOfBody (Among m Q) body → R (Some body))
      → R None
      → ((n : ℕ) → n < vertex_count m → IsAmong (edge id n) (numbered_edges (length m.nodes) id (number_of name m.assignments)) → Q n)
      → R (body_at m.assignments (number_of name m.assignments))
  named_each name R some none step = go (number_of name m.assignments) step
    where
      at : (k : ℕ) (o : Option Assignment) → slice_get m.assignments k ≡ o
          → ((n : ℕ) → n < vertex_count m → IsAmong (edge id n) (numbered_edges (length m.nodes) id (Some k)) → Q n)
          → R (option_map (λ (a : Assignment). a.body) o)
      at k None there step = none
      at k (Some a) there step =
          let inner : k < length m.assignments = slice_get_within m.assignments k a there in
          some a.body (body_each k a there (step (length m.nodes + k) (omega arith) (inl refl)))

      go : (o : Option ℕ)
          → ((n : ℕ) → n < vertex_count m → IsAmong (edge id n) (numbered_edges (length m.nodes) id o) → Q n)
          → R (body_at m.assignments o)
      go None step = none
      go (Some k) step = at k (slice_get m.assignments k) refl step

  each_by : (d : Definition) → IsInside id d
      → ((n : ℕ) → n < vertex_count m → IsAmong (edge id n) (node_edges (length m.nodes) m.assignments id d) → Q n)
      → EachOf (Among m Q) m.assignments d
  unfolding node_edges
  each_by (types.Sequence members) inside step =
      all_members_each m Q id members.root (additions_of members.additions) lt inside.0 inside.1
      (λ n inner among. step n (omega arith) among)
  each_by (types.Choice members) inside step =
      all_members_each m Q id members.root (additions_of members.additions) lt inside.0 inside.1
      (λ n inner among. step n (omega arith) among)
  each_by (types.SequenceOf size element) inside step = (omega (arith, inside), step element.number (omega (arith, inside)) (inl refl))
  each_by (types.Reference name) inside step =
      subst (OfOption (Among m Q)) (sym (type_numbered name m.assignments))
      (named_each name (λ o. OfOption (Among m Q) (found_in type_of o)) type_is tt step)
    where
      type_is : (body : Body) → EachOfBody (Among m Q) body → OfOption (Among m Q) (type_of body)
      type_is (bodies.Type d) h = h
      type_is (bodies.IeSet rows) h = tt
      type_is (bodies.ProcedureSet rows) h = tt
  each_by (types.IeContainer set) inside step =
      subst (λ (o : Option (List IeRow)). EachIe (Among m Q) (all_of o)) (sym (ies_numbered set m.assignments))
      (named_each set (λ o. EachIe (Among m Q) (all_of (found_in ie_rows_of o))) rows_are tt step)
    where
      rows_are : (body : Body) → EachOfBody (Among m Q) body → EachIe (Among m Q) (all_of (ie_rows_of body))
      rows_are (bodies.Type d) h = tt
      rows_are (bodies.IeSet rows) h = h
      rows_are (bodies.ProcedureSet rows) h = tt
  each_by (types.Pdu set) inside step =
      subst (λ (o : Option (List ProcedureRow)). EachProcedure (Among m Q) (all_of o))
      (sym (procedures_numbered set m.assignments))
      (named_each set (λ o. EachProcedure (Among m Q) (all_of (found_in procedure_rows_of o))) rows_are tt step)
    where
      rows_are : (body : Body) → EachOfBody (Among m Q) body
          → EachProcedure (Among m Q) (all_of (procedure_rows_of body))
      rows_are (bodies.Type d) h = tt
      rows_are (bodies.IeSet rows) h = tt
      rows_are (bodies.ProcedureSet rows) h = h
  each_by _ inside step = tt

  -- the types inside a type, that of its name and those in its set
  pub each_reached : ((n : ℕ) → IsStep (vertex_count m) (edges_of m) id n → Q n)
      → EachOf (Among m Q) m.assignments (definition_at m id)
  each_reached step =
      each_by (definition_at m id)
      (subst (λ (k : ℕ). IsInside k (definition_at m id)) (omega arith) (inside_of m.nodes id 0 lt is.linked.types))
      (λ n inner among. step n (type_step m id n lt inner among))
    where
      inside_of : (nodes : List Node) (i n : ℕ) → i < length nodes → AreOrdered n nodes
          → IsInside (n + i) (definition_of (slice_get nodes i))
      inside_of [] i n lt ok = absurd (omega arith)
      inside_of (node ∷ nodes) zero n lt ok = subst (λ (k : ℕ). IsInside k node.definition) (omega arith) ok.0
      inside_of (node ∷ nodes) (suc i) n lt ok =
          subst (λ (k : ℕ). IsInside k (definition_of (slice_get nodes i))) (omega arith) (inside_of nodes i (suc n) (omega arith) ok.1)

-- ---- ranks fall

falls_by : (m : Syntax) (a b : ℕ) → IsModule m → IsStep (vertex_count m) (edges_of m) a b → rank m b < rank m a
falls_by m a b is step = rank_falls m a b step (finite m b is)

-- what a type leads to has lesser ranks
pub ranks_fall : (m : Syntax) → IsModule m → (id : ℕ) → id < length m.nodes → EachOf (Lesser m (rank m) id) m.assignments (definition_at m id)
ranks_fall m is id lt =
    each_reached m is (λ n. rank m n < rank m id)
    (λ k n less step. omega (arith, less, falls_by m (length m.nodes + k) n is step))
    id lt (λ n step. falls_by m id n is step)

pub is_rank : (m : Syntax) → IsModule m → IsRank m (rank m)
is_rank m is = record { most = rank_most m; falls = ranks_fall m is }
