-- The steps of a module, and why none leads from a type to itself.
use Rattle.std.proofs.Common.{◌≡◌, ℕ, zero, suc, ◌+◌, ◌-◌, ◌<◌, ◌≤◌, List, [], ◌∷◌, ◌++◌, length, refl, sym, subst, inl, inr, arith}
use Rattle.std.specs.Prelude.{◌⊎◌, Option, Some, None}
use Rattle.std.proofs.lemmas.Bool.{cases_lt}
use Rattle.asn1_syntax.specs.declared.types.definition.Component.{Component}
use Rattle.asn1_syntax.specs.declared.types.definition.Definition.{Definition}
use Rattle.asn1_syntax.specs.declared.types.definition.Definition.TheVariants as types
use Rattle.asn1_syntax.specs.declared.types.definition.Node.{Node}
use Rattle.asn1_syntax.specs.types.Members.{additions_of}
use Rattle.asn1_syntax.specs.declared.assignments.assignment.Assignment.{Assignment}
use Rattle.asn1_syntax.specs.declared.assignments.assignment.Syntax.{Syntax}
use Rattle.asn1_defs.specs.declared.graph.Edge.{Edge}
use Rattle.asn1_syntax.specs.assignments.Index.{number_of}
use Rattle.asn1_defs.specs.Graph.{edge, member_edges, numbered_edges, node_edges, nodes_edges, range_edges, parts_edges, vertex_count, edges_of}
use Rattle.asn1_defs.specs.Paths.{IsAmong, IsStep, Leads, first, further}
use Rattle.asn1_defs.specs.Links.{AreBelow, IsInside, AreOrdered}
use Rattle.asn1_defs.specs.Modules.{IsModule}

pub among_left : (e : Edge) (xs ys : List Edge) → IsAmong e xs → IsAmong e (xs ++ ys)
among_left e [] ys h = elim h [ ]
among_left e (x ∷ xs) ys (inl is) = inl is
among_left e (x ∷ xs) ys (inr h) = inr (among_left e xs ys h)

pub among_right : (e : Edge) (xs ys : List Edge) → IsAmong e ys → IsAmong e (xs ++ ys)
among_right e [] ys h = h
among_right e (x ∷ xs) ys h = inr (among_right e xs ys h)

pub among_cases : (e : Edge) (xs ys : List Edge) → IsAmong e (xs ++ ys) → IsAmong e xs ⊎ IsAmong e ys
among_cases e [] ys h = inr h
among_cases e (x ∷ xs) ys (inl is) = inl (inl is)
among_cases e (x ∷ xs) ys (inr h) = elim (among_cases e xs ys h) [ inl l ↦ inl (inr l) | inr r ↦ inr r ]

-- ---- where steps go: from a type to one with a lesser number, or to a name

abbrev Goes : ℕ → Edge → Type 0
Goes base e = (e.to < e.from) ⊎ (base ≤ e.to)

member_goes : (base from : ℕ) (cs : List Component) (e : Edge) → AreBelow from cs → IsAmong e (member_edges from cs) → Goes base e
unfolding member_edges
member_goes base from [] e below h = elim h [ ]
member_goes base from (c ∷ cs) e below (inl is) = subst (Goes base) is (inl below.0)
member_goes base from (c ∷ cs) e below (inr h) = member_goes base from cs e below.1 h

members_go : (base from : ℕ) (cs ds : List Component) (e : Edge) → AreBelow from cs → AreBelow from ds
    → IsAmong e (member_edges from cs ++ member_edges from ds) → Goes base e
members_go base from cs ds e below added h = elim (among_cases e (member_edges from cs) (member_edges from ds) h) [
  | inl l ↦ member_goes base from cs e below l
  | inr r ↦ member_goes base from ds e added r
]

numbered_goes : (base from : ℕ) (o : Option ℕ) (e : Edge) → IsAmong e (numbered_edges base from o) → Goes base e
numbered_goes base from None e h = elim h [ ]
numbered_goes base from (Some number) e (inl is) = subst (Goes base) is (inr (omega arith))
numbered_goes base from (Some number) e (inr h) = elim h [ ]

node_goes : (base : ℕ) (names : List Assignment) (from : ℕ) (d : Definition) (e : Edge) → IsInside from d
    → IsAmong e (node_edges base names from d) → Goes base e
unfolding node_edges
node_goes base names from (types.Sequence members) e inside h =
    members_go base from members.root (additions_of members.additions) e inside.0 inside.1 h
node_goes base names from (types.Choice members) e inside h =
    members_go base from members.root (additions_of members.additions) e inside.0 inside.1 h
node_goes base names from (types.SequenceOf size element) e inside (inl is) = subst (Goes base) is (inl inside)
node_goes base names from (types.SequenceOf size element) e inside (inr h) = elim h [ ]
node_goes base names from (types.Reference name) e inside h = numbered_goes base from (number_of name names) e h
node_goes base names from (types.IeContainer set) e inside h = numbered_goes base from (number_of set names) e h
node_goes base names from (types.Pdu set) e inside h = numbered_goes base from (number_of set names) e h
node_goes base names from _ e inside h = elim h [ ]

nodes_go : (base : ℕ) (names : List Assignment) (from : ℕ) (nodes : List Node) (e : Edge) → AreOrdered from nodes
    → IsAmong e (nodes_edges base names from nodes) → Goes base e
unfolding nodes_edges
nodes_go base names from [] e ordered h = elim h [ ]
nodes_go base names from (node ∷ nodes) e ordered h =
    elim (among_cases e (node_edges base names from node.definition) (nodes_edges base names (from + 1) nodes) h) [
      | inl l ↦ node_goes base names from node.definition e ordered.0 l
      | inr r ↦ nodes_go base names (from + 1) nodes e (subst (λ (k : ℕ). AreOrdered k nodes) (omega arith) ordered.1) r
    ]

pub range_from : (from start count : ℕ) (e : Edge) → IsAmong e (range_edges from start count) → from ≤ e.from
unfolding range_edges
range_from from start zero e h = elim h [ ]
range_from from start (suc count) e (inl is) = subst (λ (e : Edge). from ≤ e.from) is (omega arith)
range_from from start (suc count) e (inr h) = range_from from (start + 1) count e h

pub parts_from : (vertex start : ℕ) (names : List Assignment) (e : Edge) → IsAmong e (parts_edges vertex start names) → vertex ≤ e.from
unfolding parts_edges
parts_from vertex start [] e h = elim h [ ]
parts_from vertex start (a ∷ names) e h =
    elim (among_cases e (range_edges vertex start (a.end - start)) (parts_edges (vertex + 1) a.end names) h) [
      | inl l ↦ range_from vertex start (a.end - start) e l
      | inr r ↦ omega (arith, parts_from (vertex + 1) a.end names e r)
    ]

-- a step from a type
step_goes : (m : Syntax) (a b : ℕ) → IsModule m → a < length m.nodes → IsStep (vertex_count m) (edges_of m) a b
    → (b < a) ⊎ (length m.nodes ≤ b)
unfolding edges_of
step_goes m a b is lt step =
    elim (among_cases (edge a b) (nodes_edges (length m.nodes) m.assignments 0 m.nodes)
    (parts_edges (length m.nodes) 0 m.assignments) step.among) [
      | inl l ↦ nodes_go (length m.nodes) m.assignments 0 m.nodes (edge a b) is.linked.types l
      | inr r ↦ absurd (omega (arith, parts_from (length m.nodes) 0 m.assignments (edge a b) r))
    ]

-- ---- no type or name leads to itself

-- the way passes this name
record Passes (m : Syntax) (a c name : ℕ) : Type 0 where
  after : length m.nodes ≤ name
  to : Leads (vertex_count m) (edges_of m) a name
  on : (name ≡ c) ⊎ Leads (vertex_count m) (edges_of m) name c

abbrev Way : Syntax → ℕ → ℕ → Type 0
Way m a c = (c < a) ⊎ ((name : ℕ) × Passes m a c name)

way : (m : Syntax) (a c : ℕ) → IsModule m → a < length m.nodes → Leads (vertex_count m) (edges_of m) a c → Way m a c
way m a c is lt (first step) = elim (step_goes m a c is lt step) [
  | inl less ↦ inl less
  | inr name ↦ inr (c, record { after = name; to = first step; on = inl refl })
]
way m a c is lt (further {b} path step) = go (way m a b is lt path)
  where
    go : Way m a b → Way m a c
    go (inl less) = elim (step_goes m b c is (omega arith) step) [
      | inl lesser ↦ inl (omega arith)
      | inr name ↦ inr (c, record { after = name; to = further path step; on = inl refl })
    ]
    go (inr (name, passes)) = inr (name, record { after = passes.after; to = passes.to; on = inr (on passes.on) })
      where
        on : (name ≡ b) ⊎ Leads (vertex_count m) (edges_of m) name b → Leads (vertex_count m) (edges_of m) name c
        on (inl same) = subst (λ (v : ℕ). Leads (vertex_count m) (edges_of m) v c) (sym same) (first step)
        on (inr leads) = further leads step

pub leads_to_end : (count : ℕ) (edges : List Edge) (a b : ℕ) → Leads count edges a b → b < count
leads_to_end count edges a b (first step) = step.to
leads_to_end count edges a b (further path step) = step.to

pub joined : (count : ℕ) (edges : List Edge) (a b c : ℕ) → Leads count edges a b → Leads count edges b c → Leads count edges a c
joined count edges a b c path (first step) = further path step
joined count edges a b c path (further {b = d} more step) = further (joined count edges a b d path more) step

name_finite : (m : Syntax) (v : ℕ) → IsModule m → length m.nodes ≤ v → Leads (vertex_count m) (edges_of m) v v → ⊥
name_finite m v is past leads =
    let inner : v < vertex_count m = leads_to_end (vertex_count m) (edges_of m) v v leads in
    let same : v ≡ length m.nodes + (v - length m.nodes) = omega arith in
    is.sound.finite (v - length m.nodes) (omega arith) (subst (λ (w : ℕ). Leads (vertex_count m) (edges_of m) w w) same leads)

pub finite : (m : Syntax) (v : ℕ) → IsModule m → Leads (vertex_count m) (edges_of m) v v → ⊥
finite m v is leads = go (cases_lt v (length m.nodes))
  where
    through : v < length m.nodes → Way m v v → ⊥
    through lt (inl less) = absurd (omega arith)
    through lt (inr (name, passes)) = elim passes.on [
      | inl same ↦ absurd (omega (arith, passes.after))
      | inr back ↦ name_finite m name is passes.after (joined (vertex_count m) (edges_of m) name v name back passes.to)
    ]

    go : (v < length m.nodes) ⊎ (length m.nodes ≤ v) → ⊥
    go (inl lt) = through lt (way m v v is lt leads)
    go (inr past) = name_finite m v is past leads
