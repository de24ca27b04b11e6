-- One assignment leads to another, by the types in it, where its items hold the name of the other.
use Rattle.std.proofs.Common.{◌≡◌, ℕ, zero, suc, ◌+◌, ◌-◌, ◌<◌, ◌≤◌, List, [], ◌∷◌, ◌++◌, length, take, drop, cond, refl, sym, ap, ◌∙◌, subst, inl, inr, arith}
use Rattle.std.specs.Prelude.{◌⊎◌, Option, Some, None, slice_get, position}
use Rattle.std.specs.List.{position_from}
use Rattle.std.proofs.lemmas.Iterator.Adapters.{position_from-zero}
use Rattle.asn1_tokens.specs.Words.{is_text}
use Rattle.asn1_syntax.specs.declared.types.definition.Component.{Component}
use Rattle.asn1_syntax.specs.declared.types.definition.Definition.{Definition}
use Rattle.asn1_syntax.specs.declared.types.definition.Definition.TheVariants as types
use Rattle.asn1_syntax.specs.declared.types.definition.Node.{Node}
use Rattle.asn1_syntax.specs.types.Members.{additions_of}
use Rattle.asn1_syntax.specs.declared.assignments.assignment.Assignment.{Assignment}
use Rattle.asn1_syntax.specs.declared.assignments.assignment.Syntax.{Syntax}
use Rattle.asn1_syntax.specs.assignments.Index.{number_of}
use Rattle.asn1_defs.specs.declared.graph.Edge.{Edge}
use Rattle.asn1_defs.specs.Numbers.{name_in}
use Rattle.asn1_defs.specs.Graph.{edge, member_edges, numbered_edges, node_edges, nodes_edges, range_edges, parts_edges, vertex_count, edges_of}
use Rattle.asn1_defs.specs.Paths.{IsAmong, IsStep, Leads, first, further}
use Rattle.asn1_defs.specs.declared.names.Kind.TheVariants as kinds
use Rattle.asn1_defs.specs.Links.{AreBelow, IsInside, AreOrdered}
use Rattle.proof_asn1_modules.proofs.ranks.Steps.{among_left, among_right}
use Rattle.proof_asn1_modules.proofs.ranks.Inside.{range_has}
use Rattle.law_asn1.specs.names.Held.{Mention, Given}
use Rattle.law_asn1.proofs.names.Passing.{mention_of, mentions_of, AllFrom, IsFrom}
use Rattle.law_asn1.proofs.names.ModuleHeld.{PartOf, AreParts}

-- ---- the parts of a module

-- where the types of an assignment begin
abbrev pub begin_of : ℕ → List Assignment → ℕ → ℕ
begin_of start assignments zero = start
begin_of start [] (suc k) = start
begin_of start (a ∷ assignments) (suc k) = begin_of a.end assignments k

pub record GivenPart (start : ℕ) (all : List Node) (assignments : List Assignment) (k : ℕ) (g : Given) : Type 0 where
  pub assignment : Assignment
  pub there : slice_get assignments k ≡ Some assignment
  pub part : PartOf (begin_of start assignments k) all assignment g

pub part_of_given : (start : ℕ) (all : List Node) (assignments : List Assignment) (gs : List Given) → AreParts start all assignments gs
    → (k : ℕ) (g : Given) → slice_get gs k ≡ Some g → GivenPart start all assignments k g
unfolding AreParts
part_of_given start all [] [] parts k g there = cc
part_of_given start all [] (h ∷ gs) parts k g there = absurd parts
part_of_given start all (a ∷ assignments) [] parts k g there = absurd parts
part_of_given start all (a ∷ assignments) (h ∷ gs) parts zero g there =
    let same : h ≡ g = cc in
    record { assignment = a; there = refl; part = subst (PartOf start all a) same parts.0 }
part_of_given start all (a ∷ assignments) (h ∷ gs) parts (suc k) g there =
    let rest = part_of_given a.end all assignments gs parts.1 k g there in
    record { assignment = rest.assignment; there = rest.there; part = rest.part }

pub record PartGiven (start : ℕ) (all : List Node) (assignments : List Assignment) (gs : List Given) (k : ℕ) (a : Assignment) : Type 0 where
  pub given : Given
  pub there : slice_get gs k ≡ Some given
  pub part : PartOf (begin_of start assignments k) all a given

pub given_of_part : (start : ℕ) (all : List Node) (assignments : List Assignment) (gs : List Given) → AreParts start all assignments gs
    → (k : ℕ) (a : Assignment) → slice_get assignments k ≡ Some a → PartGiven start all assignments gs k a
unfolding AreParts
given_of_part start all [] [] parts k a there = cc
given_of_part start all [] (h ∷ gs) parts k a there = absurd parts
given_of_part start all (b ∷ assignments) [] parts k a there = absurd parts
given_of_part start all (b ∷ assignments) (h ∷ gs) parts zero a there =
    let same : b ≡ a = cc in
    record { given = h; there = refl; part = subst (λ (x : Assignment). PartOf start all x h) same parts.0 }
given_of_part start all (b ∷ assignments) (h ∷ gs) parts (suc k) a there =
    let rest = given_of_part b.end all assignments gs parts.1 k a there in
    record { given = rest.given; there = rest.there; part = rest.part }

same_place : (name : List ℕ) (i start : ℕ) (all : List Node) (assignments : List Assignment) (gs : List Given) → AreParts start all assignments gs
    → position_from (λ (g : Given). is_text g.name name) i gs ≡ position_from (λ (a : Assignment). is_text a.name name) i assignments
unfolding AreParts
same_place name i start all [] [] parts = refl
same_place name i start all [] (g ∷ gs) parts = absurd parts
same_place name i start all (a ∷ assignments) [] parts = absurd parts
same_place name i start all (a ∷ assignments) (g ∷ gs) parts =
    ap (λ (n : List ℕ). cond (is_text n name) (Some i) (position_from (λ (h : Given). is_text h.name name) (i + 1) gs)) parts.0.name
    ∙ ap (λ (o : Option ℕ). cond (is_text a.name name) (Some i) o) (same_place name (i + 1) a.end all assignments gs parts.1)

-- the first assignment of a name has one number, told of items or of the module
pub same_number : (name : List ℕ) (all : List Node) (assignments : List Assignment) (gs : List Given) → AreParts 0 all assignments gs
    → position (λ (g : Given). is_text g.name name) gs ≡ number_of name assignments
same_number name all assignments gs parts =
    position_from-zero (λ (g : Given). is_text g.name name) gs
    ∙ same_place name 0 0 all assignments gs parts
    ∙ sym (position_from-zero (λ (a : Assignment). is_text a.name name) assignments)

-- ---- names of types

pub record Mentioned (nodes : List Node) (m : Mention) : Type 0 where
  pub number : ℕ
  pub node : Node
  pub there : slice_get nodes number ≡ Some node
  pub name : name_in node.definition ≡ Some m.name

pub mentioned : (nodes : List Node) (q : ℕ) (m : Mention) → slice_get (mentions_of nodes) q ≡ Some m → Mentioned nodes m
unfolding mentions_of
mentioned [] q m there = cc
mentioned (node ∷ nodes) q m there = go (λ k h. mentioned nodes k m h) node.definition refl there
  where
    shifted : Mentioned nodes m → Mentioned (node ∷ nodes) m
    shifted rest = record { number = suc rest.number; node = rest.node; there = rest.there; name = rest.name }

    one : ((k : ℕ) → slice_get (mentions_of nodes) k ≡ Some m → Mentioned nodes m) → (n : Mention) → name_in node.definition ≡ Some n.name → (k : ℕ) → slice_get (n ∷ mentions_of nodes) k ≡ Some m
        → Mentioned (node ∷ nodes) m
    one later n named zero h =
        let same : n ≡ m = cc in
        record { number = 0; node = node; there = refl; name = named ∙ ap (λ (x : Mention). Some x.name) same }
    one later n named (suc k) h = shifted (later k h)

    go : ((k : ℕ) → slice_get (mentions_of nodes) k ≡ Some m → Mentioned nodes m) → (d : Definition) → node.definition ≡ d → slice_get (mention_of d node.place ++ mentions_of nodes) q ≡ Some m
        → Mentioned (node ∷ nodes) m
    go later (types.Reference name) is h = one later (record { kind = kinds.Type; name = name; place = node.place }) (ap name_in is) q h
    go later (types.IeContainer set) is h = one later (record { kind = kinds.IeSet; name = set; place = node.place }) (ap name_in is) q h
    go later (types.Pdu set) is h = one later (record { kind = kinds.ProcedureSet; name = set; place = node.place }) (ap name_in is) q h
    go later _ is h = shifted (later q h)

pub record HasMention (mentions : List Mention) (name : List ℕ) : Type 0 where
  pub mention : Mention
  pub number : ℕ
  pub there : slice_get mentions number ≡ Some mention
  pub named : mention.name ≡ name

-- behind others
has_behind : (front mentions : List Mention) (name : List ℕ) → HasMention mentions name → HasMention (front ++ mentions) name
has_behind [] mentions name found = found
has_behind (m ∷ front) mentions name found =
    let rest = has_behind front mentions name found in
    record { mention = rest.mention; number = suc rest.number; there = rest.there; named = rest.named }

has_first : (d : Definition) (place : ℕ) (later : List Mention) (name : List ℕ) → name_in d ≡ Some name → HasMention (mention_of d place ++ later) name
has_first (types.Reference found) place later name named = let same : found ≡ name = cc in record { mention = _; number = 0; there = refl; named = same }
has_first (types.IeContainer found) place later name named = let same : found ≡ name = cc in record { mention = _; number = 0; there = refl; named = same }
has_first (types.Pdu found) place later name named = let same : found ≡ name = cc in record { mention = _; number = 0; there = refl; named = same }
has_first _ place later name named = cc

pub has_mention : (nodes : List Node) (i : ℕ) (node : Node) (name : List ℕ) → slice_get nodes i ≡ Some node → name_in node.definition ≡ Some name → HasMention (mentions_of nodes) name
unfolding mentions_of
has_mention [] i node name there named = cc
has_mention (n ∷ nodes) zero node name there named =
    let same : n ≡ node = cc in
    has_first n.definition n.place (mentions_of nodes) name (ap (λ (x : Node). name_in x.definition) same ∙ named)
has_mention (n ∷ nodes) (suc i) node name there named =
    has_behind (mention_of n.definition n.place) (mentions_of nodes) name (has_mention nodes i node name there named)

-- ---- some types of a module

pub dropped_at : (f : ℕ) (all : List Node) (i : ℕ) → slice_get (drop f all) i ≡ slice_get all (f + i)
dropped_at zero all i = ap (slice_get all) (omega arith)
dropped_at (suc f) [] i = refl
dropped_at (suc f) (n ∷ all) i =
    let next : suc (f + i) ≡ suc f + i = omega arith in
    dropped_at f all i ∙ ap (slice_get (n ∷ all)) next

pub taken_at : (c : ℕ) (nodes : List Node) (i : ℕ) (node : Node) → slice_get (take c nodes) i ≡ Some node → (i < c) × (slice_get nodes i ≡ Some node)
taken_at zero nodes i node h = cc
taken_at (suc c) [] i node h = cc
taken_at (suc c) (n ∷ nodes) zero node h = (omega arith, h)
taken_at (suc c) (n ∷ nodes) (suc i) node h = let rest = taken_at c nodes i node h in (omega (arith, rest.0), rest.1)

pub at_taken : (c : ℕ) (nodes : List Node) (i : ℕ) (node : Node) → i < c → slice_get nodes i ≡ Some node → slice_get (take c nodes) i ≡ Some node
at_taken zero nodes i node lt h = absurd (omega arith)
at_taken (suc c) [] i node lt h = cc
at_taken (suc c) (n ∷ nodes) zero node lt h = h
at_taken (suc c) (n ∷ nodes) (suc i) node lt h = at_taken c nodes i node (omega arith) h

-- ---- steps among others

pub among_cases : (e : Edge) (xs ys : List Edge) → IsAmong e (xs ++ ys) → IsAmong e xs ⊎ IsAmong e ys
among_cases e [] ys h = inr h
among_cases e (x ∷ xs) ys (inl is) = inl (inl is)
among_cases e (x ∷ xs) ys (inr h) = elim (among_cases e xs ys h) [ inl l ↦ inl (inr l) | inr r ↦ inr r ]

pub joined : (count : ℕ) (edges : List Edge) (a b c : ℕ) → Leads count edges a b → Leads count edges b c → Leads count edges a c
joined count edges a b c path (first step) = further path step
joined count edges a b c path (further {b = d} more step) = further (joined count edges a b d path more) step

-- ---- steps from an assignment

pub parts_have : (vertex start : ℕ) (assignments : List Assignment) (k n : ℕ) (a : Assignment) → slice_get assignments k ≡ Some a → begin_of start assignments k ≤ n → n < a.end
    → IsAmong (edge (vertex + k) n) (parts_edges vertex start assignments)
unfolding parts_edges
parts_have vertex start [] k n a there least most = cc
parts_have vertex start (b ∷ assignments) zero n a there least most =
    let same : b ≡ a = cc in
    let end : b.end ≡ a.end = ap (λ (x : Assignment). x.end) same in
    among_left (edge (vertex + 0) n) (range_edges vertex start (b.end - start)) (parts_edges (vertex + 1) b.end assignments)
    (subst (λ (v : ℕ). IsAmong (edge v n) (range_edges vertex start (b.end - start))) (omega arith)
    (range_has vertex start (b.end - start) n least (omega arith)))
parts_have vertex start (b ∷ assignments) (suc k) n a there least most =
    among_right (edge (vertex + suc k) n) (range_edges vertex start (b.end - start)) (parts_edges (vertex + 1) b.end assignments)
    (subst (λ (v : ℕ). IsAmong (edge v n) (parts_edges (vertex + 1) b.end assignments)) (omega arith)
    (parts_have (vertex + 1) b.end assignments k n a there least most))

range_into : (from start count : ℕ) (v n : ℕ) → IsAmong (edge v n) (range_edges from start count) → (v ≡ from) × (start ≤ n) × (n < start + count)
unfolding range_edges
range_into from start zero v n h = elim h [ ]
range_into from start (suc count) v n (inl is) =
    let a : from ≡ v = ap (λ (e : Edge). e.from) is in
    let b : start ≡ n = ap (λ (e : Edge). e.to) is in
    (sym a, omega arith, omega arith)
range_into from start (suc count) v n (inr h) = let rest = range_into from (start + 1) count v n h in (rest.0, omega (arith, rest.1), omega (arith, rest.2))

pub record IntoPart (vertex start : ℕ) (assignments : List Assignment) (v n : ℕ) : Type 0 where
  pub k : ℕ
  pub assignment : Assignment
  pub at : v ≡ vertex + k
  pub there : slice_get assignments k ≡ Some assignment
  pub least : begin_of start assignments k ≤ n
  pub most : n < assignment.end

pub parts_into : (vertex start : ℕ) (assignments : List Assignment) (v n : ℕ) → IsAmong (edge v n) (parts_edges vertex start assignments) → IntoPart vertex start assignments v n
unfolding parts_edges
parts_into vertex start [] v n h = elim h [ ]
parts_into vertex start (a ∷ assignments) v n h =
    elim (among_cases (edge v n) (range_edges vertex start (a.end - start)) (parts_edges (vertex + 1) a.end assignments) h) [
      | inl l ↦ here (range_into vertex start (a.end - start) v n l)
      | inr r ↦ later (parts_into (vertex + 1) a.end assignments v n r)
    ]
  where
    here : (v ≡ vertex) × (start ≤ n) × (n < start + (a.end - start)) → IntoPart vertex start (a ∷ assignments) v n
    here (at, least, most) = record { k = 0; assignment = a; at = omega arith; there = refl; least = least; most = omega arith }

    later : IntoPart (vertex + 1) a.end assignments v n → IntoPart vertex start (a ∷ assignments) v n
    later rest = record { k = suc rest.k; assignment = rest.assignment; at = omega (arith, rest.at); there = rest.there; least = rest.least; most = rest.most }

-- ---- steps from a type

nodes_have : (base : ℕ) (names : List Assignment) (from : ℕ) (nodes : List Node) (i : ℕ) (node : Node) (e : Edge) → slice_get nodes i ≡ Some node
    → IsAmong e (node_edges base names (from + i) node.definition) → IsAmong e (nodes_edges base names from nodes)
unfolding nodes_edges
nodes_have base names from [] i node e there h = cc
nodes_have base names from (n ∷ nodes) zero node e there h =
    let same : node ≡ n = cc in
    among_left e (node_edges base names from n.definition) (nodes_edges base names (from + 1) nodes)
    (subst (λ (x : Node). IsAmong e (node_edges base names from x.definition)) same
    (subst (λ (k : ℕ). IsAmong e (node_edges base names k node.definition)) (omega arith) h))
nodes_have base names from (n ∷ nodes) (suc i) node e there h =
    among_right e (node_edges base names from n.definition) (nodes_edges base names (from + 1) nodes)
    (nodes_have base names (from + 1) nodes i node e there (subst (λ (k : ℕ). IsAmong e (node_edges base names k node.definition)) (omega arith) h))

-- a step from a type of a module, and one from an assignment
pub type_step : (m : Syntax) (id to : ℕ) (node : Node) → slice_get m.nodes id ≡ Some node → id < length m.nodes → to < vertex_count m
    → IsAmong (edge id to) (node_edges (length m.nodes) m.assignments id node.definition) → IsStep (vertex_count m) (edges_of m) id to
unfolding edges_of
type_step m id to node there lt inner h = record {
  among = among_left (edge id to) (nodes_edges (length m.nodes) m.assignments 0 m.nodes) (parts_edges (length m.nodes) 0 m.assignments)
      (nodes_have (length m.nodes) m.assignments 0 m.nodes id node (edge id to) there
      (subst (λ (k : ℕ). IsAmong (edge id to) (node_edges (length m.nodes) m.assignments k node.definition)) (omega arith) h));
  from = omega arith;
  to = inner;
}

pub name_step : (m : Syntax) (k to : ℕ) → k < length m.assignments → to < length m.nodes
    → IsAmong (edge (length m.nodes + k) to) (parts_edges (length m.nodes) 0 m.assignments)
    → IsStep (vertex_count m) (edges_of m) (length m.nodes + k) to
unfolding edges_of
name_step m k to lt inner h = record {
  among =
      among_right (edge (length m.nodes + k) to) (nodes_edges (length m.nodes) m.assignments 0 m.nodes)
      (parts_edges (length m.nodes) 0 m.assignments) h;
  from = omega arith;
  to = omega arith;
}

pub named_edges_of : (base : ℕ) (names : List Assignment) (from : ℕ) (d : Definition) (name : List ℕ) → name_in d ≡ Some name → node_edges base names from d ≡ numbered_edges base from (number_of name names)
unfolding node_edges
named_edges_of base names from (types.Reference found) name named = let same : found ≡ name = cc in ap (λ (n : List ℕ). numbered_edges base from (number_of n names)) same
named_edges_of base names from (types.IeContainer found) name named = let same : found ≡ name = cc in ap (λ (n : List ℕ). numbered_edges base from (number_of n names)) same
named_edges_of base names from (types.Pdu found) name named = let same : found ≡ name = cc in ap (λ (n : List ℕ). numbered_edges base from (number_of n names)) same
named_edges_of base names from _ name named = cc

-- a step to the assignment of a name
pub record ToName (base : ℕ) (names : List Assignment) (d : Definition) (to : ℕ) : Type 0 where
  pub name : List ℕ
  pub number : ℕ
  pub named : name_in d ≡ Some name
  pub found : number_of name names ≡ Some number
  pub at : to ≡ base + number

abbrev pub Into : ℕ → ℕ → List Assignment → ℕ → Definition → ℕ → Type 0
Into f base names from d to = ((to < from) × (f ≤ to)) ⊎ ToName base names d to

member_into : (f from to : ℕ) (cs : List Component) → AreBelow from cs → AllFrom f cs → IsAmong (edge from to) (member_edges from cs) → (to < from) × (f ≤ to)
unfolding member_edges
member_into f from to [] below least h = elim h [ ]
member_into f from to (c ∷ cs) below least (inl is) =
    let same : c.definition.number ≡ to = ap (λ (e : Edge). e.to) is in
    (omega (arith, below.0), omega (arith, least.0))
member_into f from to (c ∷ cs) below least (inr h) = member_into f from to cs below.1 least.1 h

members_into : (f from to : ℕ) (cs ds : List Component) → AreBelow from cs → AreBelow from ds → AllFrom f cs → AllFrom f ds → IsAmong (edge from to) (member_edges from cs ++ member_edges from ds) → (to < from) × (f ≤ to)
members_into f from to cs ds below under least lower h = elim (among_cases (edge from to) (member_edges from cs) (member_edges from ds) h) [
  | inl l ↦ member_into f from to cs below least l
  | inr r ↦ member_into f from to ds under lower r
]

pub numbered_into : (base : ℕ) (names : List Assignment) (from to : ℕ) (d : Definition) (name : List ℕ) → name_in d ≡ Some name → IsAmong (edge from to) (numbered_edges base from (number_of name names)) → ToName base names d to
numbered_into base names from to d name named h = go (number_of name names) refl h
  where
    go : (o : Option ℕ) → number_of name names ≡ o → IsAmong (edge from to) (numbered_edges base from o) → ToName base names d to
    go None found among = elim among [ ]
    go (Some number) found (inl is) = record { name = name; number = number; named = named; found = found; at = sym (ap (λ (e : Edge). e.to) is) }
    go (Some number) found (inr among) = elim among [ ]

pub node_into : (f base : ℕ) (names : List Assignment) (from to : ℕ) (d : Definition) → IsInside from d → IsFrom f d → IsAmong (edge from to) (node_edges base names from d) → Into f base names from d to
unfolding node_edges
node_into f base names from to (types.Sequence members) inside least h = inl (members_into f from to members.root (additions_of members.additions) inside.0 inside.1 least.0 least.1 h)
node_into f base names from to (types.Choice members) inside least h = inl (members_into f from to members.root (additions_of members.additions) inside.0 inside.1 least.0 least.1 h)
node_into f base names from to (types.SequenceOf size element) inside least (inl is) =
    let same : element.number ≡ to = ap (λ (e : Edge). e.to) is in
    inl (omega (arith, inside), omega (arith, least))
node_into f base names from to (types.SequenceOf size element) inside least (inr h) = elim h [ ]
node_into f base names from to (types.Reference name) inside least h = inr (numbered_into base names from to (types.Reference name) name refl h)
node_into f base names from to (types.IeContainer set) inside least h = inr (numbered_into base names from to (types.IeContainer set) set refl h)
node_into f base names from to (types.Pdu set) inside least h = inr (numbered_into base names from to (types.Pdu set) set refl h)
node_into f base names from to _ inside least h = elim h [ ]

-- a step from a type among all is one of that type's
pub record FromNode (base : ℕ) (names : List Assignment) (start : ℕ) (nodes : List Node) (v to : ℕ) : Type 0 where
  pub i : ℕ
  pub node : Node
  pub at : v ≡ start + i
  pub there : slice_get nodes i ≡ Some node
  pub inside : IsInside v node.definition
  pub among : IsAmong (edge v to) (node_edges base names v node.definition)

member_begins : (from : ℕ) (cs : List Component) (e : Edge) → IsAmong e (member_edges from cs) → e.from ≡ from
unfolding member_edges
member_begins from [] e h = elim h [ ]
member_begins from (c ∷ cs) e (inl is) = sym (ap (λ (x : Edge). x.from) is)
member_begins from (c ∷ cs) e (inr h) = member_begins from cs e h

members_begin : (from : ℕ) (cs ds : List Component) (e : Edge) → IsAmong e (member_edges from cs ++ member_edges from ds) → e.from ≡ from
members_begin from cs ds e h = elim (among_cases e (member_edges from cs) (member_edges from ds) h) [
  | inl l ↦ member_begins from cs e l
  | inr r ↦ member_begins from ds e r
]

numbered_begins : (base from : ℕ) (o : Option ℕ) (e : Edge) → IsAmong e (numbered_edges base from o) → e.from ≡ from
numbered_begins base from None e h = elim h [ ]
numbered_begins base from (Some number) e (inl is) = sym (ap (λ (x : Edge). x.from) is)
numbered_begins base from (Some number) e (inr h) = elim h [ ]

node_begins : (base : ℕ) (names : List Assignment) (from : ℕ) (d : Definition) (e : Edge) → IsAmong e (node_edges base names from d) → e.from ≡ from
unfolding node_edges
node_begins base names from (types.Sequence members) e h = members_begin from members.root (additions_of members.additions) e h
node_begins base names from (types.Choice members) e h = members_begin from members.root (additions_of members.additions) e h
node_begins base names from (types.SequenceOf size element) e (inl is) = sym (ap (λ (x : Edge). x.from) is)
node_begins base names from (types.SequenceOf size element) e (inr h) = elim h [ ]
node_begins base names from (types.Reference name) e h = numbered_begins base from (number_of name names) e h
node_begins base names from (types.IeContainer set) e h = numbered_begins base from (number_of set names) e h
node_begins base names from (types.Pdu set) e h = numbered_begins base from (number_of set names) e h
node_begins base names from _ e h = elim h [ ]

pub from_node : (base : ℕ) (names : List Assignment) (start : ℕ) (nodes : List Node) (v to : ℕ) → AreOrdered start nodes → IsAmong (edge v to) (nodes_edges base names start nodes) → FromNode base names start nodes v to
unfolding nodes_edges
from_node base names start [] v to ordered h = elim h [ ]
from_node base names start (node ∷ nodes) v to ordered h =
    elim (among_cases (edge v to) (node_edges base names start node.definition) (nodes_edges base names (start + 1) nodes) h) [
      | inl l ↦ here (node_begins base names start node.definition (edge v to) l) l
      | inr r ↦ later (from_node base names (start + 1) nodes v to (subst (λ (k : ℕ). AreOrdered k nodes) (omega arith) ordered.1) r)
    ]
  where
    here : v ≡ start → IsAmong (edge v to) (node_edges base names start node.definition) → FromNode base names start (node ∷ nodes) v to
    here same among = record {
      i = 0;
      node = node;
      at = omega arith;
      there = refl;
      inside = subst (λ (k : ℕ). IsInside k node.definition) (sym same) ordered.0;
      among = subst (λ (k : ℕ). IsAmong (edge v to) (node_edges base names k node.definition)) (sym same) among;
    }

    later : FromNode base names (start + 1) nodes v to → FromNode base names start (node ∷ nodes) v to
    later rest = record { i = suc rest.i; node = rest.node; at = omega (arith, rest.at); there = rest.there; inside = rest.inside; among = rest.among }
