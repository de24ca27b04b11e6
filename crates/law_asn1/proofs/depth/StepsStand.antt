-- Types that stand in each other, and names: the steps of a module's graph, one way and the other.
use Rattle.std.proofs.Common.{◌≡◌, ℕ, zero, suc, ◌+◌, ◌<◌, List, [], ◌∷◌, ◌++◌, length, replicate, cond, get_or, refl, sym, ap, ◌∙◌, subst, inl, inr, arith}
use Rattle.std.specs.Prelude.{◌⊎◌, Option, Some, slice_get, slice_index, position}
use Rattle.std.specs.List.{position_from}
use Rattle.std.proofs.lemmas.List.{get_or-append-add, get_or-replicate}
use Rattle.std.proofs.lemmas.Option.{slice_get_within}
use Rattle.std.proofs.lemmas.Iterator.Adapters.{position_from-zero}
use Rattle.asn1_tokens.specs.Words.{is_text}
use Rattle.asn1_syntax.specs.declared.types.definition.Component.{Component}
use Rattle.asn1_syntax.specs.declared.types.definition.Definition.{Definition}
use Rattle.asn1_syntax.specs.declared.types.definition.Definition.TheVariants as types
use Rattle.asn1_syntax.specs.declared.types.definition.Node.{Node}
use Rattle.asn1_syntax.specs.types.Members.{additions_of}
use Rattle.asn1_syntax.specs.declared.assignments.assignment.Assignment.{Assignment}
use Rattle.asn1_syntax.specs.declared.assignments.assignment.Syntax.{Syntax}
use Rattle.asn1_syntax.specs.assignments.Index.{number_of}
use Rattle.asn1_defs.specs.declared.graph.Edge.{Edge}
use Rattle.asn1_defs.specs.Graph.{edge, member_edges, node_edges}
use Rattle.asn1_defs.specs.Judgement.{weight_of, node_weights, weights_of}
use Rattle.asn1_defs.specs.Links.{AreBelow, IsInside}
use Rattle.asn1_defs.specs.Paths.{IsAmong}
use Rattle.proof_asn1_modules.proofs.ranks.Steps.{among_left, among_right}
use Rattle.law_asn1.proofs.names.StepsHeld.{begin_of, among_cases, ToName, numbered_into}
use Rattle.law_asn1.specs.depth.Levels.{Item, Assigned}
use Rattle.law_asn1.proofs.depth.Paths.{IsPart, Holds, Below, itself, inside, Sound, AreSound}
use Rattle.law_asn1.proofs.depth.ModuleStands.{Laid, AreLaid}

-- ---- the assignments

pub record LaidFor (whole : List Node) (start : ℕ) (assignments : List Assignment) (k : ℕ) (g : Assigned) : Type 0 where
  pub assignment : Assignment
  pub there : slice_get assignments k ≡ Some assignment
  pub laid : Laid whole (begin_of start assignments k) assignment g

pub laid_for : (whole : List Node) (start : ℕ) (assignments : List Assignment) (gs : List Assigned) → AreLaid whole start assignments gs
    → (k : ℕ) (g : Assigned) → slice_get gs k ≡ Some g → LaidFor whole start assignments k g
unfolding AreLaid
laid_for whole start [] [] laid k g there = cc
laid_for whole start [] (h ∷ gs) laid k g there = absurd laid
laid_for whole start (a ∷ assignments) [] laid k g there = absurd laid
laid_for whole start (a ∷ assignments) (h ∷ gs) laid zero g there =
    let same : h ≡ g = cc in
    record { assignment = a; there = refl; laid = subst (Laid whole start a) same laid.0 }
laid_for whole start (a ∷ assignments) (h ∷ gs) laid (suc k) g there =
    let rest = laid_for whole a.end assignments gs laid.1 k g there in
    record { assignment = rest.assignment; there = rest.there; laid = rest.laid }

pub record LaidAt (whole : List Node) (start : ℕ) (assignments : List Assignment) (gs : List Assigned) (k : ℕ) (a : Assignment) : Type 0 where
  pub given : Assigned
  pub there : slice_get gs k ≡ Some given
  pub laid : Laid whole (begin_of start assignments k) a given

pub laid_at : (whole : List Node) (start : ℕ) (assignments : List Assignment) (gs : List Assigned) → AreLaid whole start assignments gs
    → (k : ℕ) (a : Assignment) → slice_get assignments k ≡ Some a → LaidAt whole start assignments gs k a
unfolding AreLaid
laid_at whole start [] [] laid k a there = cc
laid_at whole start [] (h ∷ gs) laid k a there = absurd laid
laid_at whole start (b ∷ assignments) [] laid k a there = absurd laid
laid_at whole start (b ∷ assignments) (h ∷ gs) laid zero a there =
    let same : b ≡ a = cc in
    record { given = h; there = refl; laid = subst (λ (x : Assignment). Laid whole start x h) same laid.0 }
laid_at whole start (b ∷ assignments) (h ∷ gs) laid (suc k) a there =
    let rest = laid_at whole b.end assignments gs laid.1 k a there in
    record { given = rest.given; there = rest.there; laid = rest.laid }

same_place : (name : List ℕ) (i start : ℕ) (whole : List Node) (assignments : List Assignment) (gs : List Assigned) → AreLaid whole start assignments gs
    → position_from (λ (g : Assigned). is_text g.name name) i gs ≡ position_from (λ (a : Assignment). is_text a.name name) i assignments
unfolding AreLaid
same_place name i start whole [] [] laid = refl
same_place name i start whole [] (g ∷ gs) laid = absurd laid
same_place name i start whole (a ∷ assignments) [] laid = absurd laid
same_place name i start whole (a ∷ assignments) (g ∷ gs) laid =
    ap (λ (n : List ℕ). cond (is_text n name) (Some i) (position_from (λ (h : Assigned). is_text h.name name) (i + 1) gs)) laid.0.name
    ∙ ap (λ (o : Option ℕ). cond (is_text a.name name) (Some i) o) (same_place name (i + 1) a.end whole assignments gs laid.1)

-- the first assignment of a name has one number, told of items or of the module
pub same_number : (name : List ℕ) (whole : List Node) (assignments : List Assignment) (gs : List Assigned) → AreLaid whole 0 assignments gs
    → position (λ (g : Assigned). is_text g.name name) gs ≡ number_of name assignments
same_number name whole assignments gs laid =
    position_from-zero (λ (g : Assigned). is_text g.name name) gs
    ∙ same_place name 0 0 whole assignments gs laid
    ∙ sym (position_from-zero (λ (a : Assignment). is_text a.name name) assignments)

pub sound_at : (whole : List Node) (From : ℕ → Type 0) (y : ℕ) (items : List Item) (i : ℕ) (item : Item) → AreSound whole From y items → slice_get items i ≡ Some item → Sound whole From y item
sound_at whole From y [] i item h there = cc
sound_at whole From y (m ∷ ms) zero item h there = let same : m ≡ item = cc in subst (Sound whole From y) same h.0
sound_at whole From y (m ∷ ms) (suc i) item h there = sound_at whole From y ms i item h.1 there

-- ---- levels of types and of assignments

weight_there : (nodes : List Node) (more : List ℕ) (v : ℕ) (node : Node) → slice_get nodes v ≡ Some node → slice_index (node_weights nodes ++ more) v ≡ weight_of node.definition
unfolding node_weights
weight_there [] more v node there = cc
weight_there (n ∷ nodes) more zero node there = let same : n ≡ node = cc in ap (λ (x : Node). weight_of x.definition) same
weight_there (n ∷ nodes) more (suc v) node there = weight_there nodes more v node there

pub type_weight : (m : Syntax) (v : ℕ) (node : Node) → slice_get m.nodes v ≡ Some node → slice_index (weights_of m) v ≡ weight_of node.definition
type_weight m v node there = weight_there m.nodes (replicate (length m.assignments) 0) v node there

length-node_weights : (nodes : List Node) → length (node_weights nodes) ≡ length nodes
unfolding node_weights
length-node_weights [] = refl
length-node_weights (node ∷ nodes) = ap suc (length-node_weights nodes)

pub name_weight : (m : Syntax) (k : ℕ) → k < length m.assignments → slice_index (weights_of m) (length m.nodes + k) ≡ 0
name_weight m k lt =
    ap (λ (n : ℕ). get_or (weights_of m) (n + k) 0) (sym (length-node_weights m.nodes))
    ∙ get_or-append-add (node_weights m.nodes) (replicate (length m.assignments) 0) k 0
    ∙ get_or-replicate (length m.assignments) k 0 0 lt

-- ---- steps from a type

part_has : (v r : ℕ) (cs : List Component) → IsPart r cs → IsAmong (edge v r) (member_edges v cs)
unfolding member_edges
part_has v r [] h = absurd h
part_has v r (c ∷ cs) (inl same) = inl (ap (λ (n : ℕ). edge v n) (sym same))
part_has v r (c ∷ cs) (inr h) = inr (part_has v r cs h)

-- from a type to each inside it, in its root or in its additions
pub holds_among : (base : ℕ) (names : List Assignment) (v r : ℕ) (d : Definition) → Holds d r → IsAmong (edge v r) (node_edges base names v d)
unfolding node_edges
holds_among base names v r (types.Sequence members) (inl h) = among_left (edge v r) (member_edges v members.root) (member_edges v (additions_of members.additions)) (part_has v r members.root h)
holds_among base names v r (types.Sequence members) (inr h) = among_right (edge v r) (member_edges v members.root) (member_edges v (additions_of members.additions)) (part_has v r (additions_of members.additions) h)
holds_among base names v r (types.Choice members) (inl h) = among_left (edge v r) (member_edges v members.root) (member_edges v (additions_of members.additions)) (part_has v r members.root h)
holds_among base names v r (types.Choice members) (inr h) = among_right (edge v r) (member_edges v members.root) (member_edges v (additions_of members.additions)) (part_has v r (additions_of members.additions) h)
holds_among base names v r (types.SequenceOf size element) h = inl (ap (λ (n : ℕ). edge v n) (sym h))
holds_among base names v r _ h = absurd h

part_of : (v r : ℕ) (cs : List Component) → IsAmong (edge v r) (member_edges v cs) → IsPart r cs
unfolding member_edges
part_of v r [] h = absurd h
part_of v r (c ∷ cs) (inl is) = inl (sym (ap (λ (e : Edge). e.to) is))
part_of v r (c ∷ cs) (inr h) = inr (part_of v r cs h)

member_of : (v r : ℕ) (cs ds : List Component) → IsAmong (edge v r) (member_edges v cs ++ member_edges v ds) → IsPart r cs ⊎ IsPart r ds
member_of v r cs ds h = elim (among_cases (edge v r) (member_edges v cs) (member_edges v ds) h) [
  | inl l ↦ inl (part_of v r cs l)
  | inr k ↦ inr (part_of v r ds k)
]

-- a step from a type leads to one inside it, or to the assignment of its name
pub among_holds : (base : ℕ) (names : List Assignment) (v r : ℕ) (d : Definition) → IsAmong (edge v r) (node_edges base names v d) → Holds d r ⊎ ToName base names d r
unfolding node_edges
among_holds base names v r (types.Sequence members) h = inl (member_of v r members.root (additions_of members.additions) h)
among_holds base names v r (types.Choice members) h = inl (member_of v r members.root (additions_of members.additions) h)
among_holds base names v r (types.SequenceOf size element) (inl is) = inl (sym (ap (λ (e : Edge). e.to) is))
among_holds base names v r (types.SequenceOf size element) (inr h) = absurd h
among_holds base names v r (types.Reference name) h = inr (numbered_into base names v r (types.Reference name) name refl h)
among_holds base names v r (types.IeContainer set) h = inr (numbered_into base names v r (types.IeContainer set) set refl h)
among_holds base names v r (types.Pdu set) h = inr (numbered_into base names v r (types.Pdu set) set refl h)
among_holds base names v r _ h = absurd h

part_less : (v r : ℕ) (cs : List Component) → AreBelow v cs → IsPart r cs → r < v
part_less v r [] below h = absurd h
part_less v r (c ∷ cs) below (inl same) = omega (arith, below.0, same)
part_less v r (c ∷ cs) below (inr h) = part_less v r cs below.1 h

pub holds_less : (v r : ℕ) (d : Definition) → IsInside v d → Holds d r → r < v
holds_less v r (types.Sequence members) within (inl h) = part_less v r members.root within.0 h
holds_less v r (types.Sequence members) within (inr h) = part_less v r (additions_of members.additions) within.1 h
holds_less v r (types.Choice members) within (inl h) = part_less v r members.root within.0 h
holds_less v r (types.Choice members) within (inr h) = part_less v r (additions_of members.additions) within.1 h
holds_less v r (types.SequenceOf size element) within h = omega (arith, within, h)
holds_less v r _ within h = absurd h

pub below_within : (whole : List Node) (v w s : ℕ) → Below whole v w s → v < length whole
below_within whole v w s (itself {new} there) = slice_get_within whole v new there
below_within whole v w s (inside {new} there holds path) = slice_get_within whole v new there
