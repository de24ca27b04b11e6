-- What the depths tell, and how long the list of weights is.
use Rattle.std.proofs.Common.{◌≡◌, ℕ, suc, ◌+◌, ◌-◌, ◌<◌, ◌≤◌, List, [], ◌∷◌, length, take, get_or, replicate, min, refl, sym, ap, ◌∙◌, subst, inl, inr, arith, length-append}
use Rattle.std.specs.Prelude.{Option, Result, IfOk}
use Rattle.std.proofs.lemmas.List.{length-replicate, take_all}
use Rattle.std.proofs.lemmas.Bool.{cases_lt}
use Rattle.asn1_syntax.specs.declared.types.definition.Node.{Node}
use Rattle.asn1_syntax.specs.declared.assignments.assignment.Syntax.{Syntax}
use Rattle.asn1_defs.specs.declared.graph.Edge.{Edge}
use Rattle.asn1_defs.specs.Graph.{vertex_count, edges_of}
use Rattle.asn1_module.specs.graph.Walks.{IsDepth}
use Rattle.asn1_defs.specs.Paths.{Nests, IsFirst, Leads}
use Rattle.asn1_defs.specs.Judgement.{node_weights, weights_of, IsTooDeep, IsFirstRecursive}

pub deep_told : (count : ℕ) (edges : List Edge) (weights t : List ℕ) (v : ℕ) → IsDepth count edges weights t → v < count → 60 < get_or t v 0 → (d : ℕ) × Nests count edges weights v d × (60 < d)
deep_told count edges weights t v told lt h = let r = told.reached v lt in (r.0, r.1, omega (arith, r.2))

pub deep_not : (count : ℕ) (edges : List Edge) (weights t : List ℕ) (v : ℕ) → IsDepth count edges weights t → get_or t v 0 ≤ 60 → ((d : ℕ) × Nests count edges weights v d × (60 < d)) → ⊥
deep_not count edges weights t v told h nested = omega (arith, told.most v nested.0 nested.1, nested.2)

length-node_weights : (nodes : List Node) → length (node_weights nodes) ≡ length nodes
unfolding node_weights
length-node_weights [] = refl
length-node_weights (node ∷ nodes) = ap suc (length-node_weights nodes)

pub length-weights_of : (s : Syntax) → length (weights_of s) ≡ vertex_count s
length-weights_of s = length-append (node_weights s.nodes) (replicate (length s.assignments) 0) ∙ omega (arith, length-node_weights s.nodes, length-replicate {A = ℕ} (length s.assignments) 0)

pub take-min : (i : ℕ) (text : List ℕ) → take (min i (length text)) text ≡ take i text
take-min i text = elim (cases_lt i (length text)) [
  | inl lt ↦ ap (λ (n : ℕ). take n text) (omega arith)
  | inr past ↦ ap (λ (n : ℕ). take n text) (omega arith) ∙ take_all (length text) text (omega arith) ∙ sym (take_all i text past)
]

pub deep_here : (s : Syntax) (t : List ℕ) (number v value : ℕ) → IsDepth (vertex_count s) (edges_of s) (weights_of s) t → v ≡ length s.nodes + number → number < length s.assignments → value ≡ get_or t v 0 → 60 < value → IsTooDeep s number
deep_here s t number v value told at lt is h =
    deep_told (vertex_count s) (edges_of s) (weights_of s) t (length s.nodes + number) told (omega arith)
    (omega (arith, is, ap (λ (n : ℕ). get_or t n 0) at))

pub deep_absent : (s : Syntax) (t : List ℕ) (number v value : ℕ) → IsDepth (vertex_count s) (edges_of s) (weights_of s) t → v ≡ length s.nodes + number → value ≡ get_or t v 0 → value ≤ 60 → IsTooDeep s number → ⊥
deep_absent s t number v value told at is h nested =
    deep_not (vertex_count s) (edges_of s) (weights_of s) t (length s.nodes + number) told (omega (arith, is, ap (λ (n : ℕ). get_or t n 0) at)) nested

-- the first vertex that leads to itself, among those of assignments, is the first assignment that reaches itself
pub first_told : {E : Type 0} (s : Syntax) (edges : List Edge) (count base : ℕ) (r : Result (Option ℕ) E) → edges ≡ edges_of s → count ≡ vertex_count s → base ≡ length s.nodes
    → IfOk r (λ found. IsFirst (λ k. Leads count edges (base + k) (base + k)) (count - base) found) → IfOk r (λ found. IsFirstRecursive s found)
first_told s edges count base r is counts begins told =
    let size : vertex_count s - length s.nodes ≡ length s.assignments = omega arith in
    subst (λ (n : ℕ). IfOk r (λ found. IsFirst (λ k. Leads (vertex_count s) (edges_of s) (length s.nodes + k) (length s.nodes + k)) n found)) size
    (subst (λ (b : ℕ). IfOk r (λ found. IsFirst (λ k. Leads (vertex_count s) (edges_of s) (b + k) (b + k)) (vertex_count s - b) found)) begins
    (subst (λ (n : ℕ). IfOk r (λ found. IsFirst (λ k. Leads n (edges_of s) (base + k) (base + k)) (n - base) found)) counts
    (subst (λ (es : List Edge). IfOk r (λ found. IsFirst (λ k. Leads count es (base + k) (base + k)) (count - base) found)) is told)))
