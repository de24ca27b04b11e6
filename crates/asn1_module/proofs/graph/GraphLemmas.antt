-- The steps from types and from an assignment, one after another.
use Rattle.std.proofs.Common.{◌≡◌, ℕ, suc, ◌+◌, ◌-◌, ◌<◌, ◌≤◌, List, [], ◌∷◌, ◌++◌, length, drop, get_or, sym, ◌∙◌, ap, append_assoc, append-nil, drop-cons, arith}
use Rattle.std.specs.Prelude.{Option}
use Rattle.asn1_syntax.specs.declared.types.definition.Node.{Node}
use Rattle.asn1_syntax.specs.declared.assignments.assignment.Assignment.{Assignment}
use Rattle.asn1_defs.specs.declared.graph.Edge.{Edge}
use Rattle.asn1_defs.specs.Numbers.{number_in}
use Rattle.asn1_defs.specs.Graph.{edge, definition_edges, node_edges, nodes_edges, range_edges}

pub range_turn : (from to end : ℕ) → to < end → range_edges from to (end - to) ≡ edge from to ∷ range_edges from (to + 1) (end - (to + 1))
unfolding range_edges
range_turn from to end h =
    let more : end - to ≡ suc (end - (to + 1)) = omega arith in
    ap (range_edges from to) more

pub range_end : (from to end : ℕ) → end ≤ to → range_edges from to (end - to) ≡ []
unfolding range_edges
range_end from to end h =
    let none : end - to ≡ 0 = omega arith in
    ap (range_edges from to) none

pub range_goes_on : (edges new : List Edge) (from to end : ℕ) (whole : List Edge) → to < end → new ≡ edges ++ edge from to ∷ [] → edges ++ range_edges from to (end - to) ≡ whole → new ++ range_edges from (to + 1) (end - (to + 1)) ≡ whole
range_goes_on edges new from to end whole h is so_far =
    ap (λ (es : List Edge). es ++ range_edges from (to + 1) (end - (to + 1))) is
    ∙ append_assoc edges (edge from to ∷ []) (range_edges from (to + 1) (end - (to + 1)))
    ∙ ap (λ (es : List Edge). edges ++ es) (sym (range_turn from to end h))
    ∙ so_far

pub range_done : (edges : List Edge) (from to end : ℕ) (whole : List Edge) → end ≤ to → edges ++ range_edges from to (end - to) ≡ whole → edges ≡ whole
range_done edges from to end whole h so_far =
    sym (append-nil edges) ∙ ap (λ (es : List Edge). edges ++ es) (sym (range_end from to end h)) ∙ so_far

-- one more type
pub nodes_turn : (base : ℕ) (assignments : List Assignment) (nodes : List Node) (i : ℕ) (d : Node) (target : Option ℕ) (edges new whole : List Edge) → i < length nodes → target ≡ number_in assignments (get_or nodes i d).definition
    → new ≡ edges ++ definition_edges base target i (get_or nodes i d).definition → edges ++ nodes_edges base assignments i (drop i nodes) ≡ whole → new ++ nodes_edges base assignments (i + 1) (drop (i + 1) nodes) ≡ whole
unfolding nodes_edges node_edges
nodes_turn base assignments nodes i d target edges new whole lt is step so_far =
    ap (λ (es : List Edge). es ++ nodes_edges base assignments (i + 1) (drop (i + 1) nodes)) (step ∙ ap (λ (t : Option ℕ). edges ++ definition_edges base t i (get_or nodes i d).definition) is)
    ∙ append_assoc edges (definition_edges base (number_in assignments (get_or nodes i d).definition) i (get_or nodes i d).definition) (nodes_edges base assignments (i + 1) (drop (i + 1) nodes))
    ∙ ap (λ (ns : List Node). edges ++ nodes_edges base assignments i ns) (next ∙ sym (drop-cons nodes i d lt))
    ∙ so_far
  where
    next : get_or nodes i d ∷ drop (i + 1) nodes ≡ get_or nodes i d ∷ drop (suc i) nodes
    next = let more : i + 1 ≡ suc i = omega arith in ap (λ (n : ℕ). get_or nodes i d ∷ drop n nodes) more
