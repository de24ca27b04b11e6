-- The rank of a type or name of a module: how many types and names it leads to. It falls along each step, where none leads to itself.
use Rattle.std.proofs.Common.{◌≡◌, ℕ, zero, suc, ◌+◌, ◌<◌, ◌≤◌, List, get_or, replicate, Bool, false, cond, refl, subst, inl, inr, ◌⊎◌, arith}
use Rattle.std.proofs.lemmas.Bool.{cases_lt}
use Rattle.gnb_types.proofs.Choices.{by_test, by_choice}
use Rattle.asn1_syntax.specs.declared.assignments.assignment.Syntax.{Syntax}
use Rattle.asn1_defs.specs.declared.graph.Edge.{Edge}
use Rattle.asn1_defs.specs.Graph.{vertex_count, edges_of}
use Rattle.asn1_defs.specs.Paths.{IsStep, Leads, first, further}
use Rattle.asn1_module.specs.graph.Walks.{IsReach, mark_step, round_of}
use Rattle.asn1_module.specs.graph.Tables.{MarksWell}
use Rattle.asn1_module.proofs.graph.PathLemmas.{slack, mark_round_keeps, mark_round_less, mark_round_done, no_marks}

-- ---- how many marks a table has among its first values

mark : ℕ → ℕ
mark zero = 0
mark (suc n) = 1

mark_up : (a b : ℕ) → (0 < a → 0 < b) → mark a ≤ mark b
unfolding mark
mark_up zero b h = omega arith
mark_up (suc a) zero h = absurd (omega (arith, h (omega arith)))
mark_up (suc a) (suc b) h = omega arith

mark_most : (a : ℕ) → mark a ≤ 1
unfolding mark
mark_most zero = omega arith
mark_most (suc a) = omega arith

mark_some : (a : ℕ) → 0 < a → mark a ≡ 1
unfolding mark
mark_some zero h = absurd (omega arith)
mark_some (suc a) h = refl

mark_none : (a : ℕ) → a ≡ 0 → mark a ≡ 0
unfolding mark
mark_none zero h = refl
mark_none (suc a) h = absurd (omega arith)

marks : ℕ → List ℕ → ℕ
marks zero t = 0
marks (suc n) t = mark (get_or t n 0) + marks n t

marks_most : (n : ℕ) (t : List ℕ) → marks n t ≤ n
unfolding marks
marks_most zero t = omega arith
marks_most (suc n) t = omega (arith, mark_most (get_or t n 0), marks_most n t)

marks_up : (n : ℕ) (t u : List ℕ) → ((v : ℕ) → 0 < get_or t v 0 → 0 < get_or u v 0) → marks n t ≤ marks n u
unfolding marks
marks_up zero t u h = omega arith
marks_up (suc n) t u h = omega (arith, mark_up (get_or t n 0) (get_or u n 0) (h n), marks_up n t u h)

marks_less : (n : ℕ) (t u : List ℕ) (v : ℕ) → ((v : ℕ) → 0 < get_or t v 0 → 0 < get_or u v 0) → v < n → get_or t v 0 ≡ 0
    → 0 < get_or u v 0 → marks n t < marks n u
unfolding marks
marks_less zero t u v h lt none some = absurd (omega arith)
marks_less (suc n) t u v h lt none some = go (cases_lt v n) (λ before. marks_less n t u v h before none some)
  where
    go : (v < n) ⊎ (n ≤ v) → (v < n → marks n t < marks n u) → mark (get_or t n 0) + marks n t < mark (get_or u n 0) + marks n u
    go (inl before) less = omega (arith, mark_up (get_or t n 0) (get_or u n 0) (h n), less before)
    go (inr past) less =
        let same : v ≡ n = omega arith in
        let low : mark (get_or t n 0) ≡ 0 = mark_none (get_or t n 0) (subst (λ (k : ℕ). get_or t k 0 ≡ 0) same none) in
        let high : mark (get_or u n 0) ≡ 1 = mark_some (get_or u n 0) (subst (λ (k : ℕ). 0 < get_or u k 0) same some) in
        omega (arith, low, high, marks_up n t u h)

-- ---- the table of what a vertex leads to

one_round : List Edge → ℕ → List ℕ → Bool × List ℕ
one_round edges start t = round_of (mark_step start) false t edges

reached_by : ℕ → List Edge → ℕ → List ℕ → List ℕ
reached_by zero edges start t = (one_round edges start t).1
reached_by (suc rounds) edges start t =
    cond (one_round edges start t).0 (reached_by rounds edges start (one_round edges start t).1) (one_round edges start t).1

reached_is : (count : ℕ) (edges : List Edge) (start : ℕ) → start < count → (rounds : ℕ) (t : List ℕ) → slack 1 t ≤ rounds
    → MarksWell count edges start t → IsReach count edges start (reached_by rounds edges start t)
unfolding reached_by one_round
reached_is count edges start lt zero t h well =
    by_test (IsReach count edges start (round_of (mark_step start) false t edges).1) (round_of (mark_step start) false t edges).0
    (λ goes. absurd (omega (arith, mark_round_less start t edges goes)))
    (λ ends. mark_round_done count edges start t well ends)
reached_is count edges start lt (suc rounds) t h well =
    by_choice (IsReach count edges start) (round_of (mark_step start) false t edges).0 _ _
    (λ goes. reached_is count edges start lt rounds (round_of (mark_step start) false t edges).1
    (omega (arith, mark_round_less start t edges goes)) (mark_round_keeps count edges start t lt well))
    (λ ends. mark_round_done count edges start t well ends)

table : Syntax → ℕ → List ℕ
table m v = reached_by (slack 1 (replicate (vertex_count m) 0)) (edges_of m) v (replicate (vertex_count m) 0)

table_is : (m : Syntax) (v : ℕ) → v < vertex_count m → IsReach (vertex_count m) (edges_of m) v (table m v)
unfolding table
table_is m v lt =
    reached_is (vertex_count m) (edges_of m) v lt (slack 1 (replicate (vertex_count m) 0)) (replicate (vertex_count m) 0) (omega arith)
    (no_marks (vertex_count m) (edges_of m) v)

-- ---- ranks

pub rank : Syntax → ℕ → ℕ
rank m v = marks (vertex_count m) (table m v)

pub rank_most : (m : Syntax) (v : ℕ) → rank m v ≤ vertex_count m
unfolding rank
rank_most m v = marks_most (vertex_count m) (table m v)

pub leads_after : (count : ℕ) (edges : List Edge) (a b c : ℕ) → IsStep count edges a b → Leads count edges b c → Leads count edges a c
leads_after count edges a b c step (first last) = further (first step) last
leads_after count edges a b c step (further {b = d} path last) = further (leads_after count edges a b d step path) last

pub rank_falls : (m : Syntax) (a b : ℕ) → IsStep (vertex_count m) (edges_of m) a b → (Leads (vertex_count m) (edges_of m) b b → ⊥)
    → rank m b < rank m a
unfolding rank
rank_falls m a b step finite =
    let from = table_is m a step.from in
    let to = table_is m b step.to in
    marks_less (vertex_count m) (table m b) (table m a) b
    (λ v marked. from.all v (leads_after (vertex_count m) (edges_of m) a b v step (to.marked v marked)))
    step.to
    (elim (cases_lt 0 (get_or (table m b) b 0)) [ inl marked ↦ absurd (finite (to.marked b marked)) | inr none ↦ omega arith ])
    (from.all b (first step))
