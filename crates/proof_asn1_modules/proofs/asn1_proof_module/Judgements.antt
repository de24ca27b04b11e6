-- Each module has one judgement.
use Rattle.std.proofs.Common.{◌≡◌, ℕ, zero, suc, ◌+◌, ◌<◌, ◌≤◌, List, [], ◌∷◌, length, get_or, replicate, false, refl, sym, ap, ◌∙◌, subst, inl, inr, arith}
use Rattle.std.specs.Prelude.{◌⊎◌, Option, Some, None, slice_get}
use Rattle.std.proofs.lemmas.Bool.{cases_lt}
use Rattle.std.proofs.lemmas.Option.{slice_get-get_or}
use Rattle.gnb_types.proofs.Choices.{by_test}
use Rattle.asn1_syntax.specs.declared.types.fault.Fault.{Fault}
use Rattle.asn1_syntax.specs.declared.types.fault.ModuleReason.{ModuleReason}
use Rattle.asn1_syntax.specs.declared.types.fault.ModuleReason.TheVariants as reasons
use Rattle.asn1_syntax.specs.declared.assignments.assignment.Assignment.{Assignment}
use Rattle.asn1_syntax.specs.declared.assignments.assignment.Syntax.{Syntax}
use Rattle.asn1_defs.specs.declared.graph.Edge.{Edge}
use Rattle.asn1_defs.specs.Names.{first_unknown}
use Rattle.asn1_defs.specs.Graph.{vertex_count, edges_of}
use Rattle.asn1_module.specs.graph.Walks.{IsReach, IsDepth, mark_step, depth_step, depth_cap, round_of}
use Rattle.asn1_defs.specs.Paths.{IsFirst}
use Rattle.asn1_defs.specs.Judgement.{weights_of, IsRecursive, IsTooDeep, IsFirstRecursive, IsFirstDeep, IsAt, IsSound, Judged, sound, unknown, recursive, deep}
use Rattle.asn1_module.specs.graph.Tables.{MarksWell, TellsWell}
use Rattle.asn1_module.proofs.graph.PathLemmas.{slack, mark_round_keeps, mark_round_less, mark_round_done, no_marks, depth_round_keeps, depth_round_less, depth_round_done, own_weights}
use Rattle.asn1_module.proofs.JudgementLemmas.{deep_told, deep_not, length-weights_of}

-- One of two first numbers isn't before the other.
first_same : (P : ℕ → Type 0) (n j k : ℕ) → IsFirst P n (Some j) → IsFirst P n (Some k) → j ≡ k
first_same P n j k a b =
    elim (cases_lt j k) [
      | inl before ↦ absurd (b.2 j before a.1)
      | inr past ↦ elim (cases_lt k j) [ inl before ↦ absurd (a.2 k before b.1) | inr other ↦ omega arith ]
    ]

first_clash : (P : ℕ → Type 0) (n k : ℕ) → IsFirst P n None → IsFirst P n (Some k) → ⊥
first_clash P n k none some = none k some.0 some.1

at_same : (s : Syntax) (j k : ℕ) (reason : ModuleReason) (f g : Fault) → j ≡ k → IsAt s j reason f → IsAt s k reason g → f ≡ g
at_same s j k reason f g same a b =
    let place : Some a.assignment ≡ Some b.assignment = sym a.there ∙ ap (λ (n : ℕ). slice_get s.assignments n) same ∙ b.there in
    let one : a.assignment ≡ b.assignment = cc in
    a.is ∙ ap (λ (x : Assignment). record { place = x.place; reason = reason }) one ∙ sym b.is

some_none : {A : Type 0} (x : A) (o : Option A) → o ≡ Some x → o ≡ None → ⊥
some_none x o a b = cc

-- a sound module has no fault
pub sound_clash : (s : Syntax) (f : Fault) → Judged s None → Judged s (Some f) → ⊥
sound_clash s f a b = go None (Some f) a b refl refl
  where
    fine : IsSound s → Judged s (Some f) → ⊥
    fine ok (unknown h) = some_none h.place _ h.unknown ok.known
    fine ok (recursive h) = first_clash (IsRecursive s) (length s.assignments) h.number ok.finite h.recursive
    fine ok (deep h) = first_clash (IsTooDeep s) (length s.assignments) h.number ok.shallow h.deep

    go : (o p : Option Fault) → Judged s o → Judged s p → o ≡ None → p ≡ Some f → ⊥
    go o p (sound ok) j none is = fine ok (subst (Judged s) is j)
    go o p (unknown {fault} h) j none is = cc
    go o p (recursive {fault} h) j none is = cc
    go o p (deep {fault} h) j none is = cc

-- two faults of a module are one
pub fault_same : (s : Syntax) (f g : Fault) → Judged s (Some f) → Judged s (Some g) → f ≡ g
fault_same s f g (unknown a) (unknown b) =
    let place : Some a.place ≡ Some b.place = sym a.unknown ∙ b.unknown in
    let one : a.place ≡ b.place = cc in
    a.is ∙ ap (λ (n : ℕ). record { place = n; reason = reasons.Unknown }) one ∙ sym b.is
fault_same s f g (unknown a) (recursive b) = absurd (some_none a.place _ a.unknown b.known)
fault_same s f g (unknown a) (deep b) = absurd (some_none a.place _ a.unknown b.known)
fault_same s f g (recursive a) (unknown b) = absurd (some_none b.place _ b.unknown a.known)
fault_same s f g (recursive a) (recursive b) = at_same s a.number b.number reasons.Recursive f g (first_same (IsRecursive s) (length s.assignments) a.number b.number a.recursive b.recursive) a.is b.is
fault_same s f g (recursive a) (deep b) = absurd (first_clash (IsRecursive s) (length s.assignments) a.number b.finite a.recursive)
fault_same s f g (deep a) (unknown b) = absurd (some_none b.place _ b.unknown a.known)
fault_same s f g (deep a) (recursive b) = absurd (first_clash (IsRecursive s) (length s.assignments) b.number a.finite b.recursive)
fault_same s f g (deep a) (deep b) = at_same s a.number b.number reasons.Deep f g (first_same (IsTooDeep s) (length s.assignments) a.number b.number a.deep b.deep) a.is b.is

-- rounds come to an end
reach_from : (count : ℕ) (edges : List Edge) (start : ℕ) → start < count → (fuel : ℕ) (t : List ℕ) → slack 1 t ≤ fuel → MarksWell count edges start t → (u : List ℕ) × IsReach count edges start u
reach_from count edges start lt zero t h well =
    by_test ((u : List ℕ) × IsReach count edges start u) (round_of (mark_step start) false t edges).0
    (λ goes. absurd (omega (arith, mark_round_less start t edges goes)))
    (λ ends. ((round_of (mark_step start) false t edges).1, mark_round_done count edges start t well ends))
reach_from count edges start lt (suc fuel) t h well =
    by_test ((u : List ℕ) × IsReach count edges start u) (round_of (mark_step start) false t edges).0
    (λ goes. reach_from count edges start lt fuel (round_of (mark_step start) false t edges).1 (omega (arith, mark_round_less start t edges goes)) (mark_round_keeps count edges start t lt well))
    (λ ends. ((round_of (mark_step start) false t edges).1, mark_round_done count edges start t well ends))

depth_from : (count : ℕ) (edges : List Edge) (weights : List ℕ) (fuel : ℕ) (t : List ℕ) → slack depth_cap t ≤ fuel → TellsWell count edges weights t → (u : List ℕ) × IsDepth count edges weights u
depth_from count edges weights zero t h well =
    by_test ((u : List ℕ) × IsDepth count edges weights u) (round_of (depth_step weights) false t edges).0
    (λ goes. absurd (omega (arith, depth_round_less weights t edges goes)))
    (λ ends. ((round_of (depth_step weights) false t edges).1, depth_round_done count edges weights t well ends))
depth_from count edges weights (suc fuel) t h well =
    by_test ((u : List ℕ) × IsDepth count edges weights u) (round_of (depth_step weights) false t edges).0
    (λ goes. depth_from count edges weights fuel (round_of (depth_step weights) false t edges).1 (omega (arith, depth_round_less weights t edges goes)) (depth_round_keeps count edges weights t well))
    (λ ends. ((round_of (depth_step weights) false t edges).1, depth_round_done count edges weights t well ends))

-- the first number with a property that can be told
search_first : (P : ℕ → Type 0) (n : ℕ) → ((k : ℕ) → k < n → P k ⊎ (P k → ⊥)) → (o : Option ℕ) × IsFirst P n o
search_first P zero told = (None, λ k lt p. absurd (omega arith))
search_first P (suc n) told = go (search_first P n (λ k lt. told k (omega arith))) (told n (omega arith))
  where
    go : ((o : Option ℕ) × IsFirst P n o) → P n ⊎ (P n → ⊥) → (o : Option ℕ) × IsFirst P (suc n) o
    go (Some k, there) last = (Some k, (omega (arith, there.0), there.1, there.2))
    go (None, none) (inl p) = (Some n, (omega arith, p, none))
    go (None, none) (inr not) = (None, λ k lt p. by_place k lt p (cases_lt k n))
      where
        by_place : (k : ℕ) → k < suc n → P k → (k < n) ⊎ (n ≤ k) → ⊥
        by_place k lt p (inl before) = none k before p
        by_place k lt p (inr past) = not (subst P (omega arith) p)

tell_recursive : (s : Syntax) (k : ℕ) → k < length s.assignments → IsRecursive s k ⊎ (IsRecursive s k → ⊥)
tell_recursive s k lt =
    let v = length s.nodes + k in
    let inner : length s.nodes + k < vertex_count s = omega arith in
    let found = reach_from (vertex_count s) (edges_of s) (length s.nodes + k) inner (slack 1 (replicate (vertex_count s) 0)) (replicate (vertex_count s) 0) (omega arith) (no_marks (vertex_count s) (edges_of s) (length s.nodes + k)) in
    elim (cases_lt 0 (get_or found.0 (length s.nodes + k) 0)) [
      | inl above ↦ inl (found.1.marked (length s.nodes + k) above)
      | inr none ↦ inr (λ path. absurd (omega (arith, found.1.all (length s.nodes + k) path)))
    ]

tell_deep : (s : Syntax) (k : ℕ) → k < length s.assignments → IsTooDeep s k ⊎ (IsTooDeep s k → ⊥)
tell_deep s k lt =
    let found = depth_from (vertex_count s) (edges_of s) (weights_of s) (slack depth_cap (weights_of s)) (weights_of s) (omega arith) (own_weights (vertex_count s) (edges_of s) (weights_of s) (length-weights_of s)) in
    elim (cases_lt 60 (get_or found.0 (length s.nodes + k) 0)) [
      | inl above ↦ inl (deep_told (vertex_count s) (edges_of s) (weights_of s) found.0 (length s.nodes + k) found.1 (omega arith) above)
      | inr below ↦ inr (deep_not (vertex_count s) (edges_of s) (weights_of s) found.0 (length s.nodes + k) found.1 below)
    ]

slice_at : {A : Type 0} (xs : List A) (k : ℕ) → k < length xs → (a : A) × (slice_get xs k ≡ Some a)
slice_at [] k lt = absurd (omega arith)
slice_at (x ∷ xs) k lt = (get_or (x ∷ xs) k x, slice_get-get_or (x ∷ xs) k x lt)

is_at : (s : Syntax) (k : ℕ) (reason : ModuleReason) → k < length s.assignments → (f : Fault) × IsAt s k reason f
is_at s k reason lt =
    let there = slice_at s.assignments k lt in
    (record { place = there.0.place; reason = reason }, record { assignment = there.0; there = there.1; is = refl })

-- each module has a judgement
pub judged : (s : Syntax) → (o : Option Fault) × Judged s o
judged s = names (first_unknown s.assignments s.nodes) refl
  where
    depths : first_unknown s.assignments s.nodes ≡ None → IsFirstRecursive s None → ((o : Option ℕ) × IsFirstDeep s o) → (o : Option Fault) × Judged s o
    depths known finite (None, none) = (None, sound (record { known = known; finite = finite; shallow = none }))
    depths known finite (Some k, there) =
        let fault = is_at s k reasons.Deep there.0 in
        (Some fault.0, deep (record { known = known; finite = finite; number = k; deep = there; is = fault.1 }))

    paths : first_unknown s.assignments s.nodes ≡ None → ((o : Option ℕ) × IsFirstRecursive s o) → (o : Option Fault) × Judged s o
    paths known (None, none) = depths known none (search_first (IsTooDeep s) (length s.assignments) (tell_deep s))
    paths known (Some k, there) =
        let fault = is_at s k reasons.Recursive there.0 in
        (Some fault.0, recursive (record { known = known; number = k; recursive = there; is = fault.1 }))

    names : (o : Option ℕ) → first_unknown s.assignments s.nodes ≡ o → (f : Option Fault) × Judged s f
    names None known = paths known (search_first (IsRecursive s) (length s.assignments) (tell_recursive s))
    names (Some place) h = (Some (record { place = place; reason = reasons.Unknown }), unknown (record { place = place; unknown = h; is = refl }))
