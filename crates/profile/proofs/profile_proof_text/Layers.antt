-- A module in layers: each step from a type or assignment leads to one with a lower number. So nothing reaches itself, and nothing nests deep.
use Rattle.std.proofs.Common.{◌≡◌, ℕ, zero, suc, ◌+◌, ◌<◌, ◌≤◌, ◌==◌, ◌⊎◌, inl, inr, cond, Bool, true, false, List, [], ◌∷◌, length, Option, Some, None, refl, sym, ap, subst, ◌∙◌, arith, get_or}
use Rattle.std.specs.Prelude.{◌&&◌, nat_lt, nat_le, slice_index, slice_set, replicate, is_none, if◌then◌else◌}
use Rattle.std.specs.List.{list_all}
use Rattle.std.proofs.lemmas.Bool.Decides.{nat_tests}
use Rattle.asn1_syntax.specs.declared.assignments.assignment.Syntax.{Syntax}
use Rattle.asn1_defs.specs.declared.graph.Edge.{Edge}
use Rattle.asn1_defs.specs.Graph.{vertex_count, edges_of}
use Rattle.asn1_defs.specs.Paths.{IsAmong, IsStep, Leads, Nests, IsFirst, first, further, alone, around}
use Rattle.asn1_defs.specs.Names.{first_unknown}
use Rattle.asn1_defs.specs.Judgement.{weights_of, IsSound}

-- ---- numbers for vertices, found in so many rounds
unfoldable pub raise : List ℕ → ℕ → ℕ → List ℕ
raise table at value = if nat_lt (slice_index table at) value then slice_set table at value else table

unfoldable pub relaxed : List Edge → List ℕ → List ℕ
relaxed [] table = table
relaxed (e ∷ es) table = relaxed es (raise table e.from (1 + slice_index table e.to))

unfoldable pub rounds : ℕ → List Edge → List ℕ → List ℕ
rounds zero es table = table
rounds (suc n) es table = rounds n es (relaxed es table)

unfoldable pub layers : Syntax → List ℕ
layers m = rounds 9 (edges_of m) (replicate (vertex_count m) 0)

abbrev pub falls : List ℕ → Edge → Bool
falls table e = nat_lt (slice_index table e.to) (slice_index table e.from)

abbrev pub is_layered_by : List ℕ → Syntax → Bool
is_layered_by table m = list_all (falls table) (edges_of m)
    && (list_all (λ n. nat_le n 59) table && list_all (λ w. nat_le w 1) (weights_of m))

abbrev pub is_layered : Syntax → Bool
is_layered m = is_layered_by (layers m) m

-- ---- what follows
both_left : (a b : Bool) → (a && b) ≡ true → a ≡ true
both_left true b h = refl
both_left false b h = cc

both_right : (a b : Bool) → (a && b) ≡ true → b ≡ true
both_right true b h = h
both_right false b h = cc

below : (a b : ℕ) → nat_lt a b ≡ true → a < b
below a b h = grind (arith, nat_tests)

at_most : (a b : ℕ) → nat_le a b ≡ true → a ≤ b
at_most a b h = grind (arith, nat_tests)

falls_at : (table : List ℕ) (es : List Edge) (e : Edge) → list_all (falls table) es ≡ true → IsAmong e es
    → slice_index table e.to < slice_index table e.from
falls_at table [] e h a = absurd a
falls_at table (f ∷ es) e h (inl s) = subst (λ g. slice_index table g.to < slice_index table g.from) s
    (below (slice_index table f.to) (slice_index table f.from) (both_left (falls table f) (list_all (falls table) es) h))
falls_at table (f ∷ es) e h (inr a) = falls_at table es e (both_right (falls table f) (list_all (falls table) es) h) a

small_at : (n : ℕ) (xs : List ℕ) (i : ℕ) → list_all (λ x. nat_le x n) xs ≡ true → slice_index xs i ≤ n
small_at n [] i h = omega arith
small_at n (x ∷ xs) zero h = at_most x n (both_left (nat_le x n) (list_all (λ x. nat_le x n) xs) h)
small_at n (x ∷ xs) (suc i) h = small_at n xs i (both_right (nat_le x n) (list_all (λ x. nat_le x n) xs) h)

module _ (table : List ℕ) (count : ℕ) (es : List Edge) (all : list_all (falls table) es ≡ true) where
  leads_falls : (a b : ℕ) → Leads count es a b → slice_index table b < slice_index table a
  leads_falls a b (first s) = falls_at table es _ all s.among
  leads_falls a b (further {b = c} l s) = omega (arith, leads_falls a c l, falls_at table es _ all s.among)

  nests_low : (weights : List ℕ) → list_all (λ w. nat_le w 1) weights ≡ true → (a d : ℕ) → Nests count es weights a d
      → d ≤ slice_index table a + 1
  nests_low weights light a _ (alone h) = omega (arith, small_at 1 weights a light)
  nests_low weights light a _ (around {b = b} {d = d} s n) =
      omega (arith, small_at 1 weights a light, nests_low weights light b d n, falls_at table es _ all s.among)

none_is : (x : Option ℕ) → is_none x ≡ true → x ≡ None
none_is None h = refl
none_is (Some x) h = cc

pub sound_of : (m : Syntax) (table : List ℕ) → is_layered_by table m ≡ true → is_none (first_unknown m.assignments m.nodes) ≡ true → IsSound m
sound_of m table h known =
    let es = edges_of m in
    let all : list_all (falls table) es ≡ true = both_left (list_all (falls table) es)
    (list_all (λ n. nat_le n 59) table && list_all (λ w. nat_le w 1) (weights_of m)) h in
    let later : (list_all (λ n. nat_le n 59) table && list_all (λ w. nat_le w 1) (weights_of m)) ≡ true = both_right (list_all (falls table) es)
    (list_all (λ n. nat_le n 59) table && list_all (λ w. nat_le w 1) (weights_of m)) h in
    let low : list_all (λ n. nat_le n 59) table ≡ true = both_left (list_all (λ n. nat_le n 59) table) (list_all (λ w. nat_le w 1) (weights_of m)) later in
    let light : list_all (λ w. nat_le w 1) (weights_of m) ≡ true =
    both_right (list_all (λ n. nat_le n 59) table) (list_all (λ w. nat_le w 1) (weights_of m)) later in
    record {
      known = none_is (first_unknown m.assignments m.nodes) known;
      finite = λ k small loop. absurd (omega (arith, leads_falls table (vertex_count m) es all (length m.nodes + k) (length m.nodes + k) loop));
      shallow = λ k small deep. absurd (omega (
        arith,
        nests_low table (vertex_count m) es all (weights_of m) light (length m.nodes + k) deep.0 deep.1,
        small_at 59 table (length m.nodes + k) low,
        deep.2,
      ));
    }
