-- What stands on links, read off their tallies: how many items there are, and the least COUNT that one shows.
use Rattle.std.proofs.Common.{◌≡◌, ◌<◌, ◌≤◌, ℕ, ◌+◌, ◌==◌, Bool, true, false, cond, ◌&&◌, List, [], ◌∷◌, ◌++◌, length, Option, Some, None, refl, sym, ap, ◌∙◌, subst, arith, length-append, eq-eqb, eqb-true}
use Rattle.std.specs.Prelude.{min, nat_lt}
use Rattle.std.specs.List.{flat_map}
use Rattle.std.specs.Ordering.{eq_by_cmp}
use Rattle.std.specs.Map.{values_of}
use Rattle.std.proofs.lemmas.List.Sums.{sum_by-cons}
use Rattle.std.proofs.lemmas.Bool.Decides.{nat_tests}
use Rattle.gnb_types.specs.declared.keys.EntityKey.{EntityKey}
use Rattle.gnb_types.specs.Orders.{entity_cmp}
use Rattle.gnb_types.proofs.Choices.{by_test}
use Rattle.transport_defs.specs.declared.Item.{Item}
use Rattle.transport_defs.specs.Links.{items_of, counts_of, count_in, least, least_of}
use Rattle.links.specs.link_tallies.Tallies.{Tallies, number, times, IsLeast}
use Rattle.links.specs.link_tallies.Tied.{one_if, is_count, is_of_key, shows, weight, total, AreTallies}

-- ---- how many items

weight_is_length : {X : Type 0} (key : EntityKey) (items : List (Item X)) → weight (is_of_key key) items ≡ length (items_of key items)
weight_is_length key [] = refl
weight_is_length key (item ∷ items) = by (eq_by_cmp entity_cmp item.key key) (weight_is_length key items)
  where
    by : (b : Bool) → weight (is_of_key key) items ≡ length (items_of key items)
        → one_if b + weight (is_of_key key) items ≡ length (cond b (item ∷ items_of key items) (items_of key items))
    by true rest = omega arith
    by false rest = omega arith

module _ {K V X : Type 0} (items_in : V → List (Item X)) where
  total_is_length : (key : EntityKey) (links : List (K × V)) → total items_in (is_of_key key) links ≡ length (flat_map (λ e. items_of key (items_in e.1)) links)
  total_is_length key [] = refl
  total_is_length key (e ∷ es) =
      let first = sum_by-cons (λ v. weight (is_of_key key) (items_in v)) e.1 (values_of es) in
      let here = weight_is_length key (items_in e.1) in
      let rest = total_is_length key es in
      let both = length-append (items_of key (items_in e.1)) (flat_map (λ e. items_of key (items_in e.1)) es) in
      omega arith

  pub number_is : (t : Tallies) (links : List (K × V)) (key : EntityKey) → AreTallies items_in t links
      → number t key ≡ length (flat_map (λ e. items_of key (items_in e.1)) links)
  number_is t links key tied = tied.numbers key ∙ total_is_length key links

-- ---- the least COUNT

-- how often a number stands in a list
abbrev occurs : ℕ → List ℕ → ℕ
occurs c [] = 0
occurs c (n ∷ ns) = one_if (n == c) + occurs c ns

occurs-append : (c : ℕ) (ms ns : List ℕ) → occurs c (ms ++ ns) ≡ occurs c ms + occurs c ns
occurs-append c [] ns = omega arith
occurs-append c (m ∷ ms) ns = let rest = occurs-append c ms ns in omega arith

shown_by : (b : Bool) (count : Option ℕ) (c : ℕ) → one_if (b && is_count count c) ≡ occurs c (cond b (count_in count) [])
shown_by true None c = refl
shown_by true (Some d) c = omega arith
shown_by false count c = refl

weight_is_occurs : {X : Type 0} (key : EntityKey) (c : ℕ) (items : List (Item X)) → weight (shows key c) items ≡ occurs c (flat_map (counts_of key) items)
weight_is_occurs key c [] = refl
weight_is_occurs key c (item ∷ items) =
    let here = shown_by (eq_by_cmp entity_cmp item.key key) item.count c in
    let rest = weight_is_occurs key c items in
    let both = occurs-append c (counts_of key item) (flat_map (counts_of key) items) in
    omega arith

equal_counts : (n : ℕ) → one_if (n == n) ≡ 1
equal_counts n = ap one_if (eq-eqb n n refl)

counts_equal : (n c : ℕ) → 0 < one_if (n == c) → n ≡ c
counts_equal n c some = by_test (n ≡ c) (n == c) (λ t. eqb-true n c t) (λ f. absurd (none f))
  where
    none : (n == c) ≡ false → ⊥
    none f = let zero : one_if (n == c) ≡ 0 = ap one_if f in absurd (omega arith)

min_either : (n m c : ℕ) → one_if (min n m == c) ≤ one_if (n == c) + one_if (m == c)
min_either n m c = by_test (one_if (min n m == c) ≤ one_if (n == c) + one_if (m == c)) (nat_lt n m) left right
  where
    left : nat_lt n m ≡ true → one_if (min n m == c) ≤ one_if (n == c) + one_if (m == c)
    left t =
        let below : n < m = grind (arith, nat_tests) in
        let is : min n m ≡ n = omega arith in
        let same : one_if (min n m == c) ≡ one_if (n == c) = ap (λ (k : ℕ). one_if (k == c)) is in
        omega arith

    right : nat_lt n m ≡ false → one_if (min n m == c) ≤ one_if (n == c) + one_if (m == c)
    right f =
        let above : m ≤ n = grind (arith, nat_tests) in
        let is : min n m ≡ m = omega arith in
        let same : one_if (min n m == c) ≡ one_if (m == c) = ap (λ (k : ℕ). one_if (k == c)) is in
        omega arith

least_occurs : (n : ℕ) (ns : List ℕ) → 0 < occurs (least n ns) (n ∷ ns)
least_occurs n [] = let same = equal_counts n in omega arith
least_occurs n (m ∷ ms) =
    let rest = least_occurs (min n m) ms in
    let either = min_either n m (least (min n m) ms) in
    omega arith

least_below : (n : ℕ) (ns : List ℕ) (c : ℕ) → 0 < occurs c (n ∷ ns) → least n ns ≤ c
least_below n [] c some = let same : n ≡ c = counts_equal n c (omega arith) in omega arith
least_below n (m ∷ ms) c some = by_test (least (min n m) ms ≤ c) (nat_lt 0 (occurs c ms))
    (later (λ k. least_below (min n m) ms k)) (here (λ k. least_below (min n m) ms k))
  where
    later : ((k : ℕ) → 0 < occurs k (min n m ∷ ms) → least (min n m) ms ≤ k) → nat_lt 0 (occurs c ms) ≡ true → least (min n m) ms ≤ c
    later again t =
        let there : 0 < occurs c ms = grind (arith, nat_tests) in
        again c (omega arith)

    first : (a b : Bool) → (n == c) ≡ a → (m == c) ≡ b → 0 < one_if a + one_if b → min n m ≤ c
    first true b e f some = let same : n ≡ c = eqb-true n c e in omega arith
    first false true e f some = let same : m ≡ c = eqb-true m c f in omega arith
    first false false e f some = absurd (omega arith)

    here : ((k : ℕ) → 0 < occurs k (min n m ∷ ms) → least (min n m) ms ≤ k) → nat_lt 0 (occurs c ms) ≡ false → least (min n m) ms ≤ c
    here again f =
        let none : occurs c ms ≤ 0 = grind (arith, nat_tests) in
        let low : min n m ≤ c = first (n == c) (m == c) refl refl (omega arith) in
        let own = equal_counts (min n m) in
        let least_is : least (min n m) ms ≤ min n m = again (min n m) (omega arith) in
        omega arith

is_least_of : (f : ℕ → ℕ) (ns : List ℕ) (r : Option ℕ) → ((c : ℕ) → f c ≡ occurs c ns) → IsLeast f r → r ≡ least_of ns
is_least_of f [] None same is = refl
is_least_of f [] (Some c) same is = let none = same c in let some = is.0 in absurd (omega arith)
is_least_of f (n ∷ ns) None same is =
    let none = is (least n ns) in
    let same_there = same (least n ns) in
    let there = least_occurs n ns in
    absurd (omega arith)
is_least_of f (n ∷ ns) (Some c) same is =
    let here : 0 < occurs c (n ∷ ns) = subst (λ (k : ℕ). 0 < k) (same c) is.0 in
    let low : least n ns ≤ c = least_below n ns c here in
    let high : c ≤ least n ns = is.1 (least n ns) (subst (λ (k : ℕ). 0 < k) (sym (same (least n ns))) (least_occurs n ns)) in
    let equal : c ≡ least n ns = omega arith in
    ap Some equal

module _ {K V X : Type 0} (items_in : V → List (Item X)) where
  total_is_occurs : (key : EntityKey) (c : ℕ) (links : List (K × V))
      → total items_in (shows key c) links ≡ occurs c (flat_map (λ e. flat_map (counts_of key) (items_in e.1)) links)
  total_is_occurs key c [] = refl
  total_is_occurs key c (e ∷ es) =
      let first = sum_by-cons (λ v. weight (shows key c) (items_in v)) e.1 (values_of es) in
      let here = weight_is_occurs key c (items_in e.1) in
      let rest = total_is_occurs key c es in
      let both = occurs-append c (flat_map (counts_of key) (items_in e.1)) (flat_map (λ e. flat_map (counts_of key) (items_in e.1)) es) in
      omega arith

  pub least_is_of : (t : Tallies) (links : List (K × V)) (key : EntityKey) (r : Option ℕ) → AreTallies items_in t links → IsLeast (times t key) r
      → r ≡ least_of (flat_map (λ e. flat_map (counts_of key) (items_in e.1)) links)
  least_is_of t links key r tied is =
      is_least_of (times t key) (flat_map (λ e. flat_map (counts_of key) (items_in e.1)) links) r (λ c. tied.counts key c ∙ total_is_occurs key c links) is
