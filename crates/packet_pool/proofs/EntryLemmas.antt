-- Entries of numbers as a table: what is found there, and what a change at one number is.
use Rattle.std.proofs.Common.{◌≡◌, ◌≢◌, ◌==◌, ℕ, zero, suc, ◌+◌, ◌<◌, ◌≤◌, Bool, true, false, cond, not, List, [], ◌∷◌, Option, Some, None, refl, sym, ap, ◌∙◌, subst, eqb-true, arith}
use Rattle.std.specs.Ordering.{nat_cmp, match_ordering, is_eq}
use Rattle.std.specs.declared.cmp.Ordering.{Ordering}
use Rattle.std.specs.declared.cmp.Ordering.TheVariants.{Less, Equal, Greater}
use Rattle.std.specs.Cmp.{tied_itself, nat_cmp_is}
use Rattle.std.specs.List.{AllByRecursion, filter}
use Rattle.std.specs.List.Sorted.{IsStrictlySortedBy}
use Rattle.std.specs.Map.{lookup}
use Rattle.std.specs.BTreeMap.{is_at, insert_entry}
use Rattle.std.proofs.lemmas.Bool.{eqb-false}
use Rattle.std.proofs.lemmas.Cmp.{nat_cmp_total}
use Rattle.tables.specs.Tables.{find, put, without, IsSorted}
use Rattle.tables.proofs.TableLaws.{other_key, sorted-put}
use Rattle.pdcp_defs.proofs.pool_defs.PoolLaws.{numbers_ordered}
use Rattle.packet_pool.specs.inside.Pools.{entry_before, entries}

is_here : (k n : ℕ) → k ≡ n → is_at (nat_cmp k) n ≡ true
is_here k n same = ap (λ (m : ℕ). is_at (nat_cmp k) m) (sym same) ∙ ap is_eq (tied_itself nat_cmp_total k)

not_here : (k n : ℕ) → k ≢ n → is_at (nat_cmp k) n ≡ false
not_here k n other = other_key numbers_ordered k n other

sorted_none : (X : Type 0) → IsSorted {X = X} nat_cmp []
unfolding IsStrictlySortedBy
sorted_none X = tt

module _ {X : Type 0} where
  -- ---- look-ups

  find_one : (k n : ℕ) (o : Option X) (rest : List (ℕ × X)) → k ≢ n → find nat_cmp (entry_before n o rest) k ≡ find nat_cmp rest k
  unfolding find
  find_one k n None rest other = refl
  find_one k n (Some x) rest other = ap (λ (b : Bool). cond b (Some x) (lookup (is_at (nat_cmp k)) rest)) (not_here k n other)

  find_head : (k n : ℕ) (o : Option X) (rest : List (ℕ × X)) → k ≡ n → find nat_cmp rest k ≡ None → find nat_cmp (entry_before n o rest) k ≡ o
  unfolding find
  find_head k n None rest same none = none
  find_head k n (Some x) rest same none = ap (λ (b : Bool). cond b (Some x) (lookup (is_at (nat_cmp k)) rest)) (is_here k n same)

  find_below : (f : ℕ → Option X) (first n k : ℕ) → k < first → find nat_cmp (entries f first n) k ≡ None
  unfolding entries find
  find_below f first zero k below = refl
  find_below f first (suc n) k below =
      find_one k first (f first) (entries f (suc first) n) (omega arith) ∙ find_below f (suc first) n k (omega arith)

  pub find_entries : (f : ℕ → Option X) (first n k : ℕ) → ((j : ℕ) → first + n ≤ j → f j ≡ None) → first ≤ k
      → find nat_cmp (entries f first n) k ≡ f k
  unfolding entries find
  find_entries f first zero k past low = sym (past k (omega arith))
  find_entries f first (suc n) k past low =
      by (k == first) refl (λ later. find_entries f (suc first) n k (λ j h. past j (omega arith)) later)
    where
      by : (b : Bool) → (k == first) ≡ b → (suc first ≤ k → find nat_cmp (entries f (suc first) n) k ≡ f k)
          → find nat_cmp (entry_before first (f first) (entries f (suc first) n)) k ≡ f k
      by true is again =
          let same : k ≡ first = eqb-true k first is in
          find_head k first (f first) (entries f (suc first) n) same (find_below f (suc first) n k (omega arith)) ∙ ap f (sym same)
      by false is again =
          let other : k ≢ first = eqb-false k first is in
          find_one k first (f first) (entries f (suc first) n) other ∙ again (omega arith)

  -- ---- the same

  pub entries_same : (f g : ℕ → Option X) (first n : ℕ) → ((j : ℕ) → first ≤ j → g j ≡ f j) → entries g first n ≡ entries f first n
  unfolding entries
  entries_same f g first zero same = refl
  entries_same f g first (suc n) same =
      ap (λ (o : Option X). entry_before first o (entries g (suc first) n)) (same first (omega arith))
      ∙ ap (entry_before first (f first)) (entries_same f g (suc first) n (λ j h. same j (omega arith)))

  -- ---- a value is put

  put_below_one : (k n : ℕ) (o : Option X) (v : X) (rest : List (ℕ × X)) → k < n → put nat_cmp rest k v ≡ (k, v) ∷ rest
      → put nat_cmp (entry_before n o rest) k v ≡ (k, v) ∷ entry_before n o rest
  unfolding put
  put_below_one k n None v rest below again = again
  put_below_one k n (Some x) v rest below again =
      ap (λ (r : Ordering). match_ordering r ((k, v) ∷ (n, x) ∷ rest) ((n, v) ∷ rest) ((n, x) ∷ insert_entry nat_cmp rest k v))
      (sym (nat_cmp_is k n Less below))

  put_below : (f : ℕ → Option X) (first n k : ℕ) (v : X) → k < first → put nat_cmp (entries f first n) k v ≡ (k, v) ∷ entries f first n
  unfolding entries put
  put_below f first zero k v below = refl
  put_below f first (suc n) k v below =
      put_below_one k first (f first) v (entries f (suc first) n) below (put_below f (suc first) n k v (omega arith))

  put_here : (k n : ℕ) (o : Option X) (v : X) (rest : List (ℕ × X)) → k ≡ n → put nat_cmp rest k v ≡ (k, v) ∷ rest
      → put nat_cmp (entry_before n o rest) k v ≡ (n, v) ∷ rest
  unfolding put
  put_here k n None v rest same below = below ∙ ap (λ (m : ℕ). (m, v) ∷ rest) same
  put_here k n (Some x) v rest same below =
      ap (λ (r : Ordering). match_ordering r ((k, v) ∷ (n, x) ∷ rest) ((n, v) ∷ rest) ((n, x) ∷ insert_entry nat_cmp rest k v))
      (sym (nat_cmp_is k n Equal same))

  put_above : (k n : ℕ) (o : Option X) (v : X) (rest : List (ℕ × X)) → n < k
      → put nat_cmp (entry_before n o rest) k v ≡ entry_before n o (put nat_cmp rest k v)
  unfolding put
  put_above k n None v rest above = refl
  put_above k n (Some x) v rest above =
      ap (λ (r : Ordering). match_ordering r ((k, v) ∷ (n, x) ∷ rest) ((n, v) ∷ rest) ((n, x) ∷ insert_entry nat_cmp rest k v))
      (sym (nat_cmp_is k n Greater above))

  module _ (f g : ℕ → Option X) (k : ℕ) (others : (j : ℕ) → j ≢ k → g j ≡ f j) where
    pub entries_put : (v : X) → g k ≡ Some v → (first n : ℕ) → first ≤ k → k < first + n
        → entries g first n ≡ put nat_cmp (entries f first n) k v
    unfolding entries
    entries_put v here first zero low high = absurd (omega arith)
    entries_put v here first (suc n) low high =
        by (k == first) refl (λ later. entries_put v here (suc first) n later (omega arith))
      where
        by : (b : Bool) → (k == first) ≡ b → (suc first ≤ k → entries g (suc first) n ≡ put nat_cmp (entries f (suc first) n) k v)
            → entry_before first (g first) (entries g (suc first) n) ≡ put nat_cmp (entry_before first (f first) (entries f (suc first) n)) k v
        by true is again =
            let same : k ≡ first = eqb-true k first is in
            let value : g first ≡ Some v = ap g (sym same) ∙ here in
            ap (λ (o : Option X). entry_before first o (entries g (suc first) n)) value
            ∙ ap (λ (rest : List (ℕ × X)). (first, v) ∷ rest) (entries_same f g (suc first) n (λ j h. others j (omega arith)))
            ∙ sym (put_here k first (f first) v (entries f (suc first) n) same (put_below f (suc first) n k v (omega arith)))
        by false is again =
            let other : k ≢ first = eqb-false k first is in
            let later : suc first ≤ k = omega arith in
            ap (λ (o : Option X). entry_before first o (entries g (suc first) n)) (others first (λ e. other (sym e)))
            ∙ ap (entry_before first (f first)) (again later)
            ∙ sym (put_above k first (f first) v (entries f (suc first) n) (omega arith))

    -- ---- a value is taken out

    pub entries_without : g k ≡ None → (first n : ℕ) → entries g first n ≡ without nat_cmp (entries f first n) k
    unfolding entries without
    entries_without none first zero = refl
    entries_without none first (suc n) = by (k == first) (f first) refl refl (entries_without none (suc first) n)
      where
        by : (b : Bool) (o : Option X) → (k == first) ≡ b → f first ≡ o
            → entries g (suc first) n ≡ filter (λ e. not (is_at (nat_cmp k) e.0)) (entries f (suc first) n)
            → entry_before first (g first) (entries g (suc first) n)
            ≡ filter (λ e. not (is_at (nat_cmp k) e.0)) (entry_before first o (entries f (suc first) n))
        by true None is at_first again =
            ap (λ (o : Option X). entry_before first o (entries g (suc first) n)) (ap g (sym (eqb-true k first is)) ∙ none) ∙ again
        by true (Some x) is at_first again =
            ap (λ (o : Option X). entry_before first o (entries g (suc first) n)) (ap g (sym (eqb-true k first is)) ∙ none) ∙ again
            ∙ ap (λ (b : Bool). cond (not b) ((first, x) ∷ filter (λ e. not (is_at (nat_cmp k) e.0)) (entries f (suc first) n)) (filter (λ e. not (is_at (nat_cmp k) e.0)) (entries f (suc first) n)))
            (sym (is_here k first (eqb-true k first is)))
        by false None is at_first again =
            ap (λ (o : Option X). entry_before first o (entries g (suc first) n)) (others first (λ e. eqb-false k first is (sym e)) ∙ at_first) ∙ again
        by false (Some x) is at_first again =
            ap (λ (o : Option X). entry_before first o (entries g (suc first) n)) (others first (λ e. eqb-false k first is (sym e)) ∙ at_first)
            ∙ ap (λ (rest : List (ℕ × X)). (first, x) ∷ rest) again
            ∙ ap (λ (b : Bool). cond (not b) ((first, x) ∷ filter (λ e. not (is_at (nat_cmp k) e.0)) (entries f (suc first) n)) (filter (λ e. not (is_at (nat_cmp k) e.0)) (entries f (suc first) n)))
            (sym (not_here k first (eqb-false k first is)))

  -- ---- of all entries

  sorted_one : (first : ℕ) (o : Option X) (rest : List (ℕ × X)) → IsSorted nat_cmp rest
      → ((v : X) → put nat_cmp rest first v ≡ (first, v) ∷ rest) → IsSorted nat_cmp (entry_before first o rest)
  sorted_one first None rest sorted below = sorted
  sorted_one first (Some x) rest sorted below = subst (IsSorted nat_cmp) (below x) (sorted-put nat_cmp_total rest first x sorted)

  pub entries_sorted : (f : ℕ → Option X) (first n : ℕ) → IsSorted nat_cmp (entries f first n)
  unfolding entries
  entries_sorted f first zero = sorted_none X
  entries_sorted f first (suc n) =
      sorted_one first (f first) (entries f (suc first) n) (entries_sorted f (suc first) n)
      (λ v. put_below f (suc first) n first v (omega arith))

  pub entries_all : (P : ℕ → X → Type 0) (f : ℕ → Option X) (first n : ℕ) → ((k : ℕ) (x : X) → first ≤ k → f k ≡ Some x → P k x)
      → AllByRecursion (λ e. P e.0 e.1) (entries f first n)
  unfolding entries
  entries_all P f first zero each = tt
  entries_all P f first (suc n) each =
      by (f first) refl (entries_all P f (suc first) n (λ k x h. each k x (omega arith)))
    where
      by : (o : Option X) → f first ≡ o → AllByRecursion (λ e. P e.0 e.1) (entries f (suc first) n)
          → AllByRecursion (λ e. P e.0 e.1) (entry_before first o (entries f (suc first) n))
      by None is rest = rest
      by (Some x) is rest = (each first x (omega arith) is, rest)
