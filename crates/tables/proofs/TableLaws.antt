-- Laws of `find`, `put`, `without` and `at`. Those on look-ups ask for no order among the entries.
use Rattle.std.proofs.Common.{◌<◌, length, get_or, arith, zero, suc, ◌≡◌, ◌≢◌, ℕ, ◌+◌, Bool, true, false, cond, not, List, [], ◌∷◌, Option, Some, None, refl, sym, ap, ◌∙◌, true≢false}
use Rattle.std.specs.Prelude.{unwrap_or, sum_by}
use Rattle.std.specs.Option.{option_map}
use Rattle.std.specs.declared.cmp.Ordering.{Ordering}
use Rattle.std.specs.declared.cmp.Ordering.TheVariants.{Less, Equal, Greater}
use Rattle.std.specs.Ordering.{ordering_reverse, is_eq, eq_by_cmp, match_ordering}
use Rattle.std.specs.Cmp.{IsTotalOrder, alike_right, tied_itself, Equal-is}
use Rattle.std.specs.List.{filter, AllByRecursion}
use Rattle.std.specs.List.Sorted.{IsStrictlySortedBy}
use Rattle.std.proofs.lemmas.Map.Keys.{sorted_head, sorted_tail, sorted_from_all_adjacent, Less-from_sorted}
use Rattle.std.specs.Map.{lookup, values_of, keys_of}
use Rattle.std.specs.BTreeMap.{is_at, insert_entry}
use Rattle.std.proofs.lemmas.Map.Entries.{sum_by-insert_entry, sum_by-remove_entry}
use Rattle.tables.specs.Tables.{map_values, find, put, without, at, IsSorted, IsKeyOrder}
use Rattle.tables.proofs.TableLemmas.{removed}

-- two keys that tie with the same key tie with each other
ties_meet : {K : Type 0} {R : K → K → Ordering} → IsTotalOrder R → (k q e : K) → R q e ≡ Equal → R q k ≡ Equal → R k e ≡ Equal
ties_meet o k q e at_e at_k = sym (o.congr q k e at_k) ∙ at_e

module _ {K : Type 0} {R : K → K → Ordering} (o : IsTotalOrder R) where
  -- a key below all of the others
  sorted_cons : (k : K) (ks : List K) → AllByRecursion (λ y. R k y ≡ Less) ks → IsStrictlySortedBy R ks → IsStrictlySortedBy R (k ∷ ks)
  sorted_cons k ks all sorted = sorted_from_all_adjacent o (k ∷ ks) k adjacent
    where
      first : (ks : List K) → AllByRecursion (λ y. R k y ≡ Less) ks → 0 < length ks → R k (get_or ks 0 k) ≡ Less
      first [] all h = absurd (omega arith)
      first (y ∷ ys) all h = all.0

      adjacent : (j : ℕ) → j + 1 < length (k ∷ ks) → R (get_or (k ∷ ks) j k) (get_or (k ∷ ks) (j + 1) k) ≡ Less
      adjacent zero h = first ks all (omega arith)
      adjacent (suc j) h =
          let next : suc j + 1 ≡ suc (j + 1) = omega arith in
          ap (λ (n : ℕ). R (get_or ks j k) (get_or (k ∷ ks) n k)) next ∙ Less-from_sorted R ks j (j + 1) k sorted (omega arith) (omega arith)

module _ {K X : Type 0} {R : K → K → Ordering} (o : IsTotalOrder R) where
  put_one : (r : Ordering) (e : K × X) (es : List (K × X)) (k : K) (v : X) (q : K) → R k e.0 ≡ r
      → lookup (is_at (R q)) (insert_entry R es k v) ≡ cond (is_at (R q) k) (Some v) (lookup (is_at (R q)) es)
      → lookup (is_at (R q)) (match_ordering r ((k, v) ∷ e ∷ es) ((e.0, v) ∷ es) (e ∷ insert_entry R es k v))
      ≡ cond (is_at (R q) k) (Some v) (lookup (is_at (R q)) (e ∷ es))
  put_one Less e es k v q is again = refl
  put_one Equal e es k v q is again =
      ap (λ (r : Ordering). cond (is_eq r) (Some v) (lookup (is_at (R q)) es)) (sym (alike_right o k e.0 q is))
      ∙ both (is_at (R q) k) (is_at (R q) e.0) (ap is_eq (alike_right o k e.0 q is))
    where
      both : (a b : Bool) → a ≡ b
          → cond a (Some v) (lookup (is_at (R q)) es) ≡ cond a (Some v) (cond b (Some e.1) (lookup (is_at (R q)) es))
      both true b same = refl
      both false true same = absurd cc
      both false false same = refl
  put_one Greater e es k v q is again =
      ap (cond (is_at (R q) e.0) (Some e.1)) again ∙ swapped (is_at (R q) e.0) (is_at (R q) k) refl refl
    where
      swapped : (a b : Bool) → is_at (R q) e.0 ≡ a → is_at (R q) k ≡ b
          → cond a (Some e.1) (cond b (Some v) (lookup (is_at (R q)) es)) ≡ cond b (Some v) (cond a (Some e.1) (lookup (is_at (R q)) es))
      swapped true true at_e at_k =
          absurd (true≢false (sym (ap is_eq (ties_meet o k q e.0 ((Equal-is (R q e.0)).0 at_e) ((Equal-is (R q k)).0 at_k))) ∙ ap is_eq is))
      swapped true false at_e at_k = refl
      swapped false b at_e at_k = refl

  -- what stands at q after a put at k
  pub find-put : (m : List (K × X)) (k : K) (v : X) (q : K) → find R (put R m k v) q ≡ cond (eq_by_cmp R q k) (Some v) (find R m q)
  unfolding find put
  find-put [] k v q = refl
  find-put (e ∷ es) k v q = put_one (R k e.0) e es k v q refl (find-put es k v q)

  pub find-put-same : (m : List (K × X)) (k : K) (v : X) → find R (put R m k v) k ≡ Some v
  find-put-same m k v = find-put m k v k ∙ ap (λ (r : Ordering). cond (is_eq r) (Some v) (find R m k)) (tied_itself o k)

  pub find-put-other : (m : List (K × X)) (k : K) (v : X) (q : K) → eq_by_cmp R q k ≡ false → find R (put R m k v) q ≡ find R m q
  find-put-other m k v q other = find-put m k v q ∙ ap (λ (b : Bool). cond b (Some v) (find R m q)) other

  without_one : (a b : Bool) (e : K × X) (es : List (K × X)) (k q : K) → is_at (R k) e.0 ≡ a → is_at (R q) e.0 ≡ b
      → lookup (is_at (R q)) (filter (λ f. not (is_at (R k) f.0)) es) ≡ cond (eq_by_cmp R q k) None (lookup (is_at (R q)) es)
      → lookup (is_at (R q)) (cond (not a) (e ∷ filter (λ f. not (is_at (R k) f.0)) es) (filter (λ f. not (is_at (R k) f.0)) es))
      ≡ cond (eq_by_cmp R q k) None (cond b (Some e.1) (lookup (is_at (R q)) es))
  without_one true true e es k q at_k at_q again =
      let tie : R q k ≡ Equal = alike_right o k e.0 q ((Equal-is (R k e.0)).0 at_k) ∙ (Equal-is (R q e.0)).0 at_q in
      again ∙ rw tie refl
  without_one true false e es k q at_k at_q again = again
  without_one false true e es k q at_k at_q again =
      ap (λ (b : Bool). cond b (Some e.1) (lookup (is_at (R q)) (filter (λ f. not (is_at (R k) f.0)) es))) at_q
      ∙ kept (eq_by_cmp R q k) refl
    where
      kept : (b : Bool) → eq_by_cmp R q k ≡ b → Some e.1 ≡ cond b None (Some e.1)
      kept true tie =
          absurd (true≢false (sym (ap is_eq (ties_meet o k q e.0 ((Equal-is (R q e.0)).0 at_q) ((Equal-is (R q k)).0 tie))) ∙ at_k))
      kept false tie = refl
  without_one false false e es k q at_k at_q again =
      ap (λ (b : Bool). cond b (Some e.1) (lookup (is_at (R q)) (filter (λ f. not (is_at (R k) f.0)) es))) at_q ∙ again

  -- what stands at q without k
  pub find-without : (m : List (K × X)) (k q : K) → find R (without R m k) q ≡ cond (eq_by_cmp R q k) None (find R m q)
  unfolding find without
  find-without [] k q = nothing (eq_by_cmp R q k)
    where
      nothing : (b : Bool) → ◌≡◌ {A = Option X} None (cond b None None)
      nothing true = refl
      nothing false = refl
  find-without (e ∷ es) k q = without_one (is_at (R k) e.0) (is_at (R q) e.0) e es k q refl refl (find-without es k q)

  pub find-without-same : (m : List (K × X)) (k : K) → find R (without R m k) k ≡ None
  find-without-same m k = find-without m k k ∙ ap (λ (r : Ordering). cond (is_eq r) None (find R m k)) (tied_itself o k)

  pub find-without-other : (m : List (K × X)) (k q : K) → eq_by_cmp R q k ≡ false → find R (without R m k) q ≡ find R m q
  find-without-other m k q other = find-without m k q ∙ ap (λ (b : Bool). cond b None (find R m q)) other

  pub at-put : (d : X) (m : List (K × X)) (k : K) (v : X) (q : K) → at R d (put R m k v) q ≡ cond (eq_by_cmp R q k) v (at R d m q)
  unfolding at
  at-put d m k v q = ap (λ (x : Option X). unwrap_or x d) (find-put m k v q) ∙ out (eq_by_cmp R q k)
    where
      out : (b : Bool) → unwrap_or (cond b (Some v) (find R m q)) d ≡ cond b v (unwrap_or (find R m q) d)
      out true = refl
      out false = refl

  pub at-without : (d : X) (m : List (K × X)) (k q : K) → at R d (without R m k) q ≡ cond (eq_by_cmp R q k) d (at R d m q)
  unfolding at
  at-without d m k q = ap (λ (x : Option X). unwrap_or x d) (find-without m k q) ∙ out (eq_by_cmp R q k)
    where
      out : (b : Bool) → unwrap_or (cond b None (find R m q)) d ≡ cond b d (unwrap_or (find R m q) d)
      out true = refl
      out false = refl

  -- ---- where the keys are in order

  all_put : (P : K → Type 0) (es : List (K × X)) (k : K) (v : X) → AllByRecursion P (keys_of es) → P k
      → AllByRecursion P (keys_of (insert_entry R es k v))
  all_put P [] k v all here = (here, tt)
  all_put P (e ∷ es) k v all here = by (R k e.0) (all_put P es k v all.1 here)
    where
      by : (r : Ordering) → AllByRecursion P (keys_of (insert_entry R es k v))
          → AllByRecursion P (keys_of (match_ordering r ((k, v) ∷ e ∷ es) ((e.0, v) ∷ es) (e ∷ insert_entry R es k v)))
      by Less rest = (here, all)
      by Equal rest = all
      by Greater rest = (all.0, rest)

  above_all : (k e : K) (es : List (K × X)) → R k e ≡ Less → AllByRecursion (λ y. R e y ≡ Less) (keys_of es)
      → AllByRecursion (λ y. R k y ≡ Less) (keys_of es)
  above_all k e [] below all = tt
  above_all k e (f ∷ es) below all = (o.trans k e f.0 below all.0, above_all k e es below all.1)

  sorted_one : (r : Ordering) (e : K × X) (es : List (K × X)) (k : K) (v : X) → R k e.0 ≡ r → IsSorted R (e ∷ es)
      → IsSorted R (insert_entry R es k v)
      → IsSorted R (match_ordering r ((k, v) ∷ e ∷ es) ((e.0, v) ∷ es) (e ∷ insert_entry R es k v))
  sorted_one Less e es k v is sorted again =
      sorted_cons o k (keys_of (e ∷ es)) (is, above_all k e.0 es is (sorted_head R e.0 (keys_of es) sorted)) sorted
  sorted_one Equal e es k v is sorted again = sorted
  sorted_one Greater e es k v is sorted again =
      sorted_cons o e.0 (keys_of (insert_entry R es k v))
      (all_put (λ y. R e.0 y ≡ Less) es k v (sorted_head R e.0 (keys_of es) sorted) (o.antisymm e.0 k ∙ ap ordering_reverse is)) again

  pub sorted-put : (m : List (K × X)) (k : K) (v : X) → IsSorted R m → IsSorted R (put R m k v)
  unfolding put
  sorted-put [] k v sorted = sorted_cons o k [] tt sorted
  sorted-put (e ∷ es) k v sorted = sorted_one (R k e.0) e es k v refl sorted (sorted-put es k v (sorted_tail R e.0 (keys_of es) sorted))

  all_kept : (P : K → Type 0) (p : K → Bool) (es : List (K × X)) → AllByRecursion P (keys_of es)
      → AllByRecursion P (keys_of (filter (λ e. p e.0) es))
  all_kept P p [] all = tt
  all_kept P p (e ∷ es) all = by (p e.0) (all_kept P p es all.1)
    where
      by : (b : Bool) → AllByRecursion P (keys_of (filter (λ f. p f.0) es))
          → AllByRecursion P (keys_of (cond b (e ∷ filter (λ f. p f.0) es) (filter (λ f. p f.0) es)))
      by true rest = (all.0, rest)
      by false rest = rest

  pub sorted-without : (m : List (K × X)) (k : K) → IsSorted R m → IsSorted R (without R m k)
  unfolding without
  sorted-without [] k sorted = sorted
  sorted-without (e ∷ es) k sorted = by (is_at (R k) e.0) (sorted-without es k (sorted_tail R e.0 (keys_of es) sorted))
    where
      by : (b : Bool) → IsSorted R (filter (λ f. not (is_at (R k) f.0)) es)
          → IsSorted R (cond (not b) (e ∷ filter (λ f. not (is_at (R k) f.0)) es) (filter (λ f. not (is_at (R k) f.0)) es))
      by true rest = rest
      by false rest =
          sorted_cons o e.0 (keys_of (filter (λ f. not (is_at (R k) f.0)) es))
          (all_kept (λ y. R e.0 y ≡ Less) (λ y. not (is_at (R k) y)) es (sorted_head R e.0 (keys_of es) sorted)) rest

  -- a sum over the values: the old value goes, the new one comes
  pub sum-put : (f : X → ℕ) (m : List (K × X)) (k : K) (v : X) → IsSorted R m
      → sum_by f (values_of (put R m k v)) + unwrap_or (option_map f (find R m k)) 0 ≡ sum_by f (values_of m) + f v
  unfolding find put
  sum-put f m k v sorted = sum_by-insert_entry f o m k v sorted

  pub sum-without : (f : X → ℕ) (m : List (K × X)) (k : K) → IsSorted R m
      → sum_by f (values_of (without R m k)) + unwrap_or (option_map f (find R m k)) 0 ≡ sum_by f (values_of m)
  unfolding find
  sum-without f m k sorted =
      ap (λ (es : List (K × X)). sum_by f (values_of es) + unwrap_or (option_map f (lookup (is_at (R k)) m)) 0) (sym (removed o k m sorted))
      ∙ sum_by-remove_entry f (is_at (R k)) m

-- another key, where the order distinguishes all keys
pub other_key : {K : Type 0} {R : K → K → Ordering} → IsKeyOrder R → (q k : K) → q ≢ k → eq_by_cmp R q k ≡ false
other_key {R = R} o q k apart = by (eq_by_cmp R q k) refl
  where
    by : (b : Bool) → eq_by_cmp R q k ≡ b → b ≡ false
    by true tie = absurd (apart (o.exact q k ((Equal-is (R q k)).0 tie)))
    by false tie = refl

-- ---- a function of the values

module _ {K X Y : Type 0} (R : K → K → Ordering) (f : X → Y) where
  pub find-mapped : (m : List (K × X)) (k : K) → find R (map_values f m) k ≡ option_map f (find R m k)
  unfolding find map_values
  find-mapped [] k = refl
  find-mapped (e ∷ es) k = by (is_at (R k) e.0) (find-mapped es k)
    where
      by : (b : Bool) → lookup (is_at (R k)) (map_values f es) ≡ option_map f (lookup (is_at (R k)) es)
          → cond b (Some (f e.1)) (lookup (is_at (R k)) (map_values f es)) ≡ option_map f (cond b (Some e.1) (lookup (is_at (R k)) es))
      by true rest = refl
      by false rest = rest

  pub put-mapped : (m : List (K × X)) (k : K) (v : X) → put R (map_values f m) k (f v) ≡ map_values f (put R m k v)
  unfolding put map_values
  put-mapped [] k v = refl
  put-mapped (e ∷ es) k v = by (R k e.0) (put-mapped es k v)
    where
      by : (r : Ordering) → insert_entry R (map_values f es) k (f v) ≡ map_values f (insert_entry R es k v)
          → match_ordering r ((k, f v) ∷ (e.0, f e.1) ∷ map_values f es) ((e.0, f v) ∷ map_values f es) ((e.0, f e.1) ∷ insert_entry R (map_values f es) k (f v))
          ≡ map_values f (match_ordering r ((k, v) ∷ e ∷ es) ((e.0, v) ∷ es) (e ∷ insert_entry R es k v))
      by Less rest = refl
      by Equal rest = refl
      by Greater rest = ap (λ (m : List (K × Y)). (e.0, f e.1) ∷ m) rest

  pub without-mapped : (m : List (K × X)) (k : K) → without R (map_values f m) k ≡ map_values f (without R m k)
  unfolding without map_values
  without-mapped [] k = refl
  without-mapped (e ∷ es) k = by (is_at (R k) e.0) (without-mapped es k)
    where
      by : (b : Bool) → filter (λ x. not (is_at (R k) x.0)) (map_values f es) ≡ map_values f (filter (λ x. not (is_at (R k) x.0)) es)
          → cond (not b) ((e.0, f e.1) ∷ filter (λ x. not (is_at (R k) x.0)) (map_values f es)) (filter (λ x. not (is_at (R k) x.0)) (map_values f es))
          ≡ map_values f (cond (not b) (e ∷ filter (λ x. not (is_at (R k) x.0)) es) (filter (λ x. not (is_at (R k) x.0)) es))
      by true rest = rest
      by false rest = ap (λ (m : List (K × Y)). (e.0, f e.1) ∷ m) rest
