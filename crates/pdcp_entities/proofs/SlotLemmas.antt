-- Slots as entries in the order of their COUNTs.
use Rattle.std.proofs.Common.{◌≡◌, ◌≢◌, ℕ, ◌+◌, ◌-◌, ◌<◌, ◌≤◌, Bool, true, false, cond, nat_le, nat_lt, ◌==◌, List, [], ◌∷◌, ◌++◌, length, drop, replicate, map, Option, Some, None, refl, sym, ap, ◌∙◌, arith, rules, suc, zero, add-zero, eqb-true}
use Rattle.std.proofs.lemmas.Grind.{common_steps}
use Rattle.std.proofs.lemmas.Bool.Decides.{nat_tests}
use Rattle.std.specs.Prelude.{slice_get, slice_set, unwrap_or, is_some}
use Rattle.std.specs.List.{AllByRecursion}
use Rattle.std.specs.Ordering.{nat_cmp, match_ordering}
use Rattle.std.specs.declared.cmp.Ordering.TheVariants.{Less, Equal, Greater}
use Rattle.std.specs.BTreeMap.{insert_entry, is_at}
use Rattle.std.specs.Map.{lookup}
use Rattle.tables.specs.Tables.{put, find as found}
use Rattle.pdcp_defs.specs.Senders.{last_of}
use Rattle.pdcp_defs.specs.Receivers.{bits_from}
use Rattle.pdcp_entities.specs.inside.Rings.{with_slot, held_from, padded, IsLastFull}
use Rattle.pdcp_entities.proofs.RingLemmas.{held_from-pushed}

differs_above : (k n : ℕ) → k < n → is_at (nat_cmp n) k ≡ false
differs_above k n h = grind (arith, nat_tests)

greater : (k n : ℕ) → n < k → nat_cmp k n ≡ Greater
greater k n h = grind (arith, nat_tests)

module _ {X : Type 0} where
  -- ---- bounds of the COUNTs

  all_with : (P : ℕ × X → Type 0) (c : ℕ) (s : Option X) (es : List (ℕ × X)) → ((x : X) → P (c, x)) → AllByRecursion P es → AllByRecursion P (with_slot c s es)
  all_with P c None es here all = all
  all_with P c (Some x) es here all = (here x, all)

  all_weaker : (P Q : ℕ × X → Type 0) → ((e : ℕ × X) → P e → Q e) → (es : List (ℕ × X)) → AllByRecursion P es → AllByRecursion Q es
  all_weaker P Q w [] all = tt
  all_weaker P Q w (e ∷ es) all = (w e all.0, all_weaker P Q w es all.1)

  pub held_from-low : (c : ℕ) (xs : List (Option X)) → AllByRecursion (λ e. c ≤ e.0) (held_from c xs)
  held_from-low c [] = tt
  held_from-low c (s ∷ xs) =
      all_with (λ e. c ≤ e.0) c s (held_from (c + 1) xs) (λ x. omega arith)
      (all_weaker (λ e. c + 1 ≤ e.0) (λ e. c ≤ e.0) (λ e h. omega arith) (held_from (c + 1) xs) (held_from-low (c + 1) xs))

  pub held_from-high : (c : ℕ) (xs : List (Option X)) → AllByRecursion (λ e. e.0 < c + length xs) (held_from c xs)
  held_from-high c [] = tt
  held_from-high c (s ∷ xs) =
      all_with (λ e. e.0 < c + length (s ∷ xs)) c s (held_from (c + 1) xs) (λ x. omega arith)
      (all_weaker (λ e. e.0 < c + 1 + length xs) (λ e. e.0 < c + length (s ∷ xs)) (λ e h. omega arith) (held_from (c + 1) xs) (held_from-high (c + 1) xs))

  -- ---- the slot of a COUNT

  pub found_in : (c i : ℕ) (xs : List (Option X)) → found nat_cmp (held_from c xs) (c + i) ≡ unwrap_or (slice_get xs i) None
  unfolding found
  found_in c i [] = refl
  found_in c zero (None ∷ xs) = absent c (c + 0) (held_from (c + 1) xs) (omega arith) (held_from-low (c + 1) xs)
    where
      absent : (c k : ℕ) (es : List (ℕ × X)) → k ≤ c → AllByRecursion (λ e. c + 1 ≤ e.0) es → lookup (is_at (nat_cmp k)) es ≡ None
      absent c k [] h all = refl
      absent c k (e ∷ es) h all =
          let other : is_at (nat_cmp k) e.0 ≡ false = differs k e.0 (let l : c + 1 ≤ e.0 = all.0 in omega arith) in
          ap (λ b. cond b (Some e.1) (lookup (is_at (nat_cmp k)) es)) other ∙ absent c k es h all.1
        where
          differs : (k n : ℕ) → k < n → is_at (nat_cmp k) n ≡ false
          differs k n h = grind (arith, nat_tests)
  found_in c zero (Some x ∷ xs) = grind (arith, nat_tests)
  found_in c (suc i) (None ∷ xs) =
      let e : c + suc i ≡ c + 1 + i = omega arith in
      ap (λ k. lookup (is_at (nat_cmp k)) (held_from (c + 1) xs)) e ∙ found_in (c + 1) i xs
  found_in c (suc i) (Some x ∷ xs) =
      let e : c + suc i ≡ c + 1 + i = omega arith in
      let other : is_at (nat_cmp (c + suc i)) c ≡ false = differs_above c (c + suc i) (omega arith) in
      ap (λ b. cond b (Some x) (lookup (is_at (nat_cmp (c + suc i))) (held_from (c + 1) xs))) other
      ∙ (ap (λ k. lookup (is_at (nat_cmp k)) (held_from (c + 1) xs)) e ∙ found_in (c + 1) i xs)

  -- ---- what is stored

  put_first : (k : ℕ) (x : X) (es : List (ℕ × X)) → AllByRecursion (λ e. k + 1 ≤ e.0) es → put nat_cmp es k x ≡ (k, x) ∷ es
  unfolding put
  put_first k x [] all = refl
  put_first k x (e ∷ es) all = let l : k + 1 ≤ e.0 = all.0 in grind (arith, nat_tests)

  put_last : (k : ℕ) (x : X) (es : List (ℕ × X)) → AllByRecursion (λ e. e.0 < k) es → put nat_cmp es k x ≡ es ++ (k, x) ∷ []
  unfolding put
  put_last k x [] all = refl
  put_last k x (e ∷ es) all =
      let above : nat_cmp k e.0 ≡ Greater = greater k e.0 all.0 in
      ap (λ r. match_ordering r ((k, x) ∷ e ∷ es) ((e.0, x) ∷ es) (e ∷ insert_entry nat_cmp es k x)) above
      ∙ ap (λ fs. e ∷ fs) (put_last k x es all.1)

  -- a COUNT whose slot is empty
  pub put_slot : (c i : ℕ) (xs : List (Option X)) (x : X) → i < length xs → unwrap_or (slice_get xs i) None ≡ None
      → held_from c (slice_set xs i (Some x)) ≡ put nat_cmp (held_from c xs) (c + i) x
  unfolding put
  put_slot c i [] x h e = absurd (omega arith)
  put_slot c zero (None ∷ xs) x h e =
      ap (λ k. (k, x) ∷ held_from (c + 1) xs) (sym (add-zero c))
      ∙ sym (put_first (c + 0) x (held_from (c + 1) xs) (all_weaker (λ e. c + 1 ≤ e.0) (λ e. c + 0 + 1 ≤ e.0) (λ e l. omega arith) (held_from (c + 1) xs) (held_from-low (c + 1) xs)))
  put_slot c zero (Some y ∷ xs) x h e = cc
  put_slot c (suc i) (None ∷ xs) x h e =
      let k : c + suc i ≡ c + 1 + i = omega arith in
      put_slot (c + 1) i xs x (omega arith) e ∙ ap (λ n. put nat_cmp (held_from (c + 1) xs) n x) (sym k)
  put_slot c (suc i) (Some y ∷ xs) x h e =
      let k : c + suc i ≡ c + 1 + i = omega arith in
      let above : nat_cmp (c + suc i) c ≡ Greater = greater (c + suc i) c (omega arith) in
      ap (λ es. (c, y) ∷ es) (put_slot (c + 1) i xs x (omega arith) e ∙ ap (λ n. put nat_cmp (held_from (c + 1) xs) n x) (sym k))
      ∙ sym (ap (λ r. match_ordering r ((c + suc i, x) ∷ (c, y) ∷ held_from (c + 1) xs) ((c, x) ∷ held_from (c + 1) xs) ((c, y) ∷ insert_entry nat_cmp (held_from (c + 1) xs) (c + suc i) x)) above)

  -- a COUNT after all slots
  pub put_after : (c n : ℕ) (xs : List (Option X)) (x : X) → length xs ≤ n
      → held_from c (padded xs n ++ Some x ∷ []) ≡ put nat_cmp (held_from c xs) (c + n) x
  put_after c n xs x h =
      held_from-pushed c xs n x h
      ∙ sym (put_last (c + n) x (held_from c xs) (all_weaker (λ e. e.0 < c + length xs) (λ e. e.0 < c + n) (λ e l. omega arith) (held_from c xs) (held_from-high c xs)))

  pub length-slot : (c i : ℕ) (xs : List (Option X)) (x : X) → i < length xs → unwrap_or (slice_get xs i) None ≡ None
      → length (held_from c (slice_set xs i (Some x))) ≡ length (held_from c xs) + 1
  length-slot c i [] x h e = absurd (omega arith)
  length-slot c zero (None ∷ xs) x h e = omega arith
  length-slot c zero (Some y ∷ xs) x h e = cc
  length-slot c (suc i) (None ∷ xs) x h e = length-slot (c + 1) i xs x (omega arith) e
  length-slot c (suc i) (Some y ∷ xs) x h e = omega (arith, length-slot (c + 1) i xs x (omega arith) e)

  pub length-after : (c n : ℕ) (xs : List (Option X)) (x : X) → length xs ≤ n
      → length (held_from c (padded xs n ++ Some x ∷ [])) ≡ length (held_from c xs) + 1
  length-after c n xs x h = ap length (held_from-pushed c xs n x h) ∙ grind (arith, common_steps)

  pub last-slot : (i : ℕ) (xs : List (Option X)) (x : X) → IsLastFull xs → IsLastFull (slice_set xs i (Some x))
  last-slot i [] x full = tt
  last-slot zero (s ∷ []) x full = refl
  last-slot (suc i) (s ∷ []) x full = full
  last-slot zero (s ∷ t ∷ xs) x full = full
  last-slot (suc zero) (s ∷ t ∷ xs) x full = last-slot zero (t ∷ xs) x full
  last-slot (suc (suc i)) (s ∷ t ∷ xs) x full = last-slot (suc i) (t ∷ xs) x full

  pub last-after : (xs : List (Option X)) (x : X) → IsLastFull (xs ++ Some x ∷ [])
  last-after [] x = refl
  last-after (s ∷ []) x = refl
  last-after (s ∷ t ∷ xs) x = last-after (t ∷ xs) x

  -- ---- how many are held

  pub held_from-length : (c : ℕ) (xs : List (Option X)) → length (held_from c xs) ≤ length xs
  held_from-length c [] = omega arith
  held_from-length c (None ∷ xs) = omega (arith, held_from-length (c + 1) xs)
  held_from-length c (Some x ∷ xs) = omega (arith, held_from-length (c + 1) xs)

  pub fewer : (c i : ℕ) (xs : List (Option X)) → i < length xs → unwrap_or (slice_get xs i) None ≡ None → length (held_from c xs) < length xs
  fewer c i [] h e = absurd (omega arith)
  fewer c zero (None ∷ xs) h e = omega (arith, held_from-length (c + 1) xs)
  fewer c zero (Some x ∷ xs) h e = cc
  fewer c (suc i) (None ∷ xs) h e = omega (arith, fewer (c + 1) i xs (omega arith) e)
  fewer c (suc i) (Some x ∷ xs) h e = omega (arith, fewer (c + 1) i xs (omega arith) e)

  -- ---- the bits of a status report

  bits-gap : (c : ℕ) (es : List (ℕ × X)) → AllByRecursion (λ e. c + 1 ≤ e.0) es → 0 < length es → bits_from c es ≡ false ∷ bits_from (c + 1) es
  bits-gap c [] all some = absurd (omega arith)
  bits-gap c (e ∷ es) all some =
      let l : c + 1 ≤ e.0 = all.0 in
      let n : e.0 - c ≡ suc (e.0 - (c + 1)) = omega arith in
      let a : nat_lt e.0 c ≡ false = grind (arith, nat_tests) in
      let b : nat_lt e.0 (c + 1) ≡ false = grind (arith, nat_tests) in
      ap (λ t. cond t (bits_from c es) (replicate (e.0 - c) false ++ true ∷ bits_from (e.0 + 1) es)) a
      ∙ (ap (λ m. replicate m false ++ true ∷ bits_from (e.0 + 1) es) n
      ∙ sym (ap (λ t. false ∷ cond t (bits_from (c + 1) es) (replicate (e.0 - (c + 1)) false ++ true ∷ bits_from (e.0 + 1) es)) b))

  some_held : (c : ℕ) (xs : List (Option X)) → IsLastFull xs → 0 < length xs → 0 < length (held_from c xs)
  some_held c [] full some = absurd (omega arith)
  some_held c (None ∷ []) full some = cc
  some_held c (Some x ∷ []) full some = omega arith
  some_held c (None ∷ t ∷ xs) full some = some_held (c + 1) (t ∷ xs) full (omega arith)
  some_held c (Some x ∷ t ∷ xs) full some = omega arith

  pub bits-held : (c : ℕ) (xs : List (Option X)) → IsLastFull xs → bits_from c (held_from c xs) ≡ map is_some xs
  bits-held c [] full = refl
  bits-held c (None ∷ []) full = cc
  bits-held c (None ∷ t ∷ xs) full =
      bits-gap c (held_from (c + 1) (t ∷ xs)) (held_from-low (c + 1) (t ∷ xs)) (some_held (c + 1) (t ∷ xs) full (omega arith))
      ∙ ap (λ bs. false ∷ bs) (bits-held (c + 1) (t ∷ xs) full)
  bits-held c (Some x ∷ xs) full =
      let a : nat_lt c c ≡ false = grind (arith, nat_tests) in
      let n : c - c ≡ 0 = omega arith in
      ap (λ t. cond t (bits_from c (held_from (c + 1) xs)) (replicate (c - c) false ++ true ∷ bits_from (c + 1) (held_from (c + 1) xs))) a
      ∙ (ap (λ m. replicate m false ++ true ∷ bits_from (c + 1) (held_from (c + 1) xs)) n ∙ ap (λ bs. true ∷ bs) (bits-held (c + 1) xs (tail xs full)))
    where
      tail : (ys : List (Option X)) → IsLastFull (Some x ∷ ys) → IsLastFull ys
      tail [] full = tt
      tail (t ∷ ys) full = full

  -- from the COUNT after the first on
  pub bits-after : (c : ℕ) (xs : List (Option X)) → IsLastFull xs → bits_from (c + 1) (held_from c xs) ≡ map is_some (drop 1 xs)
  bits-after c [] full = refl
  bits-after c (s ∷ []) full = by s
    where
      by : (s : Option X) → bits_from (c + 1) (with_slot c s []) ≡ []
      by None = refl
      by (Some x) = let a : nat_lt c (c + 1) ≡ true = grind (arith, nat_tests) in ap (λ t. cond t [] (replicate (c - (c + 1)) false ++ true ∷ [])) a
  bits-after c (s ∷ t ∷ xs) full = by s ∙ bits-held (c + 1) (t ∷ xs) full
    where
      by : (s : Option X) → bits_from (c + 1) (with_slot c s (held_from (c + 1) (t ∷ xs))) ≡ bits_from (c + 1) (held_from (c + 1) (t ∷ xs))
      by None = refl
      by (Some x) =
          let a : nat_lt c (c + 1) ≡ true = grind (arith, nat_tests) in
          ap (λ b. cond b (bits_from (c + 1) (held_from (c + 1) (t ∷ xs))) (replicate (c - (c + 1)) false ++ true ∷ bits_from (c + 1) (held_from (c + 1) (t ∷ xs)))) a

  -- ---- the last COUNT

  pub last_held : (l : Option ℕ) (c : ℕ) (xs : List (Option X)) → IsLastFull xs → 0 < length xs → last_of l (held_from c xs) ≡ Some (c + length xs - 1)
  last_held l c [] full some = absurd (omega arith)
  last_held l c (None ∷ []) full some = cc
  last_held l c (Some x ∷ []) full some = let e : c ≡ c + 1 - 1 = omega arith in ap (λ n. Some n) e
  last_held l c (s ∷ t ∷ xs) full some =
      let e : c + 1 + length (t ∷ xs) - 1 ≡ c + length (s ∷ t ∷ xs) - 1 = omega arith in
      by s (λ k. last_held k (c + 1) (t ∷ xs) full (omega arith)) ∙ ap (λ n. Some n) e
    where
      by : (s : Option X) → ((k : Option ℕ) → last_of k (held_from (c + 1) (t ∷ xs)) ≡ Some (c + 1 + length (t ∷ xs) - 1))
          → last_of l (with_slot c s (held_from (c + 1) (t ∷ xs))) ≡ Some (c + 1 + length (t ∷ xs) - 1)
      by None rest = rest l
      by (Some x) rest = rest (Some c)

pub above_last : (c n k : ℕ) → 0 < n → nat_le (c + n) k ≡ nat_lt (c + n - 1) k
above_last c n k h = grind (arith, nat_tests)

pub no_items : {X : Type 0} (c d : ℕ) (xs : List (Option X)) → (length xs == 0) ≡ true → held_from c xs ≡ held_from d xs
no_items c d [] e = refl
no_items c d (x ∷ xs) e = absurd (omega (arith, eqb-true (length (x ∷ xs)) 0 e))

-- what is appended
pub appended : {X : Type 0} (c d count : ℕ) (xs : List (Option X)) (x : X) → held_from d xs ≡ held_from c xs → d ≤ count → length xs ≤ count - d
    → held_from d (padded xs (count - d) ++ Some x ∷ []) ≡ held_from c xs ++ (count, x) ∷ []
appended c d count xs x same l h =
    let e : d + (count - d) ≡ count = omega arith in
    held_from-pushed d xs (count - d) x h ∙ (ap (λ es. es ++ (d + (count - d), x) ∷ []) same ∙ ap (λ n. held_from c xs ++ (n, x) ∷ []) e)
