-- What slots in a row hold.
use Rattle.std.proofs.Common.{◌≡◌, ◌≢◌, ℕ, ◌+◌, ◌-◌, ◌<◌, ◌≤◌, Bool, true, false, cond, nat_le, nat_lt, List, [], ◌∷◌, ◌++◌, length, take, drop, replicate, Option, Some, None, refl, sym, ap, ◌∙◌, arith, rules, suc, zero, append_assoc, add-zero, map, max, ◌==◌}
use Rattle.std.proofs.lemmas.Grind.{common_steps}
use Rattle.std.proofs.lemmas.Bool.Decides.{nat_tests}
use Rattle.std.specs.Prelude.{find, slice_get, slice_set, unwrap_or, IsSome, is_some}
use Rattle.std.specs.List.{AllByRecursion}
use Rattle.std.specs.Ordering.{nat_cmp}
use Rattle.std.specs.BTreeMap.{insert_entry, is_at}
use Rattle.std.specs.Map.{lookup}
use Rattle.tables.specs.Tables.{put, find as found}
use Rattle.pdcp_defs.specs.Senders.{last_of}
use Rattle.pdcp_defs.specs.Receivers.{bits_from}
use Rattle.circular_buffer.specs.Buffer.{Buffer, buffer, keep_last}
use Rattle.pdcp_entities.specs.inside.Rings.{with_slot, held_from, padded, is_empty_slot, IsFirstFull, IsLastFull}

module _ {X : Type 0} where
  pub with_slot-append : (c : ℕ) (s : Option X) (es fs : List (ℕ × X)) → with_slot c s es ++ fs ≡ with_slot c s (es ++ fs)
  with_slot-append c None es fs = refl
  with_slot-append c (Some x) es fs = refl

  pub held_from-append : (c : ℕ) (xs ys : List (Option X)) → held_from c (xs ++ ys) ≡ held_from c xs ++ held_from (c + length xs) ys
  held_from-append c [] ys = ap (λ n. held_from n ys) (let e : c ≡ c + 0 = omega arith in e)
  held_from-append c (x ∷ xs) ys =
      let e : c + 1 + length xs ≡ c + length (x ∷ xs) = omega arith in
      ap (with_slot c x) (held_from-append (c + 1) xs ys ∙ ap (λ n. held_from (c + 1) xs ++ held_from n ys) e)
      ∙ sym (with_slot-append c x (held_from (c + 1) xs) (held_from (c + length (x ∷ xs)) ys))

  pub held_from-none : (c n : ℕ) → held_from {X = X} c (replicate n None) ≡ []
  held_from-none c zero = refl
  held_from-none c (suc n) = held_from-none (c + 1) n

  append_none : (es : List (ℕ × X)) → es ++ [] ≡ es
  append_none es = search rules

  pub held_from-padded : (c : ℕ) (xs : List (Option X)) (n : ℕ) → held_from c (padded xs n) ≡ held_from c xs
  held_from-padded c xs n =
      held_from-append c xs (replicate (n - length xs) None)
      ∙ (ap (λ es. held_from c xs ++ es) (held_from-none (c + length xs) (n - length xs)) ∙ append_none (held_from c xs))

  pub length-padded : (xs : List (Option X)) (n : ℕ) → length xs ≤ n → length (padded xs n) ≡ n
  length-padded xs n h = grind (arith, common_steps)

  -- what is pushed after all that are held
  pub held_from-pushed : (c : ℕ) (xs : List (Option X)) (n : ℕ) (x : X) → length xs ≤ n
      → held_from c (padded xs n ++ Some x ∷ []) ≡ held_from c xs ++ (c + n, x) ∷ []
  held_from-pushed c xs n x h =
      held_from-append c (padded xs n) (Some x ∷ [])
      ∙ (ap (λ es. es ++ (c + length (padded xs n), x) ∷ []) (held_from-padded c xs n)
      ∙ ap (λ m. held_from c xs ++ (c + m, x) ∷ []) (length-padded xs n h))

  -- one more empty slot at the end
  pub padded-one : (xs : List (Option X)) (n : ℕ) → length xs < n → padded (xs ++ None ∷ []) n ≡ padded xs n
  padded-one xs n h =
      let e : n - length xs ≡ suc (n - length (xs ++ None ∷ [])) = grind (arith, common_steps) in
      append_assoc xs (None ∷ []) (replicate (n - length (xs ++ None ∷ [])) None) ∙ ap (λ m. xs ++ replicate m None) (sym e)

  -- an empty slot at the end goes
  shorter_at : (c n : ℕ) (xs : List (Option X)) → length xs ≡ suc n → slice_get xs n ≡ Some None
      → held_from c (take n xs) ≡ held_from c xs
  shorter_at c n [] l h = absurd (omega arith)
  shorter_at c zero (x ∷ []) l h = by x h
    where
      by : (s : Option X) → Some s ≡ Some None → [] ≡ with_slot c s []
      by None e = refl
      by (Some y) e = cc
  shorter_at c zero (x ∷ y ∷ xs) l h = absurd (omega arith)
  shorter_at c (suc n) (x ∷ xs) l h = ap (with_slot c x) (shorter_at (c + 1) n xs (omega arith) h)

  pub held_from-shorter : (c : ℕ) (xs : List (Option X)) → slice_get xs (length xs - 1) ≡ Some None
      → held_from c (take (length xs - 1) xs) ≡ held_from c xs
  held_from-shorter c [] h = refl
  held_from-shorter c (x ∷ xs) h =
      let e : length (x ∷ xs) - 1 ≡ length xs = omega arith in
      ap (λ n. held_from c (take n (x ∷ xs))) e ∙ shorter_at c (length xs) (x ∷ xs) refl (ap (λ n. slice_get (x ∷ xs) n) (sym e) ∙ h)

  last_full_at : (n : ℕ) (xs : List (Option X)) → length xs ≡ suc n → (slice_get xs n ≡ Some None → ⊥) → IsLastFull xs
  last_full_at n [] l h = tt
  last_full_at zero (None ∷ []) l h = absurd (h refl)
  last_full_at zero (Some x ∷ []) l h = refl
  last_full_at zero (x ∷ y ∷ xs) l h = absurd (omega arith)
  last_full_at (suc n) (x ∷ []) l h = absurd (omega arith)
  last_full_at (suc n) (x ∷ y ∷ xs) l h = last_full_at n (y ∷ xs) (omega arith) h

  pub last_full : (xs : List (Option X)) → (slice_get xs (length xs - 1) ≡ Some None → ⊥) → IsLastFull xs
  last_full [] h = tt
  last_full (x ∷ xs) h =
      let e : length (x ∷ xs) - 1 ≡ length xs = omega arith in
      last_full_at (length xs) (x ∷ xs) refl (λ k. h (ap (λ n. slice_get (x ∷ xs) n) e ∙ k))

  -- what is pushed into a buffer that has room
  pub pushed : (b b' : Buffer X) (x : X) → b' ≡ buffer (keep_last b.capacity (b.items ++ x ∷ [])) b.capacity
      → length b.items < b.capacity → b' ≡ buffer (b.items ++ x ∷ []) b.capacity
  pushed b b' x e h =
      let none : length (b.items ++ x ∷ []) - b.capacity ≡ 0 = grind (arith, common_steps) in
      e ∙ ap (λ n. buffer (drop n (b.items ++ x ∷ [])) b.capacity) none

  -- looking from a later slot on, where none before it will do
  pub find-later : (from c n : ℕ) (xs : List (Option X)) → ((k : ℕ) → k < n → c + k < from)
      → find (λ e. nat_le from e.0) (held_from (c + n) (drop n xs)) ≡ find (λ e. nat_le from e.0) (held_from c xs)
  find-later from c zero xs h = ap (λ m. find (λ e. nat_le from e.0) (held_from m xs)) (add-zero c)
  find-later from c (suc n) [] h = refl
  find-later from c (suc n) (x ∷ xs) h =
      let e : c + suc n ≡ c + 1 + n = omega arith in
      ap (λ m. find (λ e. nat_le from e.0) (held_from m (drop n xs))) e
      ∙ (find-later from (c + 1) n xs (λ k l. let b : k + 1 < suc n = omega arith in let d : c + (k + 1) < from = h (k + 1) b in omega arith)
      ∙ sym (by x))
    where
      by : (s : Option X) → find (λ e. nat_le from e.0) (with_slot c s (held_from (c + 1) xs)) ≡ find (λ e. nat_le from e.0) (held_from (c + 1) xs)
      by None = refl
      by (Some y) = let d : c + 0 < from = h 0 (omega arith) in let l : c < from = omega arith in grind (arith, nat_tests)

  pub empty_slot : (s : Option (Option X)) → is_empty_slot s ≡ true → s ≡ Some None
  empty_slot None e = cc
  empty_slot (Some None) e = refl
  empty_slot (Some (Some x)) e = cc

  pub full_slot : (s : Option (Option X)) → is_empty_slot s ≡ false → s ≡ Some None → ⊥
  full_slot s e f = let g : is_empty_slot s ≡ true = ap is_empty_slot f in cc

  -- the slot at an index, and the rest
  pub drop-slot : (i : ℕ) (xs : List (Option X)) → i < length xs → drop i xs ≡ unwrap_or (slice_get xs i) None ∷ drop (i + 1) xs
  drop-slot i [] h = absurd (omega arith)
  drop-slot zero (x ∷ xs) h = refl
  drop-slot (suc i) (x ∷ xs) h =
      let e : suc i + 1 ≡ suc (i + 1) = omega arith in
      drop-slot i xs (omega arith) ∙ ap (λ n. unwrap_or (slice_get xs i) None ∷ drop n (x ∷ xs)) (sym e)

  pub find-here : (from c : ℕ) (x : X) (es : List (ℕ × X)) → from ≤ c → find (λ e. nat_le from e.0) ((c, x) ∷ es) ≡ Some (c, x)
  find-here from c x es h = grind (arith, nat_tests)

  -- a slot is looked at where nothing before it will do: it holds something
  pub find-full : (from c i : ℕ) (x : X) (xs : List (Option X)) → i < length xs → from ≤ c + i
      → Some x ≡ unwrap_or (slice_get xs i) None
      → Some (c + i, x) ≡ find (λ e. nat_le from e.0) (held_from (c + i) (drop i xs))
  find-full from c i x xs h l e =
      sym
      (ap (λ ys. find (λ e. nat_le from e.0) (held_from (c + i) ys)) (drop-slot i xs h ∙ ap (λ s. s ∷ drop (i + 1) xs) (sym e))
      ∙ find-here from (c + i) x (held_from (c + i + 1) (drop (i + 1) xs)) l)

  -- it holds nothing
  pub find-empty : (from c i : ℕ) (xs : List (Option X)) → i < length xs → unwrap_or (slice_get xs i) None ≡ None
      → find (λ e. nat_le from e.0) (held_from (c + (i + 1)) (drop (i + 1) xs)) ≡ find (λ e. nat_le from e.0) (held_from (c + i) (drop i xs))
  find-empty from c i xs h e =
      let a : c + (i + 1) ≡ c + i + 1 = omega arith in
      ap (λ n. find (λ e. nat_le from e.0) (held_from n (drop (i + 1) xs))) a
      ∙ sym (ap (λ ys. find (λ e. nat_le from e.0) (held_from (c + i) ys)) (drop-slot i xs h ∙ ap (λ s. s ∷ drop (i + 1) xs) e))
