-- A slot is emptied whose COUNT is named, and none before it holds a named one.
use Rattle.std.proofs.Common.{◌≡◌, ℕ, ◌+◌, ◌<◌, ◌≤◌, Bool, true, false, cond, not, nat_lt, List, [], ◌∷◌, ◌++◌, length, take, drop, filter, Option, Some, None, refl, sym, ap, ◌∙◌, subst, arith, zero, suc, rules}
use Rattle.std.specs.Prelude.{slice_get, slice_set, unwrap_or, is_some, IsSome, IfSome}
use Rattle.std.specs.List.{AllByRecursion}
use Rattle.std.proofs.lemmas.Bool.Decides.{nat_tests}
use Rattle.std.proofs.lemmas.List.{take_all}
use Rattle.std.proofs.lemmas.List.Elements.{filter-append}
use Rattle.pdcp_defs.specs.pool_defs.Pools.{PoolState, packet_at, IsPool}
use Rattle.pdcp_entities.specs.Packets.{AreParked}
use Rattle.pdcp_entities.specs.inside.Freeing.{freed_if, AreLeft}
use Rattle.pdcp_entities.specs.inside.Rings.{with_slot, held_from}
use Rattle.pdcp_entities.proofs.FreeLemmas.{all_right, parked_without, goes_on}
use Rattle.pdcp_entities.proofs.RingLemmas.{with_slot-append}
use Rattle.pdcp_entities.proofs.SlotLemmas.{held_from-low, held_from-high, held_from-length}

module _ {X : Type 0} where
  -- what is held before a slot, in it, and after it
  pub held_from-split : (c i : ℕ) (xs : List (Option X)) → i < length xs
      → held_from c xs ≡ held_from c (take i xs) ++ with_slot (c + i) (unwrap_or (slice_get xs i) None) (held_from (c + i + 1) (drop (i + 1) xs))
  held_from-split c i [] h = absurd (omega arith)
  held_from-split c zero (s ∷ xs) h =
      let a : c + zero ≡ c = omega arith in
      sym (ap (λ n. with_slot n s (held_from (n + 1) xs)) a)
  held_from-split c (suc i) (s ∷ xs) h =
      let a : c + suc i ≡ c + 1 + i = omega arith in
      let b : suc i + 1 ≡ suc (i + 1) = omega arith in
      ap (with_slot c s) (held_from-split (c + 1) i xs (omega arith))
      ∙ (sym (with_slot-append c s (held_from (c + 1) (take i xs)) (with_slot (c + 1 + i) (unwrap_or (slice_get xs i) None) (held_from (c + 1 + i + 1) (drop (i + 1) xs))))
      ∙ (ap (λ n. with_slot c s (held_from (c + 1) (take i xs)) ++ with_slot n (unwrap_or (slice_get xs i) None) (held_from (n + 1) (drop (i + 1) xs))) (sym a)
      ∙ ap (λ m. with_slot c s (held_from (c + 1) (take i xs)) ++ with_slot (c + suc i) (unwrap_or (slice_get xs i) None) (held_from (c + suc i + 1) (drop m (s ∷ xs)))) (sym b)))

  -- the same once the slot is empty
  pub held_from-emptied : (c i : ℕ) (xs : List (Option X)) → i < length xs
      → held_from c (slice_set xs i None) ≡ held_from c (take i xs) ++ held_from (c + i + 1) (drop (i + 1) xs)
  held_from-emptied c i [] h = absurd (omega arith)
  held_from-emptied c zero (s ∷ xs) h =
      let a : c + zero ≡ c = omega arith in
      sym (ap (λ n. held_from (n + 1) xs) a)
  held_from-emptied c (suc i) (s ∷ xs) h =
      let a : c + suc i ≡ c + 1 + i = omega arith in
      let b : suc i + 1 ≡ suc (i + 1) = omega arith in
      ap (with_slot c s) (held_from-emptied (c + 1) i xs (omega arith))
      ∙ (sym (with_slot-append c s (held_from (c + 1) (take i xs)) (held_from (c + 1 + i + 1) (drop (i + 1) xs)))
      ∙ (ap (λ n. with_slot c s (held_from (c + 1) (take i xs)) ++ held_from (n + 1) (drop (i + 1) xs)) (sym a)
      ∙ ap (λ m. with_slot c s (held_from (c + 1) (take i xs)) ++ held_from (c + suc i + 1) (drop m (s ∷ xs))) (sym b)))

  pub held_from-before : (c i : ℕ) (xs : List (Option X)) → i < length xs
      → held_from c (take (i + 1) (slice_set xs i None)) ≡ held_from c (take i xs)
  held_from-before c i [] h = absurd (omega arith)
  held_from-before c zero (s ∷ xs) h = refl
  held_from-before c (suc i) (s ∷ xs) h =
      let b : suc i + 1 ≡ suc (i + 1) = omega arith in
      ap (λ m. held_from c (take m (s ∷ slice_set xs i None))) b ∙ ap (with_slot c s) (held_from-before (c + 1) i xs (omega arith))

  pub held_from-next : (c i : ℕ) (xs : List (Option X)) → i < length xs
      → held_from c (take (i + 1) xs) ≡ held_from c (take i xs) ++ with_slot (c + i) (unwrap_or (slice_get xs i) None) []
  held_from-next c i [] h = absurd (omega arith)
  held_from-next c zero (s ∷ xs) h = let a : c + zero ≡ c = omega arith in sym (ap (λ n. with_slot n s []) a)
  held_from-next c (suc i) (s ∷ xs) h =
      let a : c + suc i ≡ c + 1 + i = omega arith in
      let b : suc i + 1 ≡ suc (i + 1) = omega arith in
      ap (λ m. held_from c (take m (s ∷ xs))) b
      ∙ (ap (with_slot c s) (held_from-next (c + 1) i xs (omega arith))
      ∙ (sym (with_slot-append c s (held_from (c + 1) (take i xs)) (with_slot (c + 1 + i) (unwrap_or (slice_get xs i) None) []))
      ∙ ap (λ n. with_slot c s (held_from (c + 1) (take i xs)) ++ with_slot n (unwrap_or (slice_get xs i) None) []) (sym a)))

-- the entries whose COUNT passes a test
abbrev pub passing : (ℕ → Bool) → List (ℕ × ℕ) → List (ℕ × ℕ)
passing t es = filter (λ e. t e.0) es

passing_slot : (t : ℕ → Bool) (k : ℕ) (s : Option ℕ) (es : List (ℕ × ℕ)) → t k ≡ true → passing t (with_slot k s es) ≡ with_slot k s (passing t es)
passing_slot t k None es is = refl
passing_slot t k (Some x) es is = ap (λ (b : Bool). cond b ((k, x) ∷ passing t es) (passing t es)) is

failing_slot : (t : ℕ → Bool) (k : ℕ) (s : Option ℕ) (es : List (ℕ × ℕ)) → t k ≡ false → passing t (with_slot k s es) ≡ passing t es
failing_slot t k None es is = refl
failing_slot t k (Some x) es is = ap (λ (b : Bool). cond b ((k, x) ∷ passing t es) (passing t es)) is

module _ (t : ℕ → Bool) (k : ℕ) (s : Option ℕ) (xs ys : List (ℕ × ℕ)) where
  pub turn_named : t k ≡ true → passing t xs ≡ [] → passing t (xs ++ with_slot k s ys) ≡ with_slot k s (passing t (xs ++ ys))
  turn_named is none =
      filter-append (λ e. t e.0) xs (with_slot k s ys)
      ∙ (ap (λ es. es ++ passing t (with_slot k s ys)) none
      ∙ (passing_slot t k s ys is
      ∙ sym (ap (with_slot k s) (filter-append (λ e. t e.0) xs ys ∙ ap (λ es. es ++ passing t ys) none))))

  pub turn_kept : t k ≡ false → passing t (xs ++ with_slot k s ys) ≡ passing t (xs ++ ys)
  turn_kept is =
      filter-append (λ e. t e.0) xs (with_slot k s ys)
      ∙ (ap (λ es. passing t xs ++ es) (failing_slot t k s ys is) ∙ sym (filter-append (λ e. t e.0) xs ys))

  pub turn_left : (limit : ℕ) (p first : PoolState) (all : List (ℕ × ℕ)) → IfSome s (λ q. IsPool limit p) → t k ≡ true → passing t xs ≡ []
      → AreParked p (xs ++ with_slot k s ys) → AreLeft all (passing t (xs ++ with_slot k s ys)) first p
      → AreLeft all (passing t (xs ++ ys)) first (freed_if p s)
  turn_left limit p first all sound is none parked left =
      by s sound parked (subst (λ (es : List (ℕ × ℕ)). AreLeft all es first p) (turn_named is none) left)
    where
      by : (s : Option ℕ) → IfSome s (λ q. IsPool limit p) → AreParked p (xs ++ with_slot k s ys)
          → AreLeft all (with_slot k s (passing t (xs ++ ys))) first p → AreLeft all (passing t (xs ++ ys)) first (freed_if p s)
      by None sound parked left = left
      by (Some x) sound parked left =
          let there = (all_right (λ e. IsSome (packet_at p e.1)) xs ((k, x) ∷ ys) parked.there).0 in
          goes_on limit p sound all (passing t (xs ++ ys)) (k, x) first there left

  pub turn_parked : (limit : ℕ) (p : PoolState) → IfSome s (λ q. IsPool limit p) → AreParked p (xs ++ with_slot k s ys) → AreParked (freed_if p s) (xs ++ ys)
  turn_parked limit p sound parked = by s sound parked
    where
      by : (s : Option ℕ) → IfSome s (λ q. IsPool limit p) → AreParked p (xs ++ with_slot k s ys) → AreParked (freed_if p s) (xs ++ ys)
      by None sound parked = parked
      by (Some x) sound parked = parked_without limit p sound xs ys (k, x) parked

  pub turn_there : (p : PoolState) → AreParked p (xs ++ with_slot k s ys) → IfSome s (λ q. IsSome (packet_at p q))
  turn_there p parked = by s parked
    where
      by : (s : Option ℕ) → AreParked p (xs ++ with_slot k s ys) → IfSome s (λ q. IsSome (packet_at p q))
      by None parked = tt
      by (Some x) parked = (all_right (λ e. IsSome (packet_at p e.1)) xs ((k, x) ∷ ys) parked.there).0

  pub turn_count : t k ≡ true → passing t xs ≡ [] → length (passing t (xs ++ with_slot k s ys)) ≡ (cond (is_some s) 1 0) + length (passing t (xs ++ ys))
  turn_count is none = ap length (turn_named is none) ∙ by s
    where
      by : (s : Option ℕ) → length (with_slot k s (passing t (xs ++ ys))) ≡ (cond (is_some s) 1 0) + length (passing t (xs ++ ys))
      by None = omega arith
      by (Some x) = omega arith

-- where none passes a test, all pass the opposite one
pub all_kept : (t u : ℕ → Bool) → ((k : ℕ) → t k ≡ false → u k ≡ true) → (es : List (ℕ × ℕ)) → passing t es ≡ [] → passing u es ≡ es
all_kept t u opposite [] none = refl
all_kept t u opposite (e ∷ es) none = by (t e.0) refl none (all_kept t u opposite es)
  where
    by : (b : Bool) → t e.0 ≡ b → cond b (e ∷ passing t es) (passing t es) ≡ [] → (passing t es ≡ [] → passing u es ≡ es) → passing u (e ∷ es) ≡ e ∷ es
    by true is none again = cc
    by false is none again = ap (λ (b : Bool). cond b (e ∷ passing u es) (passing u es)) (opposite e.0 is) ∙ ap (λ fs. e ∷ fs) (again none)

pub passing_short : (t : ℕ → Bool) (es : List (ℕ × ℕ)) → length (passing t es) ≤ length es
passing_short t [] = omega arith
passing_short t (e ∷ es) = by (t e.0) (passing_short t es)
  where
    by : (b : Bool) → length (passing t es) ≤ length es → length (cond b (e ∷ passing t es) (passing t es)) ≤ length (e ∷ es)
    by true again = omega arith
    by false again = omega arith

pub none_pass : (t : ℕ → Bool) (P : ℕ × ℕ → Type 0) → ((e : ℕ × ℕ) → P e → t e.0 ≡ false) → (es : List (ℕ × ℕ)) → AllByRecursion P es → passing t es ≡ []
none_pass t P fails [] all = refl
none_pass t P fails (e ∷ es) all =
    ap (λ (b : Bool). cond b (e ∷ passing t es) (passing t es)) (fails e all.0) ∙ none_pass t P fails es all.1

pub to_is : (count k : ℕ) → k ≤ count → not (nat_lt count k) ≡ true
to_is count k h = grind (arith, nat_tests)

pub not_to : (count k : ℕ) → count < k → not (nat_lt count k) ≡ false
not_to count k h = grind (arith, nat_tests)

pub above_is : (count k : ℕ) → k ≤ count → nat_lt count k ≡ false
above_is count k h = grind (arith, nat_tests)

pub to_or_above : (count k : ℕ) → not (nat_lt count k) ≡ false → nat_lt count k ≡ true
to_or_above count k e = by (nat_lt count k) e
  where
    by : (b : Bool) → not b ≡ false → b ≡ true
    by true e = refl
    by false e = cc

not_le : (a b : ℕ) → (a ≤ b → ⊥) → b < a
not_le a b h = omega (arith, h)

-- none is held up to a COUNT that is below the first
pub none_to : (c count : ℕ) (xs : List (Option ℕ)) → ((0 < length xs) × (c ≤ count) → ⊥) → passing (λ k. not (nat_lt count k)) (held_from c xs) ≡ []
none_to c count [] h = refl
none_to c count (s ∷ xs) h =
    let above : count < c = not_le c count (λ l. let some : 0 < length (s ∷ xs) = omega arith in h (some, l)) in
    none_pass (λ k. not (nat_lt count k)) (λ e. c ≤ e.0) (λ e low. not_to count e.0 (omega arith)) (held_from c (s ∷ xs)) (held_from-low c (s ∷ xs))

-- all that are held are up to a COUNT that none passes
pub all_to : (c count : ℕ) (xs : List (Option ℕ)) → c + length xs ≤ count + 1 → passing (λ k. nat_lt count k) (held_from c xs) ≡ []
all_to c count xs h =
    none_pass (λ k. nat_lt count k) (λ e. e.0 < c + length xs) (λ e high. grind (arith, nat_tests)) (held_from c xs) (held_from-high c xs)

-- the slot at the end holds none that passes
pub passing_next : (t : ℕ → Bool) (c i : ℕ) (xs : List (Option ℕ)) → i < length xs → t (c + i) ≡ false → passing t (held_from c (take i xs)) ≡ []
    → passing t (held_from c (take (i + 1) xs)) ≡ []
passing_next t c i xs h fails none =
    let s = unwrap_or (slice_get xs i) None in
    ap (passing t) (held_from-next c i xs h)
    ∙ (filter-append (λ e. t e.0) (held_from c (take i xs)) (with_slot (c + i) s [])
    ∙ (ap (λ es. es ++ passing t (with_slot (c + i) s [])) none ∙ failing_slot t (c + i) s [] fails))

pub kept_is : (b : Bool) → b ≡ false → not b ≡ true
kept_is true e = cc
kept_is false e = refl

-- none passes before the end
pub all_taken : (t : ℕ → Bool) (c i : ℕ) (xs : List (Option ℕ)) → length xs ≤ i → passing t (held_from c (take i xs)) ≡ [] → passing t (held_from c xs) ≡ []
all_taken t c i xs h none = ap (λ ys. passing t (held_from c ys)) (sym (take_all i xs h)) ∙ none
