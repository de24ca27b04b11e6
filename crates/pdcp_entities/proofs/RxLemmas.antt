-- The receiver over its slots.
use Rattle.std.proofs.Common.{◌≡◌, ℕ, ◌+◌, ◌-◌, ◌<◌, ◌≤◌, Bool, true, false, cond, ◌||◌, ◌==◌, nat_lt, nat_le, List, [], ◌∷◌, ◌++◌, length, drop, Option, Some, None, refl, sym, ap, ◌∙◌, arith, true≢false, Ok, Err}
use Rattle.std.specs.Prelude.{slice_get, unwrap_or, is_some}
use Rattle.std.proofs.lemmas.Bool.Decides.{nat_tests}
use Rattle.std.specs.List.{AllByRecursion}
use borrow.Author.Tests.{ltb-true}
use Rattle.std.specs.Ordering.{nat_cmp}
use Rattle.tables.specs.Tables.{find}
use Rattle.pdcp_defs.specs.Receivers.{Receiver, Delivery, is_duplicate, is_ahead, deliver, deliver_from, with_packet}
use Rattle.pdcp_entities.specs.Entities.{RxState, first_at, taking}
use Rattle.pdcp_entities.specs.inside.Rings.{held_from}
use Rattle.pdcp_entities.proofs.SlotLemmas.{found_in, held_from-low, fewer, held_from-length}
use Rattle.pdcp_entities.proofs.NearLemmas.{near_agrees}

not_less : (a b : ℕ) → (a < b → ⊥) → b ≤ a
not_less a b h = omega (arith, h)

nat_cases : {P : Type 0} (a b : ℕ) → (a < b → P) → (b ≤ a → P) → P
nat_cases {P} a b less more = by (nat_lt a b) refl
  where
    by : (t : Bool) → nat_lt a b ≡ t → P
    by true e = less (ltb-true a b e)
    by false e = more (let l : b ≤ a = grind (arith, nat_tests) in l)

abbrev pub receiver : {X : Type 0} → ℕ → List (ℕ × X) → Receiver X
receiver deliv es = record { deliv = deliv; stored = es }

module _ {X : Type 0} (c count : ℕ) (xs : List (Option X)) where
  pub duplicate_at : c ≤ count → is_duplicate (receiver c (held_from c xs)) count ≡ is_some (unwrap_or (slice_get xs (count - c)) None)
  unfolding is_duplicate
  duplicate_at h =
      let a : nat_lt count c ≡ false = grind (arith, nat_tests) in
      let e : c + (count - c) ≡ count = omega arith in
      ap (λ b. b || is_some (find nat_cmp (held_from c xs) count)) a
      ∙ (ap (λ k. is_some (find nat_cmp (held_from c xs) k)) (sym e) ∙ ap is_some (found_in c (count - c) xs))

  pub duplicate_below : count < c → is_duplicate (receiver c (held_from c xs)) count ≡ true
  unfolding is_duplicate
  duplicate_below h =
      let a : nat_lt count c ≡ true = grind (arith, nat_tests) in
      ap (λ b. b || is_some (find nat_cmp (held_from c xs) count)) a

pub below_is : (a b : ℕ) → a < b → nat_lt a b ≡ true
below_is a b h = grind (arith, nat_tests)

-- what is neither below RX_DELIV nor stored
pub new_count : {X : Type 0} (c count : ℕ) (xs : List (Option X)) → is_duplicate (receiver c (held_from c xs)) count ≡ false
    → (c ≤ count) × (unwrap_or (slice_get xs (count - c)) None ≡ None)
new_count {X} c count xs e = (from, none (unwrap_or (slice_get xs (count - c)) None) (sym (duplicate_at c count xs from) ∙ e))
  where
    from : c ≤ count
    from = not_less count c (λ l. true≢false (sym (duplicate_below c count xs l) ∙ e))

    none : (o : Option X) → is_some o ≡ false → o ≡ None
    none None e = refl
    none (Some x) e = cc

-- what has room
pub has_place : {X : Type 0} (quota count : ℕ) (r : Receiver X) → is_ahead quota r count ≡ false → count < r.deliv + quota
unfolding is_ahead
has_place quota count r e = grind (arith, nat_tests)

pub ahead_is : (q c count : ℕ) → c ≤ count → nat_le q (count - c) ≡ nat_le (c + q) count
ahead_is q c count h = grind (arith, nat_tests)

-- a COUNT that has room and isn't stored leaves the quota unused
pub not_full : {X : Type 0} (c count quota : ℕ) (xs : List (Option X)) → length xs ≤ quota → c ≤ count → count < c + quota
    → unwrap_or (slice_get xs (count - c)) None ≡ None → length (held_from c xs) < quota
not_full c count quota xs short from room empty =
    nat_cases (count - c) (length xs)
    (λ l. let f = fewer c (count - c) xs l empty in omega (arith, f))
    (λ l. let f = held_from-length c xs in omega (arith, f))

pub held_none : {X : Type 0} (c d : ℕ) (xs : List (Option X)) → held_from d xs ≡ [] → held_from c xs ≡ []
held_none c d [] e = refl
held_none c d (None ∷ xs) e = held_none (c + 1) (d + 1) xs e
held_none c d (Some x ∷ xs) e = cc

-- receivers with equal parts are equal
pub receivers : {X : Type 0} {m n : ℕ} {es fs : List (ℕ × X)} → m ≡ n → es ≡ fs → receiver m es ≡ receiver n fs
receivers {X} {m} {n} {es} {fs} deliv stored = ap (λ k. receiver {X = X} k es) deliv ∙ ap (λ gs. receiver {X = X} n gs) stored

pub same_number : (c : ℕ) → (c == c) ≡ true
same_number c = grind (arith, nat_tests)

-- what is handed up
module _ {X : Type 0} where
  pub first_slot : (c n : ℕ) (xs ys : List (Option X)) (s : Option X) (x : X) → xs ≡ s ∷ ys → Some x ≡ unwrap_or (slice_get xs (n - n)) None
      → held_from c xs ≡ (c, x) ∷ held_from (c + 1) ys
  first_slot c n xs ys s x slots at =
      let zero_is : n - n ≡ 0 = omega arith in
      let here : Some x ≡ s = at ∙ (ap (λ k. unwrap_or (slice_get xs k) None) zero_is ∙ ap (λ zs. unwrap_or (slice_get zs 0) None) slots) in
      ap (held_from c) (slots ∙ ap (λ o. o ∷ ys) (sym here))

  no_first : (c : ℕ) (es : List (ℕ × X)) → AllByRecursion (λ e. c + 1 ≤ e.0) es → first_at c es ≡ None
  no_first c [] all = refl
  no_first c (e ∷ es) all = let l : c + 1 ≤ e.0 = all.0 in ap (λ b. cond b (Some e) None) (other e.0 c l)
    where
      other : (a c : ℕ) → c + 1 ≤ a → (a == c) ≡ false
      other a c l = grind (arith, nat_tests)

  pub first_empty : (c n : ℕ) (xs : List (Option X)) → None ≡ unwrap_or (slice_get xs (n - n)) None → first_at c (held_from c xs) ≡ None
  first_empty c n xs at =
      let zero_is : n - n ≡ 0 = omega arith in
      by xs (at ∙ ap (λ k. unwrap_or (slice_get xs k) None) zero_is)
    where
      by : (xs : List (Option X)) → None ≡ unwrap_or (slice_get xs 0) None → first_at c (held_from c xs) ≡ None
      by [] e = refl
      by (None ∷ xs) e = no_first c (held_from (c + 1) xs) (held_from-low (c + 1) xs)
      by (Some x ∷ xs) e = cc

  pub first_here : (c : ℕ) (x : X) (es : List (ℕ × X)) → first_at c ((c, x) ∷ es) ≡ Some (c, x)
  first_here c x es = ap (λ b. cond b (Some (c, x)) None) (same_number c)

  pub delivers : (c : ℕ) (x : X) (es : List (ℕ × X)) → deliver (receiver c ((c, x) ∷ es)) ≡ with_packet (c, x) (deliver (receiver (c + 1) es))
  unfolding deliver
  delivers c x es =
      ap (λ b. cond b (with_packet (c, x) (deliver_from (c + 1) es)) (record { packets = []; after = record { deliv = c; stored = (c, x) ∷ es } })) (same_number c)

-- ---- what becomes of a packet

pub taking_duplicate : (rx : RxState) (o : Option ℕ) (count : ℕ) → o ≡ Some count → is_duplicate rx.receiver count ≡ true
    → Ok (record { count = Some count; stored = false }) ≡ taking rx o
taking_duplicate rx o count is dup =
    sym
    (ap (taking rx) is
    ∙ ap
    (λ b. cond b (Ok (record { count = Some count; stored = false }))
    (cond (is_ahead rx.quota rx.receiver count) (Err (record {})) (Ok (record { count = Some count; stored = true }))))
    dup)

pub taking_ahead : (rx : RxState) (o : Option ℕ) (count : ℕ) → o ≡ Some count → is_duplicate rx.receiver count ≡ false
    → is_ahead rx.quota rx.receiver count ≡ true → Err (record {}) ≡ taking rx o
taking_ahead rx o count is new ahead =
    sym
    (ap (taking rx) is
    ∙ (ap
    (λ b. cond b (Ok (record { count = Some count; stored = false }))
    (cond (is_ahead rx.quota rx.receiver count) (Err (record {})) (Ok (record { count = Some count; stored = true }))))
    new
    ∙ ap (λ b. cond b (Err (record {})) (Ok (record { count = Some count; stored = true }))) ahead))

pub taking_new : (rx : RxState) (o : Option ℕ) (count : ℕ) → o ≡ Some count → is_duplicate rx.receiver count ≡ false
    → is_ahead rx.quota rx.receiver count ≡ false → Ok (record { count = Some count; stored = true }) ≡ taking rx o
taking_new rx o count is new room =
    sym
    (ap (taking rx) is
    ∙ (ap
    (λ b. cond b (Ok (record { count = Some count; stored = false }))
    (cond (is_ahead rx.quota rx.receiver count) (Err (record {})) (Ok (record { count = Some count; stored = true }))))
    new
    ∙ ap (λ b. cond b (Err (record {})) (Ok (record { count = Some count; stored = true }))) room))
