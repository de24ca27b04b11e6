-- The sender over its slots.
use Rattle.std.proofs.Common.{◌≡◌, ℕ, ◌+◌, ◌-◌, ◌<◌, ◌≤◌, Bool, true, false, not, ◌&&◌, nat_lt, nat_le, List, [], ◌∷◌, ◌++◌, length, Option, Some, None, refl, sym, ap, ◌∙◌, arith, min, ◌≢◌, ◌==◌, cond, inl, inr, ◌⊎◌, eqb-true}
use Rattle.std.proofs.lemmas.Bool.Decides.{nat_tests}
use Rattle.std.proofs.lemmas.Bool.{eqb-false}
use borrow.Author.Tests.{ltb-true, leb-true}
use Rattle.gnb_types.specs.declared.names.SnBits.{SnBits}
use Rattle.gnb_types.specs.declared.names.SnBits.TheVariants.{Len12, Len18}
use Rattle.pdcp_defs.specs.Senders.{Sender, first, first_of, window, has_room, may_restore, is_above, last_of}
use Rattle.pdcp_entities.specs.inside.Rings.{held_from, IsFirstFull, IsLastFull}
use Rattle.pdcp_entities.proofs.SlotLemmas.{last_held}

module _ {X : Type 0} where
  pub first_none : (n c : ℕ) (xs : List (Option X)) → length xs ≡ 0 → first_of n (held_from c xs) ≡ n
  first_none n c [] e = refl
  first_none n c (x ∷ xs) e = absurd (omega arith)

  pub first_some : (n c : ℕ) (xs : List (Option X)) → IsFirstFull xs → 0 < length xs → first_of n (held_from c xs) ≡ c
  first_some n c [] full some = absurd (omega arith)
  first_some n c (None ∷ xs) full some = cc
  first_some n c (Some x ∷ xs) full some = refl

pub window_within : (sn : SnBits) (quota : ℕ) → window sn quota ≤ quota
window_within sn quota = omega arith

pub window_some : (sn : SnBits) (quota : ℕ) → 4 ≤ quota → 0 < window sn quota
window_some Len12 quota h = omega arith
window_some Len18 quota h = omega arith

pub room_left : {X : Type 0} (sn : SnBits) (quota next c : ℕ) (xs : List (Option X)) → IsFirstFull xs
    → has_room sn quota (record { next = next; unconfirmed = held_from c xs }) ≡ true → 0 < length xs → next < c + window sn quota
unfolding has_room first
room_left sn quota next c xs full room some =
    let e = first_some next c xs full some in
    let l : next - first_of next (held_from c xs) < window sn quota = ltb-true (next - first_of next (held_from c xs)) (window sn quota) room in
    omega (arith, e, l)

-- where the slots begin once a COUNT is appended
pub first_appended : (n c d count : ℕ) → d ≡ cond (n == 0) count c → ((n ≡ 0) × (d ≡ count)) ⊎ ((0 < n) × (d ≡ c))
first_appended n c d count e = by (n == 0) refl e
  where
    by : (b : Bool) → (n == 0) ≡ b → d ≡ cond b count c → ((n ≡ 0) × (d ≡ count)) ⊎ ((0 < n) × (d ≡ c))
    by true is e = inl (eqb-true n 0 is, e)
    by false is e = let other : n ≢ 0 = eqb-false n 0 is in inr (omega arith, e)

pub still_under_way : (n c d next count w : ℕ) → d ≡ cond (n == 0) count c → (0 < n → next ≤ c + w) → next ≤ count + w → next ≤ d + w
still_under_way n c d next count w e more fresh =
    elim (first_appended n c d count e) [ inl a ↦ omega (arith, a.1) | inr a ↦ omega (arith, a.1, more a.0) ]

-- senders with equal parts are equal
abbrev pub sender : {X : Type 0} → ℕ → List (ℕ × X) → Sender X
sender next es = record { next = next; unconfirmed = es }

pub senders : {X : Type 0} {m n : ℕ} {es fs : List (ℕ × X)} → m ≡ n → es ≡ fs
    → sender m es ≡ sender n fs
senders {X} {m} {n} {es} {fs} next held =
    ap (λ k. sender {X = X} k es) next ∙ ap (λ gs. sender {X = X} n gs) held

both_left : (a b : Bool) → (a && b) ≡ true → a ≡ true
both_left true b e = refl
both_left false b e = e

both_right : (a b : Bool) → (a && b) ≡ true → b ≡ true
both_right true b e = e
both_right false b e = cc

-- what may be restored
pub restored_at : {X : Type 0} (sn : SnBits) (quota next c count : ℕ) (xs : List (Option X)) → IsLastFull xs
    → may_restore sn quota (sender next (held_from c xs)) count ≡ true
    → (next - window sn quota ≤ count) × (count < next) × (0 < length xs → c + length xs ≤ count)
unfolding may_restore
restored_at sn quota next c count xs full may =
    let low = nat_le (next - window sn quota) count in
    let high = nat_lt count next in
    let above = is_above count (last_of None (held_from c xs)) in
    let first_two = both_left (low && high) above may in
    let last = both_right (low && high) above may in (
      leb-true (next - window sn quota) count (both_left low high first_two),
      ltb-true count next (both_right low high first_two),
      λ some.
          let e = last_held None c xs full some in
          let l : c + length xs - 1 < count = ltb-true (c + length xs - 1) count (ap (is_above count) (sym e) ∙ last) in
          omega arith,
    )

pub not_both : (b : Bool) → b ≡ true → not b ≡ true → ⊥
not_both true e f = cc
not_both false e f = cc

pub both_not : (b : Bool) → not b ≡ true → b ≡ true → ⊥
both_not true e f = cc
both_not false e f = cc
