-- Confirmations over the entries of a sender.
use Rattle.std.proofs.Common.{◌≡◌, ℕ, ◌+◌, ◌-◌, ◌/◌, ◌%◌, ◌^◌, ◌<◌, ◌≤◌, ◌==◌, Bool, true, false, not, ◌&&◌, ◌||◌, cond, nat_lt, nat_le, max, List, [], ◌∷◌, filter, Option, Some, None, refl, sym, ap, ◌∙◌, arith}
use Rattle.std.specs.Prelude.{slice_get, slice_index, slice_index_or, unwrap_or}
use Rattle.std.proofs.lemmas.Bool.Decides.{nat_tests}
use Rattle.std.proofs.lemmas.Option.{unwrap_or-slice_get}
use Rattle.std.proofs.Math.Nat.{zero-div}
use Rattle.pdcp.specs.Pdus.{bitmap, bitmap_bit}
use Rattle.pdcp.proofs.Bits.{bitmap-bit}
use Rattle.pdcp_defs.specs.Senders.{Sender, confirmed_to, confirmed_by, is_reported, is_set}
use Rattle.pdcp_entities.specs.Bits.{bits_of}
use Rattle.pdcp_entities.specs.Entities.{confirmed_report}
use Rattle.pdcp_entities.proofs.BitLemmas.{bit_in, bit_at}
use Rattle.law_entities.specs.law_pdcp.Confirmations.{Confirmation, confirmed, up_to, reported, together}

module _ {X : Type 0} where
  same_filter : (p q : X → Bool) → ((x : X) → p x ≡ q x) → (xs : List X) → filter p xs ≡ filter q xs
  same_filter p q same [] = refl
  same_filter p q same (x ∷ xs) = ap (λ b. cond b (x ∷ filter p xs) (filter p xs)) (same x) ∙ ap (λ ys. cond (q x) (x ∷ ys) ys) (same_filter p q same xs)

  filter_twice : (p q : X → Bool) (xs : List X) → filter q (filter p xs) ≡ filter (λ x. p x && q x) xs
  filter_twice p q [] = refl
  filter_twice p q (x ∷ xs) = by (p x) (q x) refl (filter_twice p q xs)
    where
      by : (a b : Bool) → q x ≡ b → filter q (filter p xs) ≡ filter (λ x. p x && q x) xs
          → filter q (cond a (x ∷ filter p xs) (filter p xs)) ≡ cond (a && b) (x ∷ filter (λ x. p x && q x) xs) (filter (λ x. p x && q x) xs)
      by true true is again = ap (λ b. cond b (x ∷ filter q (filter p xs)) (filter q (filter p xs))) is ∙ ap (λ ys. x ∷ ys) again
      by true false is again = ap (λ b. cond b (x ∷ filter q (filter p xs)) (filter q (filter p xs))) is ∙ again
      by false true is again = again
      by false false is again = again

-- ---- truth values

and_false : (a : Bool) → a ≡ (a && not false)
and_false true = refl
and_false false = refl

and_swapped : (a b : Bool) → (a && b) ≡ (b && a)
and_swapped true true = refl
and_swapped true false = refl
and_swapped false true = refl
and_swapped false false = refl

and_itself : (a : Bool) → (a && a) ≡ a
and_itself true = refl
and_itself false = refl

not_either : (a b : Bool) → not (a || b) ≡ (not a && not b)
not_either true b = refl
not_either false b = refl

regrouped : (a b c d : Bool) → ((a && not b) && (c && not d)) ≡ ((a && c) && not (b || d))
regrouped true true true d = refl
regrouped true true false d = refl
regrouped true false true d = refl
regrouped true false false d = refl
regrouped false b c d = refl

lt_is_le : (c k : ℕ) → nat_lt c k ≡ nat_le (c + 1) k
lt_is_le c k = grind (arith, nat_tests)

not_lt_is_le : (k f : ℕ) → not (nat_lt k f) ≡ nat_le f k
not_lt_is_le k f = grind (arith, nat_tests)

both_le : (m n k : ℕ) → (nat_le m k && nat_le n k) ≡ nat_le (max m n) k
both_le m n k = grind (arith, nat_tests)

-- ---- senders

module _ {X : Type 0} (s : Sender X) where
  with_entries : List (ℕ × X) → Sender X
  with_entries es = record s { unconfirmed = es }

  pub to_is_confirmed : (count : ℕ) → confirmed_to s count ≡ confirmed s (up_to count)
  unfolding confirmed_to confirmed
  to_is_confirmed count =
      ap (λ (es : List (ℕ × X)). record s { unconfirmed = es })
      (same_filter (λ e. nat_lt count e.0) (λ e. nat_le (count + 1) e.0 && not false) (λ e. lt_is_le count e.0 ∙ and_false (nat_le (count + 1) e.0)) s.unconfirmed)

  pub by_is_confirmed : (fmc : ℕ) (bits : List Bool) → confirmed_by s fmc bits ≡ confirmed s (reported fmc bits)
  unfolding confirmed_by confirmed
  by_is_confirmed fmc bits =
      ap (λ (es : List (ℕ × X)). record s { unconfirmed = es })
      (same_filter (λ e. not (is_reported fmc bits e.0)) (λ e. nat_le fmc e.0 && not (nat_lt fmc e.0 && is_set bits (e.0 - fmc - 1)))
      (λ e. not_either (nat_lt e.0 fmc) (nat_lt fmc e.0 && is_set bits (e.0 - fmc - 1))
      ∙ ap (λ b. b && not (nat_lt fmc e.0 && is_set bits (e.0 - fmc - 1))) (not_lt_is_le e.0 fmc)) s.unconfirmed)

  pub confirmed_together : (a b : Confirmation) → confirmed (confirmed s a) b ≡ confirmed s (together a b)
  unfolding confirmed
  confirmed_together a b =
      ap (λ (es : List (ℕ × X)). record s { unconfirmed = es })
      (filter_twice (λ e. nat_le a.below e.0 && not (a.also e.0)) (λ e. nat_le b.below e.0 && not (b.also e.0)) s.unconfirmed
      ∙ same_filter (λ e. (nat_le a.below e.0 && not (a.also e.0)) && (nat_le b.below e.0 && not (b.also e.0)))
      (λ e. nat_le (max a.below b.below) e.0 && not (a.also e.0 || b.also e.0))
      (λ e. regrouped (nat_le a.below e.0) (a.also e.0) (nat_le b.below e.0) (b.also e.0)
      ∙ ap (λ t. t && not (a.also e.0 || b.also e.0)) (both_le a.below b.below e.0)) s.unconfirmed)

  pub confirmed_in_any_order : (a b : Confirmation) → confirmed (confirmed s a) b ≡ confirmed (confirmed s b) a
  unfolding confirmed
  confirmed_in_any_order a b =
      let p : ℕ × X → Bool = λ e. nat_le a.below e.0 && not (a.also e.0) in
      let q : ℕ × X → Bool = λ e. nat_le b.below e.0 && not (b.also e.0) in
      ap (λ (es : List (ℕ × X)). record s { unconfirmed = es })
      (filter_twice p q s.unconfirmed
      ∙ (same_filter (λ e. p e && q e) (λ e. q e && p e) (λ e. and_swapped (p e) (q e)) s.unconfirmed ∙ sym (filter_twice q p s.unconfirmed)))

  pub confirmed_again : (a : Confirmation) → confirmed (confirmed s a) a ≡ confirmed s a
  unfolding confirmed
  confirmed_again a =
      let p : ℕ × X → Bool = λ e. nat_le a.below e.0 && not (a.also e.0) in
      ap (λ (es : List (ℕ × X)). record s { unconfirmed = es })
      (filter_twice p p s.unconfirmed ∙ same_filter (λ e. p e && p e) p (λ e. and_itself (p e)) s.unconfirmed)

-- ---- bitmaps

bit_of : (o : Option ℕ) (r : ℕ) → bit_in o r ≡ (unwrap_or o 0 / 2 ^ (7 - r) % 2 == 1)
bit_of None r = sym (ap (λ n. n % 2 == 1) (zero-div (2 ^ (7 - r))))
bit_of (Some x) r = refl

bit_same : (bits : List Bool) (i : ℕ) → is_set (bits_of (bitmap bits)) i ≡ is_set bits i
bit_same bits i =
    let e : i + 1 - 1 ≡ i = omega arith in
    let octets = bitmap bits in
    bit_at octets i
    ∙ (bit_of (slice_get octets (i / 8)) (i % 8)
    ∙ (ap (λ n. n / 2 ^ (7 - i % 8) % 2 == 1) (unwrap_or-slice_get octets (i / 8) 0)
    ∙ (ap (λ k. slice_index octets (k / 8) / 2 ^ (7 - k % 8) % 2 == 1) (sym e)
    ∙ (bitmap-bit bits i ∙ sym (unwrap_or-slice_get bits i false)))))

pub bitmap_confirms : {X : Type 0} (s : Sender X) (fmc : ℕ) (bits : List Bool) → confirmed_report s fmc (bitmap bits) ≡ confirmed_by s fmc bits
unfolding confirmed_report confirmed_by
bitmap_confirms {X} s fmc bits =
    ap (λ (es : List (ℕ × X)). record s { unconfirmed = es })
    (same_filter (λ e. not (is_reported fmc (bits_of (bitmap bits)) e.0)) (λ e. not (is_reported fmc bits e.0))
    (λ e. ap (λ b. not (nat_lt e.0 fmc || (nat_lt fmc e.0 && b))) (bit_same bits (e.0 - fmc - 1))) s.unconfirmed)
