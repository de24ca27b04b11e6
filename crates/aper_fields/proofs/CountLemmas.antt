-- Fewest bits and octets, tried one count after another.
use Rattle.std.proofs.Common.{◌≡◌, ℕ, zero, suc, ◌+◌, ◌-◌, ◌*◌, ◌/◌, ◌%◌, ◌^◌, ◌<◌, ◌≤◌, cond, nat_lt, true, false, refl, sym, ap, ◌∙◌, arith}
use Rattle.std.proofs.Math.Nat.{div-add-mod'}
use Rattle.std.proofs.lemmas.Nat.{pow_pos, mod_below}
use Rattle.aper_defs.specs.Numbers.{least_count, bits_for, octets_for}
use Rattle.proof_aper.proofs.answers.NumberFacts.{is_below, is_not_below}

small : (n d : ℕ) → 0 < d → n / d ≡ 0 → n < d
small n d some h = at_none (n / d) d n (n % d) h (div-add-mod' n d) (mod_below n d some)
  where
    at_none : (q e m r : ℕ) → q ≡ 0 → q * e + r ≡ m → r < e → m < e
    at_none zero e m r g is k = omega (arith, is, k)
    at_none (suc q) e m r g is k = absurd (omega (arith, g))

great : (n d : ℕ) → 0 < d → 1 ≤ n / d → d ≤ n
great n d some h = above_once (n / d) d n (n % d) h (div-add-mod' n d)
  where
    above_once : (q e m r : ℕ) → 1 ≤ q → q * e + r ≡ m → e ≤ m
    above_once zero e m r g is = absurd (omega (arith, g))
    above_once (suc q) e m r g is = omega (arith, is)

least_here : (unit tries count n : ℕ) → n < 2 ^ (unit * count) → least_count unit (suc tries) count n ≡ count
least_here unit tries count n h =
    ap (λ b. cond b count (least_count unit tries (count + 1) n)) (is_below n (2 ^ (unit * count)) h)

least_on : (unit tries count n : ℕ) → 2 ^ (unit * count) ≤ n → least_count unit (suc tries) count n ≡ least_count unit tries (count + 1) n
least_on unit tries count n h =
    ap (λ b. cond b count (least_count unit tries (count + 1) n)) (is_not_below n (2 ^ (unit * count)) h)

-- from a count on, at most up to eight
unfoldable pub bits_from : ℕ → ℕ → ℕ
bits_from count n = least_count 1 (8 - count) count n

pub bits_first : (n : ℕ) → bits_from 0 n ≡ bits_for n
unfolding bits_from
bits_first n = refl

pub bits_here : (count n : ℕ) → count < 8 → n / 2 ^ count ≡ 0 → bits_from count n ≡ count
unfolding bits_from
bits_here count n h e =
    let tries : 8 - count ≡ suc (7 - count) = omega arith in
    let same : 1 * count ≡ count = omega arith in
    ap (λ (t : ℕ). least_count 1 t count n) tries
    ∙ least_here 1 (7 - count) count n (small n (2 ^ (1 * count)) (pow_pos (1 * count)) (ap (λ (c : ℕ). n / 2 ^ c) same ∙ e))

pub bits_turn : (count n : ℕ) → count < 8 → 1 ≤ n / 2 ^ count → bits_from (count + 1) n ≡ bits_from count n
unfolding bits_from
bits_turn count n h e =
    let tries : 8 - count ≡ suc (7 - count) = omega arith in
    let less : 8 - (count + 1) ≡ 7 - count = omega arith in
    let same : 1 * count ≡ count = omega arith in
    let quotient : n / 2 ^ (1 * count) ≡ n / 2 ^ count = ap (λ (c : ℕ). n / 2 ^ c) same in
    ap (λ (t : ℕ). least_count 1 t (count + 1) n) less
    ∙ sym (ap (λ (t : ℕ). least_count 1 t count n) tries
    ∙ least_on 1 (7 - count) count n (great n (2 ^ (1 * count)) (pow_pos (1 * count)) (omega (arith, quotient, e))))

pub bits_last : (n : ℕ) → bits_from 8 n ≡ 8
unfolding bits_from
bits_last n = refl

unfoldable pub octets_from : ℕ → ℕ → ℕ
octets_from count n = least_count 8 (8 - count) count n

pub octets_first : (n : ℕ) → octets_from 1 n ≡ octets_for n
unfolding octets_from
octets_first n = refl

pub octets_here : (count n : ℕ) → count < 8 → n / 2 ^ (8 * count) ≡ 0 → octets_from count n ≡ count
unfolding octets_from
octets_here count n h e =
    let tries : 8 - count ≡ suc (7 - count) = omega arith in
    ap (λ (t : ℕ). least_count 8 t count n) tries
    ∙ least_here 8 (7 - count) count n (small n (2 ^ (8 * count)) (pow_pos (8 * count)) e)

pub octets_turn : (count n : ℕ) → count < 8 → 1 ≤ n / 2 ^ (8 * count) → octets_from (count + 1) n ≡ octets_from count n
unfolding octets_from
octets_turn count n h e =
    let tries : 8 - count ≡ suc (7 - count) = omega arith in
    let less : 8 - (count + 1) ≡ 7 - count = omega arith in
    ap (λ (t : ℕ). least_count 8 t (count + 1) n) less
    ∙ sym (ap (λ (t : ℕ). least_count 8 t count n) tries
    ∙ least_on 8 (7 - count) count n (great n (2 ^ (8 * count)) (pow_pos (8 * count)) e))

pub octets_last : (n : ℕ) → octets_from 8 n ≡ 8
unfolding octets_from
octets_last n = refl
