-- The two spare bits of the first octet of a status are masked at once.
use Rattle.std.proofs.Common.{◌≡◌, ℕ, ◌+◌, ◌*◌, ◌/◌, ◌%◌, ◌<◌, ◌==◌, ◌∙◌, ◌&&◌, zero, suc, refl, ap, arith, ◌^◌, lit<}
use Rattle.std.specs.Int.RustNames.{bit_and}
use Rattle.std.proofs.lemmas.Nat.{and_block}
use Rattle.std.proofs.lemmas.Nat.Bits.{and_pow}

masked : (n : ℕ) → bit_and n 10 ≡ n / 8 % 2 * 8 + n / 2 % 2 * 2
masked n =
    let split : n ≡ n / 4 * 2 ^ 2 + n % 4 = omega arith in
    let low : n % 4 < 2 ^ 2 = omega arith in
    ap (λ m. bit_and m 10) split
    ∙ and_block 2 (n / 4) 2 (n % 4) 2 low (lit< tt)
    ∙ ap (λ m. m * 4 + bit_and (n % 4) 2) (and_pow (n / 4) 1)
    ∙ ap (λ m. n / 4 / 2 % 2 * 2 * 4 + m) (and_pow (n % 4) 1)
    ∙ omega arith

both : (high low : ℕ) → high < 2 → low < 2 → (high * 8 + low * 2 == 0) ≡ (low == 0) && (high == 0)
both zero zero h l = refl
both zero (suc zero) h l = refl
both (suc zero) zero h l = refl
both (suc zero) (suc zero) h l = refl
both (suc (suc high)) low h l = absurd (omega arith)
both zero (suc (suc low)) h l = absurd (omega arith)
both (suc zero) (suc (suc low)) h l = absurd (omega arith)

pub spares_clear : (first : ℕ) → (bit_and first 10 == 0) ≡ (first / 2 % 2 == 0) && (first / 8 % 2 == 0)
spares_clear first = ap (λ n. n == 0) (masked first) ∙ both (first / 8 % 2) (first / 2 % 2) (omega arith) (omega arith)
