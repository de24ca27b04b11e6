-- Two's complement.
use Rattle.std.proofs.Common.{◌≡◌, ℕ, zero, suc, ◌+◌, ◌-◌, ◌*◌, ◌/◌, ◌^◌, ◌<◌, ◌≤◌, true, refl, ap, ◌∙◌, arith}
use Rattle.std.specs.Prelude.{ℤ, pos, negsuc, ◌-ℤ◌}
use Rattle.std.specs.Int.Signed.{lt_z, le_z}
use Rattle.std.proofs.lemmas.Int.{ints}
use Rattle.std.proofs.lemmas.Nat.{pow-add}
use Rattle.aper_defs.specs.Numbers.{unsigned_part, twos_complement, above}

-- ones in so many octets
pub ones_are : (k : ℕ) → 1 ≤ k → k ≤ 8 → 18446744073709551615 / 2 ^ (64 - 8 * k) ≡ 2 ^ (8 * k) - 1
ones_are zero some most = absurd (omega (arith, some))
ones_are (suc zero) some most = refl
ones_are (suc (suc zero)) some most = refl
ones_are (suc (suc (suc zero))) some most = refl
ones_are (suc (suc (suc (suc zero)))) some most = refl
ones_are (suc (suc (suc (suc (suc zero))))) some most = refl
ones_are (suc (suc (suc (suc (suc (suc zero)))))) some most = refl
ones_are (suc (suc (suc (suc (suc (suc (suc zero))))))) some most = refl
ones_are (suc (suc (suc (suc (suc (suc (suc (suc zero)))))))) some most = refl
ones_are (suc (suc (suc (suc (suc (suc (suc (suc (suc k))))))))) some most = absurd (omega (arith, most))

pub part_within : (k n : ℕ) → 1 ≤ k → k ≤ 8 → n < 2 ^ (8 * k - 1) → n ≤ 18446744073709551615 / 2 ^ (64 - 8 * k)
part_within k n some most h =
    let e : 8 * k ≡ 1 + (8 * k - 1) = omega arith in
    let twice : 2 ^ (8 * k) ≡ 2 * 2 ^ (8 * k - 1) = ap (λ (m : ℕ). 2 ^ m) e ∙ pow-add 2 1 (8 * k - 1) in
    omega (arith, ones_are k some most, twice)

pub negative : (k : ℕ) (z : ℤ) → lt_z z (pos 0) ≡ true → twos_complement k z ≡ 2 ^ (8 * k) - 1 - unsigned_part z
negative k (pos n) h = absurd (grind (arith, ints))
negative k (negsuc n) h = refl

pub difference : (low z : ℤ) → le_z low z ≡ true → z -ℤ low ≡ pos (above low z)
difference low z h = grind (arith, ints)
