-- The flags of the first octet, as code tests them by masks.
use Rattle.std.proofs.Common.{◌≡◌, ◌≢◌, ℕ, zero, suc, ◌*◌, ◌/◌, ◌%◌, ◌<◌, ◌==◌, true, false, not, bit_and, ap, ◌∙◌, arith, eq-eqb, ne_eqb, lt-ltb, le-ltb, zero-mul}
use Rattle.std.proofs.lemmas.Nat.{and_mask}
use Rattle.std.proofs.lemmas.Nat.Bits.{and_pow}
use Rattle.gtpu.specs.Packets.{e_flag, s_flag, pn_flag, has_flag}

one_bit : (b n : ℕ) → b < 2 → 0 < n → not (b * n == 0) ≡ (b == 1)
one_bit zero n small some = ap not (eq-eqb (0 * n) 0 (zero-mul n))
one_bit (suc zero) n small some = ap not (ne_eqb (1 * n) 0 (λ e. omega arith))
one_bit (suc (suc b)) n small some = absurd (omega arith)

pub e_test : (flags : ℕ) → not (bit_and flags 4 == 0) ≡ e_flag flags
e_test flags = ap (λ (x : ℕ). not (x == 0)) (and_pow flags 2) ∙ one_bit (flags / 4 % 2) 4 (omega arith) (omega arith)

pub s_test : (flags : ℕ) → not (bit_and flags 2 == 0) ≡ s_flag flags
s_test flags = ap (λ (x : ℕ). not (x == 0)) (and_pow flags 1) ∙ one_bit (flags / 2 % 2) 2 (omega arith) (omega arith)

pub pn_test : (flags : ℕ) → not (bit_and flags 1 == 0) ≡ pn_flag flags
pn_test flags = ap (λ (x : ℕ). not (x == 0)) (and_pow flags 0) ∙ one_bit (flags / 1 % 2) 1 (omega arith) (omega arith)
    ∙ ap (λ (x : ℕ). x == 1) (omega arith)

pub no_flag : (flags : ℕ) → bit_and flags 7 ≡ 0 → has_flag flags ≡ false
no_flag flags h = le-ltb 0 (flags % 8) (omega (arith, h, and_mask flags 3))

pub some_flag : (flags : ℕ) → bit_and flags 7 ≢ 0 → has_flag flags ≡ true
some_flag flags h = lt-ltb 0 (flags % 8) (omega (arith, h, and_mask flags 3))
