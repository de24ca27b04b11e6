-- The fewest bits and octets of numbers, and numbers with signs.
use Rattle.std.proofs.Common.{◌≡◌, ℕ, zero, suc, ◌+◌, ◌-◌, ◌*◌, ◌^◌, ◌<◌, ◌≤◌, Bool, true, false, cond, ◌&&◌, ◌==◌, nat_lt, refl, sym, ap, subst, ◌∙◌, arith}
use Rattle.std.specs.Prelude.{ℤ, pos, negsuc, ◌+ℤ◌, nat_le}
use Rattle.std.specs.Int.Signed.{le_z}
use Rattle.std.proofs.lemmas.Int.{ints}
use Rattle.std.proofs.lemmas.Bool.{ltb-true}
use Rattle.std.proofs.lemmas.Bool.Decides.{nat_tests}
use Rattle.std.proofs.lemmas.Nat.{pow-add, pow_pos}
use Rattle.aper_defs.specs.Numbers.{least_count, bits_for, octets_for, unsigned_part, signed_octets_for, twos_complement, signed_number, is_signed, in_range, above}

-- by the two values of a test, of which each is known in its branch
pub by_cases : (b : Bool) (P : Bool → Type 0) → (b ≡ true → P true) → (b ≡ false → P false) → P b
by_cases true P yes_case no_case = yes_case refl
by_cases false P yes_case no_case = no_case refl

pub below : (a b : ℕ) → nat_lt a b ≡ true → a < b
below a b h = ltb-true a b h

pub not_below : (a b : ℕ) → nat_lt a b ≡ false → b ≤ a
not_below a b h = grind (arith, nat_tests)

pub is_below : (a b : ℕ) → a < b → nat_lt a b ≡ true
is_below a b h = grind (arith, nat_tests)

pub is_not_below : (a b : ℕ) → b ≤ a → nat_lt a b ≡ false
is_not_below a b h = grind (arith, nat_tests)

pub at_most : (a b : ℕ) → nat_le a b ≡ true → a ≤ b
at_most a b h = grind (arith, nat_tests)

pub is_at_most : (a b : ℕ) → a ≤ b → nat_le a b ≡ true
is_at_most a b h = grind (arith, nat_tests)

pub same : (a b : ℕ) → (a == b) ≡ true → a ≡ b
same a b h = grind (arith, nat_tests)

pub is_same : (a b : ℕ) → a ≡ b → (a == b) ≡ true
is_same a b h = grind (arith, nat_tests)

pub first_of_both : (a b : Bool) → (a && b) ≡ true → a ≡ true
first_of_both true b h = refl
first_of_both false b h = cc

pub second_of_both : (a b : Bool) → (a && b) ≡ true → b ≡ true
second_of_both true b h = h
second_of_both false b h = cc

-- ---- least counts
pub least_from : (unit tries count n : ℕ) → count ≤ least_count unit tries count n
least_from unit zero count n = omega arith
least_from unit (suc tries) count n =
    by_cases (nat_lt n (2 ^ (unit * count))) (λ b. count ≤ cond b count (least_count unit tries (count + 1) n))
    (λ h. omega arith) (λ h. omega (arith, least_from unit tries (count + 1) n))

pub least_fits : (unit tries count n : ℕ) → n < 2 ^ (unit * (count + tries)) → n < 2 ^ (unit * least_count unit tries count n)
least_fits unit zero count n h =
    let e : count + 0 ≡ count = omega arith in subst (λ (m : ℕ). n < 2 ^ (unit * m)) e h
least_fits unit (suc tries) count n h =
    let e : count + suc tries ≡ count + 1 + tries = omega arith in
    by_cases (nat_lt n (2 ^ (unit * count))) (λ b. n < 2 ^ (unit * cond b count (least_count unit tries (count + 1) n)))
    (λ k. below n (2 ^ (unit * count)) k)
    (λ k. least_fits unit tries (count + 1) n (subst (λ (m : ℕ). n < 2 ^ (unit * m)) e h))

-- one step of the next lemma, given what the further tries say
least_further : (unit count n least : ℕ) → count + 1 ≤ least → (count + 1 < least → 2 ^ (unit * (least - 1)) ≤ n)
    → nat_lt n (2 ^ (unit * count)) ≡ false → 2 ^ (unit * (least - 1)) ≤ n
least_further unit count n least from more k =
    by_cases (nat_lt (count + 1) least) (λ b. 2 ^ (unit * (least - 1)) ≤ n)
    (λ h. more (below (count + 1) least h))
    (λ h. let e : least - 1 ≡ count = omega (arith, not_below (count + 1) least h) in
    subst (λ (m : ℕ). 2 ^ (unit * m) ≤ n) (sym e) (not_below n (2 ^ (unit * count)) k))

pub least_is_least : (unit tries count n : ℕ) → count < least_count unit tries count n
    → 2 ^ (unit * (least_count unit tries count n - 1)) ≤ n
least_is_least unit zero count n h = absurd (omega arith)
least_is_least unit (suc tries) count n h =
    by_cases (nat_lt n (2 ^ (unit * count))) (λ b. count < cond b count (least_count unit tries (count + 1) n)
    → 2 ^ (unit * (cond b count (least_count unit tries (count + 1) n) - 1)) ≤ n)
    (λ k g. absurd (omega arith))
    (λ k g. least_further unit count n (least_count unit tries (count + 1) n) (least_from unit tries (count + 1) n)
    (least_is_least unit tries (count + 1) n) k) h

pub least_grows : (unit tries count n m : ℕ) → n ≤ m → least_count unit tries count n ≤ least_count unit tries count m
least_grows unit zero count n m h = omega arith
least_grows unit (suc tries) count n m h =
    by_cases (nat_lt m (2 ^ (unit * count)))
    (λ b. least_count unit (suc tries) count n ≤ cond b count (least_count unit tries (count + 1) m))
    (λ k. let e : nat_lt n (2 ^ (unit * count)) ≡ true = is_below n (2 ^ (unit * count)) (omega (arith, below m (2 ^ (unit * count)) k)) in
    subst (λ (b : Bool). cond b count (least_count unit tries (count + 1) n) ≤ count) (sym e) (omega arith))
    (λ k. by_cases (nat_lt n (2 ^ (unit * count)))
    (λ b. cond b count (least_count unit tries (count + 1) n) ≤ least_count unit tries (count + 1) m)
    (λ j. omega (arith, least_from unit tries (count + 1) m))
    (λ j. least_grows unit tries (count + 1) n m h))

-- ---- octets and bits of numbers
pub octets_positive : (n : ℕ) → 1 ≤ octets_for n
octets_positive n = least_from 8 7 1 n

pub octets_fit : (n : ℕ) → n < 2 ^ 64 → n < 2 ^ (8 * octets_for n)
octets_fit n h = least_fits 8 7 1 n h

pub octets_least : (n : ℕ) → 1 < octets_for n → 2 ^ (8 * (octets_for n - 1)) ≤ n
octets_least n h = least_is_least 8 7 1 n h

pub octets_grow : (n m : ℕ) → n ≤ m → octets_for n ≤ octets_for m
octets_grow n m h = least_grows 8 7 1 n m h

pub bits_fit : (n : ℕ) → n < 256 → n < 2 ^ bits_for n
bits_fit n h = let e : 1 * bits_for n ≡ bits_for n = omega arith in
    subst (λ (w : ℕ). n < 2 ^ w) e (least_fits 1 8 0 n h)

-- ---- numbers with signs
pub in_range_low : (low high z : ℤ) → in_range low high z ≡ true → le_z low z ≡ true
in_range_low low high z h = first_of_both (le_z low z) (le_z z high) h

pub above_again : (low z : ℤ) → le_z low z ≡ true → low +ℤ pos (above low z) ≡ z
above_again low z h = grind (arith, ints)

pub above_at_most : (low high z : ℤ) → in_range low high z ≡ true → above low z ≤ above low high
above_at_most low high z h =
    let a : le_z low z ≡ true = in_range_low low high z h in
    let b : le_z z high ≡ true = second_of_both (le_z low z) (le_z z high) h in
    grind (arith, ints)

-- a number of 64 bits with a sign is again the one that its octets are
doubled_below : (n k : ℕ) → 1 ≤ k → 2 * n < 2 ^ (8 * k) → n < 2 ^ (8 * k - 1)
doubled_below n k some h =
    let e : 8 * k ≡ 1 + (8 * k - 1) = omega arith in
    let twice : 2 ^ (8 * k) ≡ 2 * 2 ^ (8 * k - 1) = ap (λ (m : ℕ). 2 ^ m) e ∙ pow-add 2 1 (8 * k - 1) in
    omega (arith, twice)

pub signed_part_fits : (z : ℤ) → is_signed z ≡ true → unsigned_part z < 2 ^ (8 * signed_octets_for z - 1)
signed_part_fits z h =
    doubled_below (unsigned_part z) (signed_octets_for z) (octets_positive (2 * unsigned_part z))
    (octets_fit (2 * unsigned_part z) (omega (arith, below (unsigned_part z) (2 ^ 63) h)))

half_of : (k : ℕ) → 1 ≤ k → 2 ^ (8 * k) ≡ 2 * 2 ^ (8 * k - 1)
half_of k some = let e : 8 * k ≡ 1 + (8 * k - 1) = omega arith in ap (λ (m : ℕ). 2 ^ m) e ∙ pow-add 2 1 (8 * k - 1)

signed_pos : (k n : ℕ) → 1 ≤ k → n < 2 ^ (8 * k - 1) → signed_number k n ≡ pos n
signed_pos k n some h =
    ap (λ (b : Bool). cond b (pos n) (negsuc (2 ^ (8 * k) - 1 - n))) (is_below n (2 ^ (8 * k - 1)) h)

signed_neg : (k n : ℕ) → 1 ≤ k → n < 2 ^ (8 * k - 1) → signed_number k (2 ^ (8 * k) - 1 - n) ≡ negsuc n
signed_neg k n some h =
    let back : 2 ^ (8 * k) - 1 - (2 ^ (8 * k) - 1 - n) ≡ n = omega (arith, half_of k some) in
    ap (λ (b : Bool). cond b (pos (2 ^ (8 * k) - 1 - n)) (negsuc (2 ^ (8 * k) - 1 - (2 ^ (8 * k) - 1 - n))))
    (is_not_below (2 ^ (8 * k) - 1 - n) (2 ^ (8 * k - 1)) (omega (arith, half_of k some)))
    ∙ ap negsuc back

pub signed_again : (k : ℕ) (z : ℤ) → 1 ≤ k → unsigned_part z < 2 ^ (8 * k - 1) → signed_number k (twos_complement k z) ≡ z
signed_again k (pos n) some h = signed_pos k n some h
signed_again k (negsuc n) some h = signed_neg k n some h

pub twos_complement_fits : (k : ℕ) (z : ℤ) → 1 ≤ k → unsigned_part z < 2 ^ (8 * k - 1) → twos_complement k z < 2 ^ (8 * k)
twos_complement_fits k (pos n) some h = omega (arith, half_of k some)
twos_complement_fits k (negsuc n) some h = omega (arith, half_of k some, pow_pos (8 * k))

pub signed_octets_positive : (z : ℤ) → 1 ≤ signed_octets_for z
signed_octets_positive z = octets_positive (2 * unsigned_part z)

least_bounded : (unit tries count n : ℕ) → least_count unit tries count n ≤ count + tries
least_bounded unit zero count n = omega arith
least_bounded unit (suc tries) count n =
    by_cases (nat_lt n (2 ^ (unit * count))) (λ b. cond b count (least_count unit tries (count + 1) n) ≤ count + suc tries)
    (λ h. omega arith) (λ h. omega (arith, least_bounded unit tries (count + 1) n))

pub octets_at_most : (n : ℕ) → octets_for n ≤ 8
octets_at_most n = least_bounded 8 7 1 n

pub signed_octets_at_most : (z : ℤ) → signed_octets_for z ≤ 8
signed_octets_at_most z = octets_at_most (2 * unsigned_part z)
