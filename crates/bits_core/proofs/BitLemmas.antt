-- Numbers and their bits, and octets in them.
use Rattle.std.proofs.Common.{◌≡◌, ℕ, zero, suc, ◌+◌, ◌*◌, ◌/◌, ◌%◌, ◌^◌, ◌<◌, ◌≤◌, Bool, true, false, eqb, List, [], ◌∷◌, ◌++◌, length, get_or, take, drop, map, refl, sym, ap, ◌∙◌, arith, append_assoc, append-nil}
use Rattle.std.proofs.lemmas.List.{length-append, length-drop, take_at, drop_at, take-append-le, drop-append-le, drop-drop, drop_more, drop_all}
use Rattle.std.proofs.lemmas.Nat.{shr-shr, mod-pow-add, pow-add, shr_high, pow_pos, mod_below}
use Rattle.std.proofs.Math.Nat.{pow-suc, pow-succ', mul-add-div_right, div-add-mod', zero-div, mod-eq_of_lt}
use Rattle.std.proofs.lemmas.List.Elements.{All-head, All-tail}
use Rattle.std.specs.Prelude.{All}
use Rattle.bits_core.specs.Bits.{bit_value, number_of, bits_of, octet_bits, zeros, Field, FieldFits, bits_of_fields, numbers_at}

pub length-bits_of : (width n : ℕ) → length (bits_of width n) ≡ width
unfolding bits_of
length-bits_of zero n = refl
length-bits_of (suc width) n = ap suc (length-bits_of width n)

-- the first bits of a number are those of the number without the last ones
pub bits_of-add : (high low n : ℕ) → bits_of (high + low) n ≡ bits_of high (n / 2 ^ low) ++ bits_of low n
unfolding bits_of
bits_of-add zero low n = let e : zero + low ≡ low = omega arith in ap (λ (w : ℕ). bits_of w n) e
bits_of-add (suc high) low n =
    let e : suc high + low ≡ suc (high + low) = omega arith in
    let place : low + high ≡ high + low = omega arith in
    let bit : n / 2 ^ (high + low) ≡ n / 2 ^ low / 2 ^ high = sym (shr-shr n low high ∙ ap (λ (k : ℕ). n / 2 ^ k) place) in
    ap (λ (w : ℕ). bits_of w n) e
    ∙ ap (λ (m : ℕ). eqb (m % 2) 1 ∷ bits_of (high + low) n) bit
    ∙ ap (λ (bits : List Bool). eqb (n / 2 ^ low / 2 ^ high % 2) 1 ∷ bits) (bits_of-add high low n)

-- a bit of a number below 2
bit_is : (b : ℕ) → b < 2 → bit_value (eqb b 1) ≡ b
bit_is zero h = refl
bit_is (suc zero) h = refl
bit_is (suc (suc b)) h = absurd (omega arith)

-- and the number that bits spell is the number, at their width
pub number_of-bits_of : (width n : ℕ) → number_of (bits_of width n) ≡ n % 2 ^ width
unfolding bits_of
number_of-bits_of zero n = omega arith
number_of-bits_of (suc width) n =
    let top : bit_value (eqb (n / 2 ^ width % 2) 1) ≡ n / 2 ^ width % 2 = bit_is (n / 2 ^ width % 2) (mod_below (n / 2 ^ width) 2 (omega arith)) in
    let whole : n % 2 ^ (1 + width) ≡ (n / 2 ^ width % 2 ^ 1) * 2 ^ width + n % 2 ^ width = mod-pow-add n 1 width in
    let size : 1 + width ≡ suc width = omega arith in
    ap (λ (w : ℕ). bit_value (eqb (n / 2 ^ width % 2) 1) * 2 ^ w + number_of (bits_of width n)) (length-bits_of width n)
    ∙ ap (λ (b : ℕ). b * 2 ^ width + number_of (bits_of width n)) top
    ∙ ap (λ (m : ℕ). n / 2 ^ width % 2 * 2 ^ width + m) (number_of-bits_of width n)
    ∙ sym whole ∙ ap (λ (w : ℕ). n % 2 ^ w) size

pub number_is : (width n : ℕ) → n < 2 ^ width → number_of (bits_of width n) ≡ n
number_is width n h = number_of-bits_of width n ∙ mod-eq_of_lt h

pub number_of-append : (xs ys : List Bool) → number_of (xs ++ ys) ≡ number_of xs * 2 ^ length ys + number_of ys
number_of-append [] ys = omega arith
number_of-append (x ∷ xs) ys =
    let size : 2 ^ length (xs ++ ys) ≡ 2 ^ length xs * 2 ^ length ys = ap (λ (n : ℕ). 2 ^ n) (length-append xs ys) ∙ pow-add 2 (length xs) (length ys) in
    ap (λ (m : ℕ). bit_value x * m + number_of (xs ++ ys)) size
    ∙ ap (λ (m : ℕ). bit_value x * (2 ^ length xs * 2 ^ length ys) + m) (number_of-append xs ys)
    ∙ regroup (bit_value x) (2 ^ length xs) (2 ^ length ys) (number_of xs) (number_of ys)
  where
    regroup : (b x y n m : ℕ) → b * (x * y) + (n * y + m) ≡ (b * x + n) * y + m
    regroup b x y n m = omega arith

pub number_small : (bits : List Bool) → number_of bits < 2 ^ length bits
number_small [] = omega arith
number_small (false ∷ bits) = let e : 2 ^ suc (length bits) ≡ 2 * 2 ^ length bits = pow-succ' 2 (length bits) in omega (arith, number_small bits, e)
number_small (true ∷ bits) = let e : 2 ^ suc (length bits) ≡ 2 * 2 ^ length bits = pow-succ' 2 (length bits) in omega (arith, number_small bits, e)

doubled : (a p n : ℕ) → a * (p * 2) + n ≡ a * 2 * p + n
doubled a p n = omega arith

-- what stands above so many bits doesn't count
pub bits_of-above : (width above n : ℕ) → bits_of width (above * 2 ^ width + n) ≡ bits_of width n
unfolding bits_of
bits_of-above zero above n = refl
bits_of-above (suc width) above n =
    let twice : above * 2 ^ suc width + n ≡ above * 2 * 2 ^ width + n = ap (λ (p : ℕ). above * p + n) (pow-suc 2 width) ∙ doubled above (2 ^ width) n in
    let quotient : (above * 2 * 2 ^ width + n) / 2 ^ width ≡ above * 2 + n / 2 ^ width = mul-add-div_right (pow_pos width) (above * 2) n in
    let bit : (above * 2 + n / 2 ^ width) % 2 ≡ n / 2 ^ width % 2 = omega arith in
    ap (λ (m : ℕ). eqb (m / 2 ^ width % 2) 1 ∷ bits_of width m) twice
    ∙ ap (λ (m : ℕ). eqb (m % 2) 1 ∷ bits_of width (above * 2 * 2 ^ width + n)) quotient
    ∙ ap (λ (m : ℕ). eqb m 1 ∷ bits_of width (above * 2 * 2 ^ width + n)) bit
    ∙ ap (λ (bits : List Bool). eqb (n / 2 ^ width % 2) 1 ∷ bits) (bits_of-above width (above * 2) n)

pub bits_of-mod : (width n : ℕ) → bits_of width (n % 2 ^ width) ≡ bits_of width n
bits_of-mod width n =
    sym (bits_of-above width (n / 2 ^ width) (n % 2 ^ width)) ∙ ap (bits_of width) (div-add-mod' n (2 ^ width))

-- bits after bits
pub bits_of-join : (high low n part : ℕ) → part < 2 ^ low → bits_of (high + low) (n * 2 ^ low + part) ≡ bits_of high n ++ bits_of low part
bits_of-join high low n part small =
    bits_of-add high low (n * 2 ^ low + part)
    ∙ ap (λ (m : ℕ). bits_of high m ++ bits_of low (n * 2 ^ low + part)) (shr_high n low part small)
    ∙ ap (λ (bits : List Bool). bits_of high n ++ bits) (bits_of-above low n part)

value_bit : (b : Bool) → eqb (bit_value b % 2) 1 ≡ b
value_bit false = refl
value_bit true = refl

pub bits_of-number_of : (bits : List Bool) → bits_of (length bits) (number_of bits) ≡ bits
unfolding bits_of
bits_of-number_of [] = refl
bits_of-number_of (bit ∷ bits) =
    let quotient : (bit_value bit * 2 ^ length bits + number_of bits) / 2 ^ length bits ≡ bit_value bit = shr_high (bit_value bit) (length bits) (number_of bits) (number_small bits) in
    ap (λ (m : ℕ). eqb (m % 2) 1 ∷ bits_of (length bits) (bit_value bit * 2 ^ length bits + number_of bits)) quotient
    ∙ ap (λ (b : Bool). b ∷ bits_of (length bits) (bit_value bit * 2 ^ length bits + number_of bits)) (value_bit bit)
    ∙ ap (λ (bs : List Bool). bit ∷ bs) (bits_of-above (length bits) (bit_value bit) (number_of bits) ∙ bits_of-number_of bits)

pub bits_of-zero : (width : ℕ) → bits_of width 0 ≡ zeros width
unfolding bits_of
bits_of-zero zero = refl
bits_of-zero (suc width) =
    let none : 0 / 2 ^ width ≡ 0 = zero-div (2 ^ width) in
    ap (λ (m : ℕ). eqb (m % 2) 1 ∷ bits_of width 0) none ∙ ap (λ (bits : List Bool). false ∷ bits) (bits_of-zero width)

-- 0 is the number of zeros alone
pub only_zeros : (bits : List Bool) → number_of bits ≡ 0 → bits ≡ zeros (length bits)
only_zeros bits none = sym (bits_of-number_of bits) ∙ ap (bits_of (length bits)) none ∙ bits_of-zero (length bits)

pub number_of-zeros : (count : ℕ) → number_of (zeros count) ≡ 0
number_of-zeros count = ap number_of (sym (bits_of-zero count)) ∙ number_is count 0 (pow_pos count)

-- ---- octets
pub length-octet_bits : (octets : List ℕ) → length (octet_bits octets) ≡ 8 * length octets
length-octet_bits [] = refl
length-octet_bits (o ∷ octets) = omega (arith, length-append (bits_of 8 o) (octet_bits octets), length-bits_of 8 o, length-octet_bits octets)

pub octet_bits-push : (octets : List ℕ) (o : ℕ) → octet_bits (octets ++ o ∷ []) ≡ octet_bits octets ++ bits_of 8 o
octet_bits-push [] o = append-nil (bits_of 8 o)
octet_bits-push (x ∷ octets) o = ap (λ (bits : List Bool). bits_of 8 x ++ bits) (octet_bits-push octets o) ∙ sym (append_assoc (bits_of 8 x) (octet_bits octets) (bits_of 8 o))

drop_octets : (octets : List ℕ) (q : ℕ) → drop (8 * q) (octet_bits octets) ≡ octet_bits (drop q octets)
drop_octets octets zero = refl
drop_octets [] (suc q) = drop_all (8 * suc q) [] (omega arith)
drop_octets (o ∷ octets) (suc q) =
    let further : 8 * suc q ≡ 8 + 8 * q = omega arith in
    ap (λ (n : ℕ). drop n (bits_of 8 o ++ octet_bits octets)) further
    ∙ sym (drop-drop (8 * q) 8 (bits_of 8 o ++ octet_bits octets))
    ∙ ap (drop (8 * q)) (drop_at (bits_of 8 o) (octet_bits octets) 8 (length-bits_of 8 o)) ∙ drop_octets octets q

-- bits within one octet
pub within_octet : (octets : List ℕ) (q used count : ℕ) → q < length octets → used + count ≤ 8
    → take count (drop (8 * q + used) (octet_bits octets)) ≡ take count (drop used (bits_of 8 (get_or octets q 0)))
within_octet octets q used count h fits =
    let o = get_or octets q 0 in
    let here : drop (8 * q + used) (octet_bits octets) ≡ drop used (bits_of 8 o ++ octet_bits (drop (q + 1) octets)) =
    sym (drop-drop used (8 * q) (octet_bits octets)) ∙ ap (drop used) (drop_octets octets q ∙ ap octet_bits (drop_more octets q 0 h)) in
    let whole : length (bits_of 8 o) ≡ 8 = length-bits_of 8 o in
    ap (take count) (here ∙ drop-append-le used (bits_of 8 o) (octet_bits (drop (q + 1) octets)) (omega arith))
    ∙ take-append-le count (drop used (bits_of 8 o)) (octet_bits (drop (q + 1) octets)) (omega (arith, length-drop used (bits_of 8 o)))

-- they are the bits of a part of the octet
pub part_of_octet : (o used count rest : ℕ) → used + (count + rest) ≡ 8
    → take count (drop used (bits_of 8 o)) ≡ bits_of count (o / 2 ^ rest)
part_of_octet o used count rest size =
    ap (λ (w : ℕ). take count (drop used (bits_of w o))) (sym size)
    ∙ ap (λ (bits : List Bool). take count (drop used bits)) (bits_of-add used (count + rest) o)
    ∙ ap (take count) (drop_at (bits_of used (o / 2 ^ (count + rest))) (bits_of (count + rest) o) used (length-bits_of used (o / 2 ^ (count + rest))))
    ∙ ap (take count) (bits_of-add count rest o)
    ∙ take_at (bits_of count (o / 2 ^ rest)) (bits_of rest o) count (length-bits_of count (o / 2 ^ rest))

pub same_octets : (a b : List ℕ) → All (λ o. o < 256) a → All (λ o. o < 256) b → octet_bits a ≡ octet_bits b → a ≡ b
same_octets [] [] p q e = refl
same_octets [] (y ∷ b) p q e = absurd (omega (arith, ap length e, length-octet_bits (y ∷ b)))
same_octets (x ∷ a) [] p q e = absurd (omega (arith, ap length e, length-octet_bits (x ∷ a)))
same_octets (x ∷ a) (y ∷ b) p q e =
    let bits : bits_of 8 x ≡ bits_of 8 y =
    sym (take_at (bits_of 8 x) (octet_bits a) 8 (length-bits_of 8 x)) ∙ ap (take 8) e ∙ take_at (bits_of 8 y) (octet_bits b) 8 (length-bits_of 8 y) in
    let others : octet_bits a ≡ octet_bits b =
    sym (drop_at (bits_of 8 x) (octet_bits a) 8 (length-bits_of 8 x)) ∙ ap (drop 8) e ∙ drop_at (bits_of 8 y) (octet_bits b) 8 (length-bits_of 8 y) in
    let first : x ≡ y =
    sym (number_is 8 x (All-head (λ o. o < 256) x a p)) ∙ ap number_of bits ∙ number_is 8 y (All-head (λ o. o < 256) y b q) in
    ap (λ (o : ℕ). o ∷ a) first
    ∙ ap (λ (os : List ℕ). y ∷ os) (same_octets a b (All-tail (λ o. o < 256) x a p) (All-tail (λ o. o < 256) y b q) others)

pub fields_again : (fields : List Field) (rest : List Bool) → All FieldFits fields
    → numbers_at (map (λ f. f.width) fields) (bits_of_fields fields ++ rest) ≡ map (λ f. f.value) fields
fields_again [] rest h = refl
fields_again (f ∷ fields) rest h =
    let split : bits_of_fields (f ∷ fields) ++ rest ≡ bits_of f.width f.value ++ (bits_of_fields fields ++ rest) =
    append_assoc (bits_of f.width f.value) (bits_of_fields fields) rest in
    let size : length (bits_of f.width f.value) ≡ f.width = length-bits_of f.width f.value in
    ap (λ (bits : List Bool). number_of (take f.width bits) ∷ numbers_at (map (λ (g : Field). g.width) fields) (drop f.width bits)) split
    ∙ ap (λ (bits : List Bool). number_of bits ∷ numbers_at (map (λ (g : Field). g.width) fields) (drop f.width (bits_of f.width f.value ++ (bits_of_fields fields ++ rest))))
    (take_at (bits_of f.width f.value) (bits_of_fields fields ++ rest) f.width size)
    ∙ ap (λ (n : ℕ). n ∷ numbers_at (map (λ (g : Field). g.width) fields) (drop f.width (bits_of f.width f.value ++ (bits_of_fields fields ++ rest))))
    (number_is f.width f.value (All-head FieldFits f fields h))
    ∙ ap (λ (bits : List Bool). f.value ∷ numbers_at (map (λ (g : Field). g.width) fields) bits)
    (drop_at (bits_of f.width f.value) (bits_of_fields fields ++ rest) f.width size)
    ∙ ap (λ (ns : List ℕ). f.value ∷ ns) (fields_again fields rest (All-tail FieldFits f fields h))
