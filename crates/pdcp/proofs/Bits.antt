-- Bit k of a bitmap is the truth value that was written there.
use Rattle.std.proofs.Common.{◌≡◌, ℕ, ◌+◌, ◌-◌, ◌*◌, ◌/◌, ◌%◌, ◌^◌, ◌≤◌, ◌==◌, Bool, true, false, if◌then◌else◌, List, [], ◌∷◌, slice_index_or, refl, ◌∙◌, ap, arith, zero, suc, lit≤}
use Rattle.std.proofs.Math.Nat.{zero-div}
use Rattle.pdcp.specs.Pdus.{bitmap, bitmap_bit, octet_of}

-- a truth value as a bit
abbrev bit_of : Bool → ℕ
bit_of b = if b then 1 else 0

worth_of : (w : ℕ) (b : Bool) → (if b then w else 0) ≡ w * bit_of b
worth_of w true = omega arith
worth_of w false = omega arith

small : (b : Bool) → bit_of b ≤ 1
small true = lit≤ tt
small false = lit≤ tt

bit_read : (b : Bool) → (bit_of b == 1) ≡ b
bit_read true = refl
bit_read false = refl

-- the bits of a sum of powers of two
number0 : (a b c d e f g h : ℕ) → a ≤ 1 → b ≤ 1 → c ≤ 1 → d ≤ 1 → e ≤ 1 → f ≤ 1 → g ≤ 1 → h ≤ 1
    → (128 * a + (64 * b + (32 * c + (16 * d + (8 * e + (4 * f + (2 * g + (1 * h + 0)))))))) / 128 % 2 ≡ a
number0 a b c d e f g h a1 b1 c1 d1 e1 f1 g1 h1 = omega arith

number1 : (a b c d e f g h : ℕ) → a ≤ 1 → b ≤ 1 → c ≤ 1 → d ≤ 1 → e ≤ 1 → f ≤ 1 → g ≤ 1 → h ≤ 1
    → (128 * a + (64 * b + (32 * c + (16 * d + (8 * e + (4 * f + (2 * g + (1 * h + 0)))))))) / 64 % 2 ≡ b
number1 a b c d e f g h a1 b1 c1 d1 e1 f1 g1 h1 = omega arith

number2 : (a b c d e f g h : ℕ) → a ≤ 1 → b ≤ 1 → c ≤ 1 → d ≤ 1 → e ≤ 1 → f ≤ 1 → g ≤ 1 → h ≤ 1
    → (128 * a + (64 * b + (32 * c + (16 * d + (8 * e + (4 * f + (2 * g + (1 * h + 0)))))))) / 32 % 2 ≡ c
number2 a b c d e f g h a1 b1 c1 d1 e1 f1 g1 h1 = omega arith

number3 : (a b c d e f g h : ℕ) → a ≤ 1 → b ≤ 1 → c ≤ 1 → d ≤ 1 → e ≤ 1 → f ≤ 1 → g ≤ 1 → h ≤ 1
    → (128 * a + (64 * b + (32 * c + (16 * d + (8 * e + (4 * f + (2 * g + (1 * h + 0)))))))) / 16 % 2 ≡ d
number3 a b c d e f g h a1 b1 c1 d1 e1 f1 g1 h1 = omega arith

number4 : (a b c d e f g h : ℕ) → a ≤ 1 → b ≤ 1 → c ≤ 1 → d ≤ 1 → e ≤ 1 → f ≤ 1 → g ≤ 1 → h ≤ 1
    → (128 * a + (64 * b + (32 * c + (16 * d + (8 * e + (4 * f + (2 * g + (1 * h + 0)))))))) / 8 % 2 ≡ e
number4 a b c d e f g h a1 b1 c1 d1 e1 f1 g1 h1 = omega arith

number5 : (a b c d e f g h : ℕ) → a ≤ 1 → b ≤ 1 → c ≤ 1 → d ≤ 1 → e ≤ 1 → f ≤ 1 → g ≤ 1 → h ≤ 1
    → (128 * a + (64 * b + (32 * c + (16 * d + (8 * e + (4 * f + (2 * g + (1 * h + 0)))))))) / 4 % 2 ≡ f
number5 a b c d e f g h a1 b1 c1 d1 e1 f1 g1 h1 = omega arith

number6 : (a b c d e f g h : ℕ) → a ≤ 1 → b ≤ 1 → c ≤ 1 → d ≤ 1 → e ≤ 1 → f ≤ 1 → g ≤ 1 → h ≤ 1
    → (128 * a + (64 * b + (32 * c + (16 * d + (8 * e + (4 * f + (2 * g + (1 * h + 0)))))))) / 2 % 2 ≡ g
number6 a b c d e f g h a1 b1 c1 d1 e1 f1 g1 h1 = omega arith

number7 : (a b c d e f g h : ℕ) → a ≤ 1 → b ≤ 1 → c ≤ 1 → d ≤ 1 → e ≤ 1 → f ≤ 1 → g ≤ 1 → h ≤ 1
    → (128 * a + (64 * b + (32 * c + (16 * d + (8 * e + (4 * f + (2 * g + (1 * h + 0)))))))) / 1 % 2 ≡ h
number7 a b c d e f g h a1 b1 c1 d1 e1 f1 g1 h1 = omega arith

-- the bits of an octet
octet_is : (a b c d e f g h : Bool)
    → octet_of (a ∷ b ∷ c ∷ d ∷ e ∷ f ∷ g ∷ h ∷ []) ≡ (128 * bit_of a + (64 * bit_of b + (32 * bit_of c + (16 * bit_of d + (8 * bit_of e + (4 * bit_of f + (2 * bit_of g + (1 * bit_of h + 0))))))))
octet_is a b c d e f g h = omega (arith, worth_of 128 a, worth_of 64 b, worth_of 32 c, worth_of 16 d, worth_of 8 e, worth_of 4 f, worth_of 2 g, worth_of 1 h)

bit0 : (a b c d e f g h : Bool) (octets : List ℕ) → bitmap_bit (octet_of (a ∷ b ∷ c ∷ d ∷ e ∷ f ∷ g ∷ h ∷ []) ∷ octets) 1 ≡ a
bit0 a b c d e f g h octets = ap (λ n. n / 128 % 2 == 1) (octet_is a b c d e f g h)
    ∙ ap (λ n. n == 1) (number0 (bit_of a) (bit_of b) (bit_of c) (bit_of d) (bit_of e) (bit_of f) (bit_of g) (bit_of h) (small a) (small b) (small c) (small d) (small e) (small f) (small g) (small h)) ∙ bit_read a

bit1 : (a b c d e f g h : Bool) (octets : List ℕ) → bitmap_bit (octet_of (a ∷ b ∷ c ∷ d ∷ e ∷ f ∷ g ∷ h ∷ []) ∷ octets) 2 ≡ b
bit1 a b c d e f g h octets = ap (λ n. n / 64 % 2 == 1) (octet_is a b c d e f g h)
    ∙ ap (λ n. n == 1) (number1 (bit_of a) (bit_of b) (bit_of c) (bit_of d) (bit_of e) (bit_of f) (bit_of g) (bit_of h) (small a) (small b) (small c) (small d) (small e) (small f) (small g) (small h)) ∙ bit_read b

bit2 : (a b c d e f g h : Bool) (octets : List ℕ) → bitmap_bit (octet_of (a ∷ b ∷ c ∷ d ∷ e ∷ f ∷ g ∷ h ∷ []) ∷ octets) 3 ≡ c
bit2 a b c d e f g h octets = ap (λ n. n / 32 % 2 == 1) (octet_is a b c d e f g h)
    ∙ ap (λ n. n == 1) (number2 (bit_of a) (bit_of b) (bit_of c) (bit_of d) (bit_of e) (bit_of f) (bit_of g) (bit_of h) (small a) (small b) (small c) (small d) (small e) (small f) (small g) (small h)) ∙ bit_read c

bit3 : (a b c d e f g h : Bool) (octets : List ℕ) → bitmap_bit (octet_of (a ∷ b ∷ c ∷ d ∷ e ∷ f ∷ g ∷ h ∷ []) ∷ octets) 4 ≡ d
bit3 a b c d e f g h octets = ap (λ n. n / 16 % 2 == 1) (octet_is a b c d e f g h)
    ∙ ap (λ n. n == 1) (number3 (bit_of a) (bit_of b) (bit_of c) (bit_of d) (bit_of e) (bit_of f) (bit_of g) (bit_of h) (small a) (small b) (small c) (small d) (small e) (small f) (small g) (small h)) ∙ bit_read d

bit4 : (a b c d e f g h : Bool) (octets : List ℕ) → bitmap_bit (octet_of (a ∷ b ∷ c ∷ d ∷ e ∷ f ∷ g ∷ h ∷ []) ∷ octets) 5 ≡ e
bit4 a b c d e f g h octets = ap (λ n. n / 8 % 2 == 1) (octet_is a b c d e f g h)
    ∙ ap (λ n. n == 1) (number4 (bit_of a) (bit_of b) (bit_of c) (bit_of d) (bit_of e) (bit_of f) (bit_of g) (bit_of h) (small a) (small b) (small c) (small d) (small e) (small f) (small g) (small h)) ∙ bit_read e

bit5 : (a b c d e f g h : Bool) (octets : List ℕ) → bitmap_bit (octet_of (a ∷ b ∷ c ∷ d ∷ e ∷ f ∷ g ∷ h ∷ []) ∷ octets) 6 ≡ f
bit5 a b c d e f g h octets = ap (λ n. n / 4 % 2 == 1) (octet_is a b c d e f g h)
    ∙ ap (λ n. n == 1) (number5 (bit_of a) (bit_of b) (bit_of c) (bit_of d) (bit_of e) (bit_of f) (bit_of g) (bit_of h) (small a) (small b) (small c) (small d) (small e) (small f) (small g) (small h)) ∙ bit_read f

bit6 : (a b c d e f g h : Bool) (octets : List ℕ) → bitmap_bit (octet_of (a ∷ b ∷ c ∷ d ∷ e ∷ f ∷ g ∷ h ∷ []) ∷ octets) 7 ≡ g
bit6 a b c d e f g h octets = ap (λ n. n / 2 % 2 == 1) (octet_is a b c d e f g h)
    ∙ ap (λ n. n == 1) (number6 (bit_of a) (bit_of b) (bit_of c) (bit_of d) (bit_of e) (bit_of f) (bit_of g) (bit_of h) (small a) (small b) (small c) (small d) (small e) (small f) (small g) (small h)) ∙ bit_read g

bit7 : (a b c d e f g h : Bool) (octets : List ℕ) → bitmap_bit (octet_of (a ∷ b ∷ c ∷ d ∷ e ∷ f ∷ g ∷ h ∷ []) ∷ octets) 8 ≡ h
bit7 a b c d e f g h octets = ap (λ n. n / 1 % 2 == 1) (octet_is a b c d e f g h)
    ∙ ap (λ n. n == 1) (number7 (bit_of a) (bit_of b) (bit_of c) (bit_of d) (bit_of e) (bit_of f) (bit_of g) (bit_of h) (small a) (small b) (small c) (small d) (small e) (small f) (small g) (small h)) ∙ bit_read h

-- each of the first eight numbers, and those after them
eight : (P : ℕ → Type 0) → P 0 → P 1 → P 2 → P 3 → P 4 → P 5 → P 6 → P 7 → ((k : ℕ) → P (suc (suc (suc (suc (suc (suc (suc (suc k)))))))))
    → (k : ℕ) → P k
eight P p0 p1 p2 p3 p4 p5 p6 p7 q zero = p0
eight P p0 p1 p2 p3 p4 p5 p6 p7 q (suc zero) = p1
eight P p0 p1 p2 p3 p4 p5 p6 p7 q (suc (suc zero)) = p2
eight P p0 p1 p2 p3 p4 p5 p6 p7 q (suc (suc (suc zero))) = p3
eight P p0 p1 p2 p3 p4 p5 p6 p7 q (suc (suc (suc (suc zero)))) = p4
eight P p0 p1 p2 p3 p4 p5 p6 p7 q (suc (suc (suc (suc (suc zero))))) = p5
eight P p0 p1 p2 p3 p4 p5 p6 p7 q (suc (suc (suc (suc (suc (suc zero)))))) = p6
eight P p0 p1 p2 p3 p4 p5 p6 p7 q (suc (suc (suc (suc (suc (suc (suc zero))))))) = p7
eight P p0 p1 p2 p3 p4 p5 p6 p7 q (suc (suc (suc (suc (suc (suc (suc (suc k)))))))) = q k

none_set : (k : ℕ) → bitmap_bit [] k ≡ false
none_set k = ap (λ n. n % 2 == 1) (zero-div (2 ^ (7 - (k - 1) % 8)))

next : (octet : ℕ) (octets : List ℕ) (k : ℕ)
    → bitmap_bit (octet ∷ octets) ((suc (suc (suc (suc (suc (suc (suc (suc k)))))))) + 1) ≡ bitmap_bit octets (k + 1)
next octet octets k =
    let place : ((suc (suc (suc (suc (suc (suc (suc (suc k)))))))) + 1 - 1) / 8 ≡ suc ((k + 1 - 1) / 8) = omega arith in
    let bit : ((suc (suc (suc (suc (suc (suc (suc (suc k)))))))) + 1 - 1) % 8 ≡ (k + 1 - 1) % 8 = omega arith in
    rw (place, bit) refl

past_eight : (octet : ℕ) (k : ℕ) → bitmap_bit (octet ∷ []) ((suc (suc (suc (suc (suc (suc (suc (suc k)))))))) + 1) ≡ false
past_eight octet k = next octet [] k ∙ none_set (k + 1)

pub bitmap-bit : (bits : List Bool) (k : ℕ) → bitmap_bit (bitmap bits) (k + 1) ≡ slice_index_or bits k false
unfolding bitmap
bitmap-bit [] k = none_set (k + 1)
bitmap-bit (a ∷ []) k = eight (λ k. bitmap_bit (bitmap (a ∷ [])) (k + 1) ≡ slice_index_or (a ∷ []) k false) (bit0 a false false false false false false false []) (bit1 a false false false false false false false []) (bit2 a false false false false false false false []) (bit3 a false false false false false false false []) (bit4 a false false false false false false false []) (bit5 a false false false false false false false []) (bit6 a false false false false false false false []) (bit7 a false false false false false false false []) (past_eight (octet_of (a ∷ []))) k
bitmap-bit (a ∷ b ∷ []) k = eight (λ k. bitmap_bit (bitmap (a ∷ b ∷ [])) (k + 1) ≡ slice_index_or (a ∷ b ∷ []) k false) (bit0 a b false false false false false false []) (bit1 a b false false false false false false []) (bit2 a b false false false false false false []) (bit3 a b false false false false false false []) (bit4 a b false false false false false false []) (bit5 a b false false false false false false []) (bit6 a b false false false false false false []) (bit7 a b false false false false false false []) (past_eight (octet_of (a ∷ b ∷ []))) k
bitmap-bit (a ∷ b ∷ c ∷ []) k = eight (λ k. bitmap_bit (bitmap (a ∷ b ∷ c ∷ [])) (k + 1) ≡ slice_index_or (a ∷ b ∷ c ∷ []) k false) (bit0 a b c false false false false false []) (bit1 a b c false false false false false []) (bit2 a b c false false false false false []) (bit3 a b c false false false false false []) (bit4 a b c false false false false false []) (bit5 a b c false false false false false []) (bit6 a b c false false false false false []) (bit7 a b c false false false false false []) (past_eight (octet_of (a ∷ b ∷ c ∷ []))) k
bitmap-bit (a ∷ b ∷ c ∷ d ∷ []) k = eight (λ k. bitmap_bit (bitmap (a ∷ b ∷ c ∷ d ∷ [])) (k + 1) ≡ slice_index_or (a ∷ b ∷ c ∷ d ∷ []) k false) (bit0 a b c d false false false false []) (bit1 a b c d false false false false []) (bit2 a b c d false false false false []) (bit3 a b c d false false false false []) (bit4 a b c d false false false false []) (bit5 a b c d false false false false []) (bit6 a b c d false false false false []) (bit7 a b c d false false false false []) (past_eight (octet_of (a ∷ b ∷ c ∷ d ∷ []))) k
bitmap-bit (a ∷ b ∷ c ∷ d ∷ e ∷ []) k = eight (λ k. bitmap_bit (bitmap (a ∷ b ∷ c ∷ d ∷ e ∷ [])) (k + 1) ≡ slice_index_or (a ∷ b ∷ c ∷ d ∷ e ∷ []) k false) (bit0 a b c d e false false false []) (bit1 a b c d e false false false []) (bit2 a b c d e false false false []) (bit3 a b c d e false false false []) (bit4 a b c d e false false false []) (bit5 a b c d e false false false []) (bit6 a b c d e false false false []) (bit7 a b c d e false false false []) (past_eight (octet_of (a ∷ b ∷ c ∷ d ∷ e ∷ []))) k
bitmap-bit (a ∷ b ∷ c ∷ d ∷ e ∷ f ∷ []) k = eight (λ k. bitmap_bit (bitmap (a ∷ b ∷ c ∷ d ∷ e ∷ f ∷ [])) (k + 1) ≡ slice_index_or (a ∷ b ∷ c ∷ d ∷ e ∷ f ∷ []) k false) (bit0 a b c d e f false false []) (bit1 a b c d e f false false []) (bit2 a b c d e f false false []) (bit3 a b c d e f false false []) (bit4 a b c d e f false false []) (bit5 a b c d e f false false []) (bit6 a b c d e f false false []) (bit7 a b c d e f false false []) (past_eight (octet_of (a ∷ b ∷ c ∷ d ∷ e ∷ f ∷ []))) k
bitmap-bit (a ∷ b ∷ c ∷ d ∷ e ∷ f ∷ g ∷ []) k = eight (λ k. bitmap_bit (bitmap (a ∷ b ∷ c ∷ d ∷ e ∷ f ∷ g ∷ [])) (k + 1) ≡ slice_index_or (a ∷ b ∷ c ∷ d ∷ e ∷ f ∷ g ∷ []) k false) (bit0 a b c d e f g false []) (bit1 a b c d e f g false []) (bit2 a b c d e f g false []) (bit3 a b c d e f g false []) (bit4 a b c d e f g false []) (bit5 a b c d e f g false []) (bit6 a b c d e f g false []) (bit7 a b c d e f g false []) (past_eight (octet_of (a ∷ b ∷ c ∷ d ∷ e ∷ f ∷ g ∷ []))) k
bitmap-bit (a ∷ b ∷ c ∷ d ∷ e ∷ f ∷ g ∷ h ∷ bits) k = eight (λ k. bitmap_bit (bitmap (a ∷ b ∷ c ∷ d ∷ e ∷ f ∷ g ∷ h ∷ bits)) (k + 1) ≡ slice_index_or (a ∷ b ∷ c ∷ d ∷ e ∷ f ∷ g ∷ h ∷ bits) k false) (bit0 a b c d e f g h (bitmap bits)) (bit1 a b c d e f g h (bitmap bits)) (bit2 a b c d e f g h (bitmap bits)) (bit3 a b c d e f g h (bitmap bits)) (bit4 a b c d e f g h (bitmap bits)) (bit5 a b c d e f g h (bitmap bits)) (bit6 a b c d e f g h (bitmap bits)) (bit7 a b c d e f g h (bitmap bits)) (λ k. next (octet_of (a ∷ b ∷ c ∷ d ∷ e ∷ f ∷ g ∷ h ∷ [])) (bitmap bits) k ∙ bitmap-bit bits k) k
