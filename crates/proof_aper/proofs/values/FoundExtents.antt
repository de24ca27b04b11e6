-- What is read as a length is one.
use Rattle.std.proofs.Common.{◌≡◌, ℕ, suc, ◌+◌, ◌-◌, ◌*◌, ◌/◌, ◌^◌, ◌<◌, ◌≤◌, nat_lt, cond, ◌&&◌, Bool, true, false, List, [], ◌∷◌, length, take as first, None, Option, Ok, refl, sym, ap, subst, ◌∙◌, arith}
use Rattle.std.specs.Prelude.{nat_le}
use Rattle.std.proofs.lemmas.List.{length-take}
use Rattle.bits_core.specs.Bits.{bit_value, number_of}
use Rattle.bits_core.proofs.BitLemmas.{number_small}
use Rattle.asn1_syntax.specs.declared.types.definition.Size.{Size}
use Rattle.aper_defs.specs.declared.reason.Reason.TheVariants as reasons
use Rattle.aper_defs.specs.Fields.{Extent, extent, opening, whole, part}
use Rattle.aper_defs.specs.Bits.{part_units, extent_width, extent_number}
use Rattle.aper_defs.specs.Reading.{Cursor, bits_at, told_width, read, Form, octet_form, two_octets, units_form, form_of, told, is_inside, judged_length, judged_extent}
use Rattle.proof_aper.proofs.answers.NumberFacts.{is_below, is_not_below, at_most, first_of_both, second_of_both}
use Rattle.proof_aper.proofs.values.Found.{Answered, answer_read, not_wrong, taken_size}

-- a length that was judged, and isn't in the root
pub record IsLength (least most : ℕ) (outside : Option Size) (n : ℕ) : Type 0 where
  pub low : least ≤ n
  pub high : n ≤ most
  pub past : is_inside outside n ≡ false

outside_of : (b : Bool) → cond b false true ≡ true → b ≡ false
outside_of true e = cc
outside_of false e = refl

length_right : (b : Bool) (least most n : ℕ) → judged_length b least most n ≡ None → (b ≡ true) × (least ≤ n) × (n ≤ most)
length_right true least most n e =
    let h = not_wrong (nat_le least n && nat_le n most) reasons.Length e in (
      refl,
      at_most least n (first_of_both (nat_le least n) (nat_le n most) h),
      at_most n most (second_of_both (nat_le least n)
          (nat_le n most) h),
    )
length_right false least most n e = cc

whole_judged : (least most : ℕ) (outside : Option Size) (f : Form) → judged_extent (whole least most outside) f ≡ None
    → IsLength least most outside (told f)
whole_judged least most outside (octet_form n) e =
    let h = length_right (cond (is_inside outside n) false true) least most n e in record {
      low = h.1;
      high = h.2;
      past = outside_of
          (is_inside outside n) h.0;
    }
whole_judged least most outside (two_octets n) e =
    let h = length_right (nat_le 128 n && cond (is_inside outside n) false true) least most n e in
    record {
      low = h.1;
      high = h.2;
      past = outside_of (is_inside outside n) (second_of_both (nat_le 128 n) (cond
          (is_inside outside n) false true) h.0);
    }
whole_judged least most outside (units_form count) e = cc

pub whole_read : (least most : ℕ) (outside : Option Size) (c : Cursor) (n : ℕ) → read (extent (whole least most outside)) c ≡ Ok n
    → IsLength least most outside n
whole_read least most outside c n e =
    let a : Answered (extent (whole least most outside)) c n = answer_read (extent (whole least most outside)) c n e in
    subst (IsLength least most outside) a.same (whole_judged least most outside (form_of a.m) a.right)

pub opening_read : (c : Cursor) (n : ℕ) → read opening c ≡ Ok n → (1 ≤ n) × (n ≤ 16383)
opening_read c n e =
    let a : Answered opening c n = answer_read opening c n e in
    let h : IsLength 1 16383 None n = subst (IsLength 1 16383 None) a.same (whole_judged 1 16383 None (form_of a.m) a.right) in
    (h.low, h.high)

-- a length of a string in parts: the last one, or that of a part
pub data PartLength (before previous : ℕ) (outside : Option Size) (n : ℕ) : Type 0 where
  last : n < 16384 → is_inside outside (before + n) ≡ false → PartLength before previous outside n
  more : (count : ℕ) → n ≡ part_units * count → 1 ≤ count → count ≤ 4 → 65536 ≤ previous → PartLength before previous outside n

-- ---- how the bits of a length determinant begin
pub data Told (w m : ℕ) : Type 0 where
  short : w ≡ 8 → m < 128 → Told w m
  long : w ≡ 16 → 32768 ≤ m → m < 49152 → Told w m
  units : w ≡ 8 → 192 ≤ m → m < 256 → Told w m

long_at : (s x : ℕ) → s ≡ 14 → x < 2 ^ s → Told 16 (1 * 2 ^ suc s + (0 * 2 ^ s + x))
long_at s x e h = subst (λ (n : ℕ). x < 2 ^ n → Told 16 (1 * 2 ^ suc n + (0 * 2 ^ n + x))) (sym e) (λ k. long refl (omega arith)
    (omega arith)) h

units_at : (s x : ℕ) → s ≡ 6 → x < 2 ^ s → Told 8 (1 * 2 ^ suc s + (1 * 2 ^ s + x))
units_at s x e h = subst (λ (n : ℕ). x < 2 ^ n → Told 8 (1 * 2 ^ suc n + (1 * 2 ^ n + x))) (sym e) (λ k. units refl (omega arith)
    (omega arith)) h

short_at : (b s x : ℕ) → b ≤ 1 → s ≡ 6 → x < 2 ^ s → Told 8 (0 * 2 ^ suc s + (b * 2 ^ s + x))
short_at b s x f e h = subst (λ (n : ℕ). x < 2 ^ n → Told 8 (0 * 2 ^ suc n + (b * 2 ^ n + x))) (sym e) (λ k. short refl (omega arith)) h

front_size : (w : ℕ) (bits : List Bool) → w ≤ length bits → length (first w bits) ≡ w
front_size w bits h = omega (arith, length-take w bits)

bit_small : (b : Bool) → bit_value b ≤ 1
bit_small true = omega arith
bit_small false = omega arith

pub told_is : (bits : List Bool) → told_width bits ≤ length bits → Told (told_width bits) (number_of (first (told_width bits) bits))
told_is [] h = absurd (omega (arith, h))
told_is (true ∷ []) h = absurd (omega (arith, h))
told_is (false ∷ []) h = absurd (omega (arith, h))
told_is (true ∷ false ∷ bits) h = long_at (length (first 14 bits)) (number_of (first 14 bits)) (front_size 14 bits (omega (arith, h)))
    (number_small (first 14 bits))
told_is (true ∷ true ∷ bits) h = units_at (length (first 6 bits)) (number_of (first 6 bits)) (front_size 6 bits (omega (arith, h)))
    (number_small (first 6 bits))
told_is (false ∷ b ∷ bits) h =
    short_at (bit_value b) (length (first 6 bits)) (number_of (first 6 bits)) (bit_small b) (front_size 6 bits (omega (arith, h)))
    (number_small (first 6 bits))

form_short : (m : ℕ) → m < 128 → form_of m ≡ octet_form m
form_short m h = ap (λ b. cond b (octet_form m) (cond (nat_lt m 256) (units_form (m - 192)) (two_octets (m - 32768)))) (is_below m 128 h)

form_units : (m : ℕ) → 192 ≤ m → m < 256 → form_of m ≡ units_form (m - 192)
form_units m h k = ap (λ b. cond b (octet_form m) (cond (nat_lt m 256) (units_form (m - 192)) (two_octets (m - 32768))))
    (is_not_below m 128 (omega arith))
    ∙ ap (λ b. cond b (units_form (m - 192)) (two_octets (m - 32768))) (is_below m 256 k)

form_long : (m : ℕ) → 32768 ≤ m → form_of m ≡ two_octets (m - 32768)
form_long m h = ap (λ b. cond b (octet_form m) (cond (nat_lt m 256) (units_form (m - 192)) (two_octets (m - 32768)))) (is_not_below m 128
    (omega arith))
    ∙ ap (λ b. cond b (units_form (m - 192)) (two_octets (m - 32768))) (is_not_below m 256 (omega arith))

-- the width and the number are those of the length
pub record Right (w m n : ℕ) : Type 0 where
  pub wide : w ≡ extent_width n
  pub number : m ≡ extent_number n

right_short : (n : ℕ) → n < 128 → Right 8 n n
right_short n h = record {
  wide = sym (ap (λ b. cond b 8 (cond (nat_lt n part_units) 16 8)) (is_below n 128 h));
  number = sym (ap (λ b. cond b n (cond (nat_lt n part_units) (32768 + n) (192 + n / part_units))) (is_below n 128 h));
}

right_long : (n : ℕ) → 128 ≤ n → n < 16384 → Right 16 (32768 + n) n
right_long n h k = record {
  wide = sym (ap (λ b. cond b 8 (cond (nat_lt n part_units) 16 8)) (is_not_below n 128 h) ∙ ap (λ b. cond b 16 8)
      (is_below n part_units k));
  number = sym (ap (λ b. cond b n (cond (nat_lt n part_units) (32768 + n) (192 + n / part_units))) (is_not_below n 128 h)
      ∙ ap (λ b. cond b (32768 + n) (192 + n / part_units)) (is_below n part_units k));
}

right_units : (count n : ℕ) → 1 ≤ count → n ≡ part_units * count → Right 8 (192 + count) n
right_units count n h e = record {
  wide = sym (ap (λ b. cond b 8 (cond (nat_lt n part_units) 16 8)) (is_not_below n 128 (omega arith)) ∙ ap (λ b. cond b 16 8)
      (is_not_below n part_units (omega arith)));
  number = let g : 192 + count ≡ 192 + n / part_units = omega arith in
      g ∙ sym (ap (λ b. cond b n (cond (nat_lt n part_units) (32768 + n) (192 + n / part_units))) (is_not_below n 128 (omega arith))
      ∙ ap (λ b. cond b (32768 + n) (192 + n / part_units)) (is_not_below n part_units (omega arith)));
}

two_judged : (bounds : Extent) (n : ℕ) → judged_extent bounds (two_octets n) ≡ None → 128 ≤ n
two_judged (whole least most outside) n e =
    let h = length_right (nat_le 128 n && cond (is_inside outside n) false true) least most n e in
    at_most 128 n (first_of_both (nat_le 128 n) (cond (is_inside outside n) false true) h.0)
two_judged (part before previous outside) n e =
    at_most 128 n (first_of_both (nat_le 128 n) (cond (is_inside outside (before + n)) false true)
    (not_wrong (nat_le 128 n && cond (is_inside outside (before + n)) false true) reasons.NotMinimal e))

units_judged : (bounds : Extent) (count : ℕ) → judged_extent bounds (units_form count) ≡ None → 1 ≤ count
units_judged (whole least most outside) count e = cc
units_judged (part before previous outside) count e = (length_right (nat_le (4 * part_units) previous) 1 4 count e).1

pub extent_right : (bounds : Extent) (w m : ℕ) → Told w m → judged_extent bounds (form_of m) ≡ None → Right w m (told (form_of m))
extent_right bounds w m (short e h) j =
    subst (λ f. Right w m (told f)) (sym (form_short m h)) (subst (λ (x : ℕ). Right x m m) (sym e) (right_short m h))
extent_right bounds w m (long e h k) j =
    let n = m - 32768 in
    let some : 128 ≤ n = two_judged bounds n (subst (λ f. judged_extent bounds f ≡ None) (form_long m h) j) in
    let again : 32768 + n ≡ m = omega (arith, h) in
    subst (λ f. Right w m (told f)) (sym (form_long m h))
    (subst (λ (x : ℕ). Right x m n) (sym e) (subst (λ (x : ℕ). Right 16 x n) again (right_long n some (omega arith))))
extent_right bounds w m (units e h k) j =
    let count = m - 192 in
    let some : 1 ≤ count = units_judged bounds count (subst (λ f. judged_extent bounds f ≡ None) (form_units m h k) j) in
    let again : 192 + count ≡ m = omega (arith, h) in
    subst (λ f. Right w m (told f)) (sym (form_units m h k))
    (subst (λ (x : ℕ). Right x m (part_units * count)) (sym e)
    (subst (λ (x : ℕ). Right 8 x (part_units * count)) again (right_units count (part_units * count) some refl)))

part_judged : (before previous : ℕ) (outside : Option Size) (w m : ℕ) → Told w m
    → judged_extent (part before previous outside) (form_of m) ≡ None
    → PartLength before previous outside (told (form_of m))
part_judged before previous outside w m (short e h) j =
    let g = subst (λ f. judged_extent (part before previous outside) f ≡ None) (form_short m h) j in
    subst (λ f. PartLength before previous outside (told f)) (sym (form_short m h))
    (last (omega arith) (outside_of (is_inside outside (before + m)) (not_wrong (cond (is_inside outside
    (before + m)) false true) reasons.NotMinimal g)))
part_judged before previous outside w m (long e h k) j =
    let n = m - 32768 in
    let g = subst (λ f. judged_extent (part before previous outside) f ≡ None) (form_long m h) j in
    subst (λ f. PartLength before previous outside (told f)) (sym (form_long m h))
    (last (omega arith) (outside_of (is_inside outside (before + n)) (second_of_both (nat_le 128 n) (cond (is_inside outside
    (before + n)) false true)
    (not_wrong (nat_le 128 n && cond (is_inside outside (before + n)) false true) reasons.NotMinimal g))))
part_judged before previous outside w m (units e h k) j =
    let count = m - 192 in
    let g = length_right (nat_le (4 * part_units) previous) 1 4 count (subst (λ f. judged_extent (part before previous outside) f ≡ None)
    (form_units m h k) j) in
    subst (λ f. PartLength before previous outside (told f)) (sym (form_units m h k))
    (more count refl g.1 g.2 (at_most (4 * part_units) previous g.0))

pub part_read : (before previous : ℕ) (outside : Option Size) (c : Cursor) (n : ℕ) → read (extent (part before previous outside)) c ≡ Ok n
    → PartLength before previous outside n
part_read before previous outside c n e =
    let a : Answered (extent (part before previous outside)) c n = answer_read (extent (part before previous outside)) c n e in
    let w = told_width (bits_at c) in
    let t : Told w a.m = subst (Told w) (sym a.bits) (told_is (bits_at c) (taken_size c w a.room)) in
    subst (PartLength before previous outside) a.same (part_judged before previous outside w a.m t a.right)
