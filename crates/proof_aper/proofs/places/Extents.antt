-- Length determinants are read as they are written.
use Rattle.std.proofs.Common.{◌≡◌, ℕ, ◌+◌, ◌-◌, ◌*◌, ◌%◌, ◌/◌, ◌^◌, ◌<◌, ◌≤◌, ◌==◌, nat_lt, cond, ◌&&◌, Bool, true, false, List, ◌∷◌, ◌++◌, None, Option, refl, sym, ap, subst, ◌∙◌, arith}
use Rattle.std.specs.Prelude.{nat_le}
use Rattle.std.proofs.lemmas.Bool.Decides.{nat_tests}
use Rattle.asn1_syntax.specs.declared.types.definition.Size.{Size}
use Rattle.bits_core.specs.Bits.{bits_of}
use Rattle.aper_defs.specs.declared.reason.Reason.{Reason}
use Rattle.aper_defs.specs.declared.reason.Reason.TheVariants as reasons
use Rattle.aper_defs.specs.Fields.{extent, opening, whole, part}
use Rattle.aper_defs.specs.Bits.{part_units, extent_width, extent_number}
use Rattle.aper_defs.specs.Reading.{told_width, octet_form, two_octets, units_form, form_of, told, is_inside, unless, judged_length, judged_extent}
use Rattle.proof_aper.proofs.answers.NumberFacts.{by_cases, below, not_below, is_below, is_not_below, is_at_most}
use Rattle.proof_aper.proofs.places.Placed.{Allowed}

first_bits : (a b : Bool) (xs : List Bool) → told_width (a ∷ b ∷ xs) ≡ cond a (cond b 8 16) 8
first_bits true true xs = refl
first_bits true false xs = refl
first_bits false b xs = refl

width_of_octet : (n : ℕ) (rest : List Bool) → n < 128 → told_width (bits_of 8 n ++ rest) ≡ 8
unfolding bits_of
width_of_octet n rest h =
    let a : (n / 2 ^ 7 % 2 == 1) ≡ false = grind (arith, nat_tests) in
    first_bits (n / 2 ^ 7 % 2 == 1) (n / 2 ^ 6 % 2 == 1) (bits_of 6 n ++ rest) ∙ ap (λ x. cond x (cond (n / 2 ^ 6 % 2 == 1) 8 16) 8) a

width_of_two : (n : ℕ) (rest : List Bool) → n < 16384 → told_width (bits_of 16 (32768 + n) ++ rest) ≡ 16
unfolding bits_of
width_of_two n rest h =
    let x = 32768 + n in
    let a : (x / 2 ^ 15 % 2 == 1) ≡ true = grind (arith, nat_tests) in
    let b : (x / 2 ^ 14 % 2 == 1) ≡ false = grind (arith, nat_tests) in
    first_bits (x / 2 ^ 15 % 2 == 1) (x / 2 ^ 14 % 2 == 1) (bits_of 14 x ++ rest)
    ∙ ap (λ y. cond y (cond (x / 2 ^ 14 % 2 == 1) 8 16) 8) a ∙ ap (λ y. cond y 8 16) b

width_of_part : (k : ℕ) (rest : List Bool) → k < 64 → told_width (bits_of 8 (192 + k) ++ rest) ≡ 8
unfolding bits_of
width_of_part k rest h =
    let x = 192 + k in
    let a : (x / 2 ^ 7 % 2 == 1) ≡ true = grind (arith, nat_tests) in
    let b : (x / 2 ^ 6 % 2 == 1) ≡ true = grind (arith, nat_tests) in
    first_bits (x / 2 ^ 7 % 2 == 1) (x / 2 ^ 6 % 2 == 1) (bits_of 6 x ++ rest)
    ∙ ap (λ y. cond y (cond (x / 2 ^ 6 % 2 == 1) 8 16) 8) a ∙ ap (λ y. cond y 8 16) b

-- the three forms
pub data Shape (n : ℕ) : Type 0 where
  of_octet : n < 128 → extent_width n ≡ 8 → extent_number n ≡ n → form_of (extent_number n) ≡ octet_form n → Shape n
  of_two : 128 ≤ n → n < 16384 → extent_width n ≡ 16 → extent_number n ≡ 32768 + n → form_of (extent_number n) ≡ two_octets n → Shape n
  of_part : 16384 ≤ n → extent_width n ≡ 8 → extent_number n ≡ 192 + n / part_units
      → form_of (extent_number n) ≡ units_form (n / part_units) → Shape n

octet_form_of : (n : ℕ) → n < 128 → form_of n ≡ octet_form n
octet_form_of n h = ap (λ b. cond b (octet_form n) (cond (nat_lt n 256) (units_form (n - 192)) (two_octets (n - 32768)))) (is_below n 128 h)

two_form_of : (n : ℕ) → form_of (32768 + n) ≡ two_octets n
two_form_of n =
    let x = 32768 + n in
    let e : x - 32768 ≡ n = omega arith in
    ap (λ b. cond b (octet_form x) (cond (nat_lt x 256) (units_form (x - 192)) (two_octets (x - 32768)))) (is_not_below x 128 (omega arith))
    ∙ ap (λ b. cond b (units_form (x - 192)) (two_octets (x - 32768))) (is_not_below x 256 (omega arith)) ∙ ap (λ (m : ℕ). two_octets m) e

part_form_of : (k : ℕ) → k < 64 → form_of (192 + k) ≡ units_form k
part_form_of k h =
    let x = 192 + k in
    let e : x - 192 ≡ k = omega arith in
    ap (λ b. cond b (octet_form x) (cond (nat_lt x 256) (units_form (x - 192)) (two_octets (x - 32768)))) (is_not_below x 128 (omega arith))
    ∙ ap (λ b. cond b (units_form (x - 192)) (two_octets (x - 32768))) (is_below x 256 (omega arith)) ∙ ap (λ (m : ℕ). units_form m) e

pub shape_of : (n : ℕ) → n < 1048576 → Shape n
shape_of n h =
    by_cases (nat_lt n 128) (λ b. Shape n)
    (λ e. let w : extent_width n ≡ 8 = ap (λ b. cond b 8 (cond (nat_lt n part_units) 16 8)) e in
    let m : extent_number n ≡ n = ap (λ b. cond b n (cond (nat_lt n part_units) (32768 + n) (192 + n / part_units))) e in
    of_octet (below n 128 e) w m (ap form_of m ∙ octet_form_of n (below n 128 e)))
    (λ e. by_cases (nat_lt n part_units) (λ b. Shape n)
    (λ f. let w : extent_width n ≡ 16 = ap (λ b. cond b 8 (cond (nat_lt n part_units) 16 8)) e ∙ ap (λ b. cond b 16 8) f in
    let m : extent_number n ≡ 32768 + n = ap (λ b. cond b n (cond (nat_lt n part_units) (32768 + n) (192 + n / part_units))) e
    ∙ ap (λ b. cond b (32768 + n) (192 + n / part_units)) f in
    of_two (not_below n 128 e) (below n part_units f) w m (ap form_of m ∙ two_form_of n))
    (λ f. let w : extent_width n ≡ 8 = ap (λ b. cond b 8 (cond (nat_lt n part_units) 16 8)) e ∙ ap (λ b. cond b 16 8) f in
    let m : extent_number n ≡ 192 + n / part_units = ap (λ b. cond b n (cond (nat_lt n part_units) (32768 + n) (192 + n / part_units))) e
    ∙ ap (λ b. cond b (32768 + n) (192 + n / part_units)) f in
    of_part (not_below n part_units f) w m (ap form_of m ∙ part_form_of (n / part_units) (omega arith))))

-- its width is read, and its number fits
pub width_read : (n : ℕ) (rest : List Bool) → n < 1048576 → told_width (bits_of (extent_width n) (extent_number n) ++ rest) ≡ extent_width n
width_read n rest h = go (shape_of n h)
  where
    at : (w m : ℕ) → extent_width n ≡ w → extent_number n ≡ m → told_width (bits_of w m ++ rest) ≡ w
        → told_width (bits_of (extent_width n) (extent_number n) ++ rest) ≡ extent_width n
    at w m e f g = ap (λ (x : ℕ). told_width (bits_of x (extent_number n) ++ rest)) e ∙ ap (λ (x : ℕ). told_width (bits_of w x ++ rest)) f
        ∙ g ∙ sym e

    go : Shape n → told_width (bits_of (extent_width n) (extent_number n) ++ rest) ≡ extent_width n
    go (of_octet l w m f) = at 8 n w m (width_of_octet n rest l)
    go (of_two k l w m f) = at 16 (32768 + n) w m (width_of_two n rest l)
    go (of_part k w m f) = at 8 (192 + n / part_units) w m (width_of_part (n / part_units) rest (omega arith))

pub number_fits : (n : ℕ) → n < 1048576 → extent_number n < 2 ^ extent_width n
number_fits n h = go (shape_of n h)
  where
    at : (w m : ℕ) → extent_width n ≡ w → extent_number n ≡ m → m < 2 ^ w → extent_number n < 2 ^ extent_width n
    at w m e f g = subst (λ (x : ℕ). extent_number n < 2 ^ x) (sym e) (subst (λ (x : ℕ). x < 2 ^ w) (sym f) g)

    go : Shape n → extent_number n < 2 ^ extent_width n
    go (of_octet l w m f) = at 8 n w m (omega arith)
    go (of_two k l w m f) = at 16 (32768 + n) w m (omega arith)
    go (of_part k w m f) = at 8 (192 + n / part_units) w m (omega arith)

-- whole lengths
pub record IsWhole (least most : ℕ) (outside : Option Size) (n : ℕ) : Type 0 where
  pub low : least ≤ n
  pub high : n ≤ most
  pub limit : most < 16384
  pub past : is_inside outside n ≡ false

pub unless_true : (b : Bool) → b ≡ true → (reason : Reason) → unless b reason ≡ None
unless_true true e reason = refl
unless_true false e reason = cc

both_true : (a b : Bool) → a ≡ true → b ≡ true → (a && b) ≡ true
both_true true b e f = f
both_true false b e f = cc

judged_in : (least most n : ℕ) → least ≤ n → n ≤ most → judged_length true least most n ≡ None
judged_in least most n low high = unless_true (nat_le least n && nat_le n most)
    (both_true _ _ (is_at_most least n low) (is_at_most n most high)) reasons.Length

whole_right : (least most : ℕ) (outside : Option Size) (n : ℕ) → IsWhole least most outside n
    → judged_extent (whole least most outside) (form_of (extent_number n)) ≡ None
whole_right least most outside n h = go (shape_of n (omega (arith, h.high, h.limit)))
  where
    past : cond (is_inside outside n) false true ≡ true
    past = ap (λ b. cond b false true) h.past

    go : Shape n → judged_extent (whole least most outside) (form_of (extent_number n)) ≡ None
    go (of_octet l w m f) = ap (judged_extent (whole least most outside)) f
        ∙ ap (λ b. judged_length b least most n) past ∙ judged_in least most n h.low h.high
    go (of_two k l w m f) = ap (judged_extent (whole least most outside)) f
        ∙ ap (λ b. judged_length b least most n) (both_true (nat_le 128 n) _ (is_at_most 128 n k) past)
        ∙ judged_in least most n h.low h.high
    go (of_part k w m f) = absurd (omega (arith, h.high, h.limit))

told_again : (n : ℕ) → n < 16384 → told (form_of (extent_number n)) ≡ n
told_again n h = go (shape_of n (omega arith))
  where
    go : Shape n → told (form_of (extent_number n)) ≡ n
    go (of_octet l w m f) = ap told f
    go (of_two k l w m f) = ap told f
    go (of_part k w m f) = absurd (omega arith)

pub allowed_whole : (least most : ℕ) (outside : Option Size) (n : ℕ) → IsWhole least most outside n
    → Allowed (extent (whole least most outside)) n
allowed_whole least most outside n h =
    let limit : n < 1048576 = omega (arith, h.high, h.limit) in record {
      wide = λ c rest e. ap told_width e ∙ width_read n rest limit;
      small = λ place. number_fits n limit;
      right = λ c. whole_right least most outside n h;
      same = λ c. told_again n (omega (arith, h.high, h.limit));
    }

-- the length of an open type is one from 1 on
pub allowed_opening : (n : ℕ) → 1 ≤ n → n ≤ 16383 → Allowed opening n
allowed_opening n low high =
    let a = allowed_whole 1 16383 None n (record { low = low; high = high; limit = omega arith; past = refl }) in
    record { wide = a.wide; small = a.small; right = a.right; same = a.same }

-- lengths in parts: a last one, and one of 1 to 4 times 16,384 after parts of 65,536 alone
last_right : (before previous : ℕ) (outside : Option Size) (n : ℕ) → n < 16384 → is_inside outside (before + n) ≡ false
    → judged_extent (part before previous outside) (form_of (extent_number n)) ≡ None
last_right before previous outside n h out = go (shape_of n (omega arith))
  where
    past : cond (is_inside outside (before + n)) false true ≡ true
    past = ap (λ b. cond b false true) out

    go : Shape n → judged_extent (part before previous outside) (form_of (extent_number n)) ≡ None
    go (of_octet l w m f) = ap (judged_extent (part before previous outside)) f ∙ unless_true _ past reasons.NotMinimal
    go (of_two k l w m f) = ap (judged_extent (part before previous outside)) f
        ∙ unless_true _ (both_true (nat_le 128 n) _ (is_at_most 128 n k) past) reasons.NotMinimal
    go (of_part k w m f) = absurd (omega arith)

pub allowed_last : (before previous : ℕ) (outside : Option Size) (n : ℕ) → n < 16384 → is_inside outside (before + n) ≡ false
    → Allowed (extent (part before previous outside)) n
allowed_last before previous outside n h out =
    let limit : n < 1048576 = omega arith in record {
      wide = λ c rest e. ap told_width e ∙ width_read n rest limit;
      small = λ place. number_fits n limit;
      right = λ c. last_right before previous outside n h out;
      same = λ c. told_again n h;
    }

part_right : (before previous : ℕ) (outside : Option Size) (k : ℕ) → 1 ≤ k → k ≤ 4 → 65536 ≤ previous
    → judged_extent (part before previous outside) (form_of (extent_number (part_units * k))) ≡ None
part_right before previous outside k low high full = go (shape_of n (omega arith))
  where
    n : ℕ
    n = part_units * k

    go : Shape (part_units * k) → judged_extent (part before previous outside) (form_of (extent_number (part_units * k))) ≡ None
    go (of_octet l w m f) = absurd (omega arith)
    go (of_two g l w m f) = absurd (omega arith)
    go (of_part g w m f) =
        let e : part_units * k / part_units ≡ k = omega arith in
        ap (judged_extent (part before previous outside)) f
        ∙ ap (λ (x : ℕ). judged_length (nat_le 65536 previous) 1 4 x) e
        ∙ ap (λ b. judged_length b 1 4 k) (is_at_most 65536 previous full) ∙ judged_in 1 4 k low high

part_again : (k : ℕ) → 1 ≤ k → k ≤ 4 → told (form_of (extent_number (part_units * k))) ≡ part_units * k
part_again k low high = go (shape_of (part_units * k) (omega arith))
  where
    go : Shape (part_units * k) → told (form_of (extent_number (part_units * k))) ≡ part_units * k
    go (of_octet l w m f) = absurd (omega arith)
    go (of_two g l w m f) = absurd (omega arith)
    go (of_part g w m f) = let e : part_units * k / part_units ≡ k = omega arith in ap told f ∙ ap (λ (x : ℕ). part_units * x) e

pub allowed_part : (before previous : ℕ) (outside : Option Size) (k : ℕ) → 1 ≤ k → k ≤ 4 → 65536 ≤ previous
    → Allowed (extent (part before previous outside)) (part_units * k)
allowed_part before previous outside k low high full =
    let limit : part_units * k < 1048576 = omega arith in record {
      wide = λ c rest e. ap told_width e ∙ width_read (part_units * k) rest limit;
      small = λ place. number_fits (part_units * k) limit;
      right = λ c. part_right before previous outside k low high full;
      same = λ c. part_again k low high;
    }
