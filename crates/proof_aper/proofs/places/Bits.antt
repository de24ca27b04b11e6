-- The bits of fields from a place on, and how many they are.
use Rattle.std.proofs.Common.{◌≡◌, ℕ, ◌+◌, ◌*◌, ◌%◌, ◌/◌, ◌==◌, cond, Bool, List, [], ◌∷◌, ◌++◌, length, refl, sym, ap, ◌∙◌, arith, append_assoc, append-nil}
use Rattle.std.specs.List.{flat_map}
use Rattle.std.proofs.lemmas.List.{length-append}
use Rattle.bits_core.specs.Bits.{bits_of, pad_of}
use Rattle.bits_core.proofs.BitLemmas.{length-bits_of}
use Rattle.aper_defs.specs.Fields.{Ask, Field, flag, constrained, digits, signed, small, extent, addition_bits, character, ie_count, ie_id, pad, opening, closing, end, asked, run as run_field}
use Rattle.aper_defs.specs.Bits.{width_at, spelled, unit_width, field_bits, put, put_all}

abbrev pub field_width : ℕ → Field → ℕ
field_width place (asked p question n) = width_at place question n
field_width place (run_field p unit units) = unit_width unit * length units

abbrev pub all_bits : ℕ → List Field → List Bool
all_bits place [] = []
all_bits place (f ∷ fs) = field_bits place f ++ all_bits (place + field_width place f) fs

abbrev pub total : ℕ → List Field → ℕ
total place [] = 0
total place (f ∷ fs) = field_width place f + total (place + field_width place f) fs

unit_bits : (width : ℕ) (units : List ℕ) → length (flat_map (bits_of width) units) ≡ width * length units
unit_bits width [] = omega arith
unit_bits width (x ∷ units) = omega (
  arith,
  length-append (bits_of width x) (flat_map (bits_of width) units),
  length-bits_of width x,
  unit_bits width units,
)

pub length-field_bits : (place : ℕ) (f : Field) → length (field_bits place f) ≡ field_width place f
length-field_bits place (asked p question n) = length-bits_of (width_at place question n) (spelled question n)
length-field_bits place (run_field p unit units) = unit_bits (unit_width unit) units

pub length-all_bits : (place : ℕ) (fs : List Field) → length (all_bits place fs) ≡ total place fs
length-all_bits place [] = refl
length-all_bits place (f ∷ fs) =
    omega (
      arith,
      length-append (field_bits place f) (all_bits (place + field_width place f) fs),
      length-field_bits place f,
      length-all_bits (place + field_width place f) fs,
    )

pub total-append : (place : ℕ) (a b : List Field) → total place (a ++ b) ≡ total place a + total (place + total place a) b
total-append place [] b = let e : place ≡ place + 0 = omega arith in omega (arith, ap (λ (n : ℕ). total n b) e)
total-append place (f ∷ a) b =
    let w = field_width place f in
    let e : place + w + total (place + w) a ≡ place + (w + total (place + w) a) = omega arith in
    omega (arith, total-append (place + w) a b, ap (λ (n : ℕ). total n b) e)

pub all_bits-append : (place : ℕ) (a b : List Field) → all_bits place (a ++ b) ≡ all_bits place a ++ all_bits (place + total place a) b
all_bits-append place [] b = let e : place ≡ place + 0 = omega arith in ap (λ (n : ℕ). all_bits n b) e
all_bits-append place (f ∷ a) b =
    let w = field_width place f in
    let e : place + w + total (place + w) a ≡ place + (w + total (place + w) a) = omega arith in
    ap (λ (xs : List Bool). field_bits place f ++ xs) (all_bits-append (place + w) a b)
    ∙ sym (append_assoc (field_bits place f) (all_bits (place + w) a) (all_bits (place + w + total (place + w) a) b))
    ∙ ap (λ (n : ℕ). (field_bits place f ++ all_bits (place + w) a) ++ all_bits n b) e

-- fields put after bits
pub put_all-is : (bits : List Bool) (fs : List Field) → put_all bits fs ≡ bits ++ all_bits (length bits) fs
unfolding put_all
put_all-is bits [] = sym (append-nil bits)
put_all-is bits (f ∷ fs) =
    let place = length bits in
    let size : length (put bits f) ≡ place + field_width place f = length-append bits (field_bits place f)
    ∙ ap (λ (n : ℕ). place + n) (length-field_bits place f) in
    put_all-is (put bits f) fs
    ∙ ap (λ (n : ℕ). put bits f ++ all_bits n fs) size
    ∙ append_assoc bits (field_bits place f) (all_bits (place + field_width place f) fs)

pub put_all-nil : (fs : List Field) → put_all [] fs ≡ all_bits 0 fs
put_all-nil fs = put_all-is [] fs

-- ---- whole octets before them change nothing
pad_same : (octets place : ℕ) → pad_of (8 * octets + place) ≡ pad_of place
pad_same octets place = omega arith

width_same : (octets place : ℕ) (question : Ask) (n : ℕ) → width_at (8 * octets + place) question n ≡ width_at place question n
width_same octets place flag n = refl
width_same octets place (constrained role width most) n = refl
width_same octets place (digits count most) n = refl
width_same octets place (signed count low high) n = refl
width_same octets place (small role) n = refl
width_same octets place (extent bounds) n = refl
width_same octets place (addition_bits count) n = refl
width_same octets place character n = refl
width_same octets place (ie_count least) n = refl
width_same octets place (ie_id known left after) n = refl
width_same octets place pad n = pad_same octets place
width_same octets place opening n = refl
width_same octets place closing n = ap (λ (w : ℕ). cond (n == 0) w 8) (pad_same octets place)
width_same octets place end n = refl

pub field_width-same : (octets place : ℕ) (f : Field) → field_width (8 * octets + place) f ≡ field_width place f
field_width-same octets place (asked p question n) = width_same octets place question n
field_width-same octets place (run_field p unit units) = refl

field_bits-same : (octets place : ℕ) (f : Field) → field_bits (8 * octets + place) f ≡ field_bits place f
field_bits-same octets place (asked p question n) = ap (λ (w : ℕ). bits_of w (spelled question n)) (width_same octets place question n)
field_bits-same octets place (run_field p unit units) = refl

pub total-same : (octets place : ℕ) (fs : List Field) → total (8 * octets + place) fs ≡ total place fs
total-same octets place [] = refl
total-same octets place (f ∷ fs) =
    let w = field_width place f in
    let e : 8 * octets + place + field_width (8 * octets + place) f ≡ 8 * octets + (place + w) = omega
    (arith, field_width-same octets place f) in
    omega (arith, field_width-same octets place f, ap (λ (n : ℕ). total n fs) e, total-same octets (place + w) fs)

pub all_bits-same : (octets place : ℕ) (fs : List Field) → all_bits (8 * octets + place) fs ≡ all_bits place fs
all_bits-same octets place [] = refl
all_bits-same octets place (f ∷ fs) =
    let w = field_width place f in
    let e : 8 * octets + place + field_width (8 * octets + place) f ≡ 8 * octets + (place + w) = omega
    (arith, field_width-same octets place f) in
    ap (λ (xs : List Bool). xs ++ all_bits (8 * octets + place + field_width (8 * octets + place) f) fs) (field_bits-same octets place f)
    ∙ ap (λ (n : ℕ). field_bits place f ++ all_bits n fs) e
    ∙ ap (λ (xs : List Bool). field_bits place f ++ xs) (all_bits-same octets (place + w) fs)

-- fields at a multiple of 8
pub total-aligned : (place : ℕ) (fs : List Field) → place % 8 ≡ 0 → total place fs ≡ total 0 fs
total-aligned place fs h =
    let e : place ≡ 8 * (place / 8) + 0 = omega arith in ap (λ (n : ℕ). total n fs) e ∙ total-same (place / 8) 0 fs
