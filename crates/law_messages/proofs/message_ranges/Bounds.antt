-- At most how many bits fields have, wherever they stand.
use Rattle.std.proofs.Common.{◌≡◌, ℕ, ◌+◌, ◌*◌, ◌<◌, ◌≤◌, ◌==◌, cond, Bool, true, false, List, [], ◌∷◌, ◌++◌, length, refl, arith}
use Rattle.std.specs.Prelude.{nat_lt, if◌then◌else◌}
use Rattle.bits_core.specs.Bits.{pad_of}
use Rattle.aper_defs.specs.Fields.{Ask, Field, Path, Role, value, flag, constrained, digits, signed, small, extent, addition_bits, character, ie_count, ie_id, pad, opening, closing, end, asked, run}
use Rattle.aper_defs.specs.Numbers.{bits_for, octets_for}
use Rattle.aper_defs.specs.Bits.{width_at, put_all, unit_width, closed, octet_count, open_fields, extent_width, part_units}
use Rattle.aper_defs.specs.Membership.{FitsOpen}
use Rattle.aper_defs.specs.Parts.{number_fields, large_fields}
use Rattle.proof_aper.proofs.places.Bits.{total, field_width}
use Rattle.proof_aper.proofs.places.Opened.{octets_are}
use Rattle.proof_aper.proofs.answers.NumberFacts.{octets_grow, least_grows, below, is_below}

abbrev pub width_bound : Ask → ℕ → ℕ
width_bound pad n = 7
width_bound closing n = 8
width_bound question n = width_at 0 question n

abbrev pub field_bound : Field → ℕ
field_bound (asked p question n) = width_bound question n
field_bound (run p unit units) = unit_width unit * length units

abbrev pub bound : List Field → ℕ
bound [] = 0
bound (f ∷ fs) = field_bound f + bound fs

pads : (place : ℕ) → pad_of place ≤ 7
pads place = omega arith

width_within : (place : ℕ) (question : Ask) (n : ℕ) → width_at place question n ≤ width_bound question n
width_within place flag n = omega arith
width_within place (constrained role width most) n = omega arith
width_within place (digits count most) n = omega arith
width_within place (signed count low high) n = omega arith
width_within place (small role) n = omega arith
width_within place (extent bounds) n = omega arith
width_within place (addition_bits count) n = omega arith
width_within place character n = omega arith
width_within place (ie_count least) n = omega arith
width_within place (ie_id known left after) n = omega arith
width_within place pad n = pads place
width_within place opening n = omega arith
width_within place closing n = by (n == 0)
  where
    by : (b : Bool) → cond b (pad_of place) 8 ≤ 8
    by true = omega (arith, pads place)
    by false = omega arith
width_within place end n = omega arith

field_within : (place : ℕ) (f : Field) → field_width place f ≤ field_bound f
field_within place (asked p question n) = width_within place question n
field_within place (run p unit units) = omega arith

total_within : (place : ℕ) (fs : List Field) → total place fs ≤ bound fs
total_within place [] = omega arith
total_within place (f ∷ fs) = omega (arith, field_within place f, total_within (place + field_width place f) fs)

pub bound-append : (a b : List Field) → bound (a ++ b) ≡ bound a + bound b
bound-append [] b = omega arith
bound-append (f ∷ a) b = omega (arith, bound-append a b)

pub extent_within : (n : ℕ) → extent_width n ≤ 16
extent_within n = by (nat_lt n 128) (nat_lt n part_units)
  where
    by : (b c : Bool) → cond b 8 (cond c 16 8) ≤ 16
    by true c = omega arith
    by false true = omega arith
    by false false = omega arith

pub bound_open : (p i : Path) (fs : List Field) → bound (open_fields p i fs) ≤ bound fs + 31
bound_open p i fs =
    let back : List Field = asked i closing (if length (put_all [] fs) == 0 then 1 else 0) ∷ [] in
    let over : List Field = asked i end 0 ∷ [] in
    omega (arith, extent_within (octet_count (closed i fs)), bound-append (fs ++ back) over, bound-append fs back)

pub fits : (i : Path) (fs : List Field) → bound fs ≤ 131056 → FitsOpen i fs
fits i fs h = omega (arith, octets_are i fs, total_within 0 fs, closing (total 0 fs == 0))
  where
    closing : (b : Bool) → cond b 8 (pad_of (total 0 fs)) ≤ 8
    closing true = omega arith
    closing false = omega (arith, pads (total 0 fs))

-- ---- numbers
bits_within : (span : ℕ) → span < 256 → bits_for span ≤ 8
bits_within span h = let grow : bits_for span ≤ bits_for 255 = least_grows 1 8 0 span 255 (omega arith) in omega arith

pub number_within : (p : Path) (role : Role) (span n : ℕ) → span < 65536 → bound (number_fields p role span n) ≤ 23
unfolding number_fields
number_within p role span n h = by (span == 0) (nat_lt span 255) refl (span == 255) (nat_lt span 65536) (is_below span 65536 h)
  where
    by : (a b : Bool) → nat_lt span 255 ≡ b → (c d : Bool) → d ≡ true
        → bound (cond a [] (cond b (asked p (constrained role (bits_for span) span) n ∷ [])
        (cond c (asked p pad 0 ∷ asked p (constrained role 8 span) n ∷ [])
        (cond d (asked p pad 0 ∷ asked p (constrained role 16 span) n ∷ []) (large_fields p span n))))) ≤ 23
    by true b is c d t = omega arith
    by false true is c d t = omega (arith, bits_within span (omega (arith, below span 255 is)))
    by false false is true d t = omega arith
    by false false is false true t = omega arith
    by false false is false false t = cc

-- a number of 32 bits
pub word_within : (p : Path) (n : ℕ) → n ≤ 4294967295 → bound (number_fields p value 4294967295 n) ≤ 41
unfolding number_fields
word_within p n h = let grow : octets_for n ≤ octets_for 4294967295 = octets_grow n 4294967295 h in omega arith
