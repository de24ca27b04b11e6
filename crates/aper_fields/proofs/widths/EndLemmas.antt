-- Where fields end, one after another.
use Rattle.std.proofs.Common.{◌≡◌, ℕ, ◌+◌, ◌*◌, ◌/◌, ◌%◌, ◌<◌, ◌≤◌, ◌^◌, ◌==◌, cond, nat_lt, max, min, List, [], ◌∷◌, ◌++◌, refl, sym, ap, ◌∙◌, arith, append_assoc, append-nil, length, None}
use Rattle.std.proofs.lemmas.Grind.{fold-append}
use Rattle.bits_core.specs.Bits.{pad_of}
use Rattle.aper_defs.specs.Fields.{Path, Field, asked, pad, extent, whole, octet, closing, end}
use Rattle.aper_defs.specs.Fields as fields
use Rattle.aper_defs.specs.Bits.{closed, octet_count, open_fields, extent_width}
use Rattle.proof_aper.proofs.answers.NumberFacts.{by_cases, below, not_below, same}
use Rattle.proof_aper.proofs.places.Bits.{field_width, total, total-append, total-aligned}
use Rattle.proof_aper.proofs.places.Opened.{closing_is, octets_are, closing_width, empty_mark}
use Rattle.aper_fields.specs.widths.Ends.{place_limit, passed, after, end_of, Ends}

pub ends_both : (old mid new : ℕ) (F G : Path → List Field) → Ends old mid F → Ends mid new G → Ends old new (λ p. F p ++ G p)
ends_both old mid new F G f g p rest = ap (end_of old) (append_assoc (F p) (G p) rest) ∙ f p (G p ++ rest) ∙ g p rest

pub end_both : (old : ℕ) (a b : List Field) → end_of old (a ++ b) ≡ end_of (end_of old a) b
unfolding end_of
end_both old a b = fold-append after old a b

-- the fields end there
pub ends_at : (old new : ℕ) (F : Path → List Field) (p : Path) → Ends old new F → end_of old (F p) ≡ new
unfolding end_of
ends_at old new F p f = ap (end_of old) (sym (append-nil (F p))) ∙ f p []

-- ---- the place after fields is that before them and how many bits they have
after_is : (place : ℕ) (f : Field) → after place f ≡ passed place (field_width place f)
after_is place (asked path question n) = refl
after_is place (fields.run path unit units) = refl

stay : (limit place width : ℕ) → limit < place → max place (min (place + width) limit) ≡ place
stay limit place width h = omega (arith, h)

-- past the limit
stays : (place : ℕ) (fs : List Field) → place_limit < place → end_of place fs ≡ place
unfolding end_of
stays place [] h = refl
stays place (f ∷ fs) h =
    let here : after place f ≡ place = after_is place f ∙ stay place_limit place (field_width place f) h in
    ap (λ (n : ℕ). end_of n fs) here ∙ stays place fs h

nothing : (limit place : ℕ) → place ≤ limit → place ≡ max place (min (place + 0) limit)
nothing limit place h = omega (arith, h)

passed_within : (limit place width : ℕ) → place ≤ limit → max place (min (place + width) limit) ≤ limit
passed_within limit place width h = omega (arith, h)

past_limit : (limit place width a b : ℕ) → place ≤ limit → limit < place + width
    → max (max place (min (place + width) limit)) (min (max place (min (place + width) limit) + a) limit)
    ≡ max place (min (place + (width + b)) limit)
past_limit limit place width a b w h = omega (arith, w, h)

before_limit : (limit place width : ℕ) → place + width ≤ limit → max place (min (place + width) limit) ≡ place + width
before_limit limit place width h = omega (arith, h)

one_passed : (limit place width a : ℕ) → max (place + width) (min (place + width + a) limit) ≡ max (place + width) (min (place + (width + a)) limit)
one_passed limit place width a = omega arith

from_there : (limit place width a : ℕ) → place + width ≤ limit
    → max (place + width) (min (place + width + a) limit) ≡ max place (min (place + (width + a)) limit)
from_there limit place width a h = omega (arith, h)

end_is : (place : ℕ) (fs : List Field) → place ≤ place_limit → end_of place fs ≡ passed place (total place fs)
unfolding end_of
end_is place [] h = nothing place_limit place h
end_is place (f ∷ fs) h =
    let w = field_width place f in
    ap (λ (n : ℕ). end_of n fs) (after_is place f)
    ∙ end_is (passed place w) fs (passed_within place_limit place w h)
    ∙ by_cases (nat_lt place_limit (place + w)) (λ b. passed (passed place w) (total (passed place w) fs) ≡ passed place (w + total (place + w) fs))
    (λ e. past_limit place_limit place w (total (passed place w) fs) (total (place + w) fs) h (below place_limit (place + w) e))
    (λ e. let within : place + w ≤ place_limit = not_below place_limit (place + w) e in
    ap (λ (n : ℕ). passed n (total n fs)) (before_limit place_limit place w within)
    ∙ from_there place_limit place w (total (place + w) fs) within)

-- fields that have so many bits
pub end_wide : (place width : ℕ) (fs : List Field) → total place fs ≡ width → end_of place fs ≡ passed place width
end_wide place width fs wide =
    by_cases (nat_lt place_limit place) (λ b. end_of place fs ≡ passed place width)
    (λ e. let past : place_limit < place = below place_limit place e in stays place fs past ∙ sym (stay place_limit place width past))
    (λ e. end_is place fs (not_below place_limit place e) ∙ ap (passed place) wide)

pub ends_wide : (place width new : ℕ) (fs rest : List Field) → total place fs ≡ width → new ≡ passed place width
    → end_of place (fs ++ rest) ≡ end_of new rest
ends_wide place width new fs rest wide is =
    end_both place fs rest ∙ ap (λ (n : ℕ). end_of n rest) (end_wide place width fs wide ∙ sym is)

passed_both : (limit place a b : ℕ) → max place (min (place + (a + b)) limit)
    ≡ max (max place (min (place + a) limit)) (min (max place (min (place + a) limit) + b) limit)
passed_both limit place a b = omega arith

pub passed_twice : (place a b : ℕ) → passed place (a + b) ≡ passed (passed place a) b
passed_twice place a b = passed_both place_limit place a b

-- ---- open types
-- complete encodings have so many bits, wherever an octet begins
closed_total : (p : Path) (fs : List Field) (start : ℕ) → start % 8 ≡ 0 → total start (closed p fs) ≡ 8 * octet_count (closed p fs)
closed_total p fs start h =
    total-append start fs (asked p closing (empty_mark fs) ∷ [])
    ∙ omega (arith, closing_is fs start h, octets_are p fs, total-aligned start fs h)

width_whole : (n : ℕ) → extent_width n % 8 ≡ 0
width_whole n = by_cases (nat_lt n 128) (λ b. cond b 8 (cond (nat_lt n 16384) 16 8) % 8 ≡ 0) (λ e. refl)
    (λ e. by_cases (nat_lt n 16384) (λ b. cond b 16 8 % 8 ≡ 0) (λ f. refl) (λ f. refl))

aligned : (place width : ℕ) → width % 8 ≡ 0 → (place + pad_of place + width) % 8 ≡ 0
aligned place width h = omega (arith, h)

open_total : (p inside : Path) (fs : List Field) (place : ℕ) → total place (open_fields p inside fs)
    ≡ pad_of place + (extent_width (octet_count (closed inside fs)) + 8 * octet_count (closed inside fs))
open_total p inside fs place =
    let n = octet_count (closed inside fs) in
    let s = place + pad_of place + extent_width n in
    let contents : total s (closed inside fs ++ asked inside end 0 ∷ []) ≡ 8 * n =
    total-append s (closed inside fs) (asked inside end 0 ∷ [])
    ∙ omega (arith, closed_total inside fs s (aligned place (extent_width n) (width_whole n))) in
    ap (λ (m : ℕ). pad_of place + (extent_width n + m)) contents

pub open_ends : (place padded begin new count : ℕ) (p inside : Path) (fs rest : List Field) → octet_count (closed inside fs) ≡ count
    → padded ≡ passed place (pad_of place) → begin ≡ passed padded (extent_width count) → new ≡ passed begin (8 * count)
    → end_of place (open_fields p inside fs ++ rest) ≡ end_of new rest
open_ends place padded begin new count p inside fs rest counted first second third =
    ends_wide place (pad_of place + (extent_width count + 8 * count)) new (open_fields p inside fs) rest
    (open_total p inside fs place ∙ ap (λ (n : ℕ). pad_of place + (extent_width n + 8 * n)) counted)
    (third ∙ ap (λ (m : ℕ). passed m (8 * count)) second ∙ ap (λ (m : ℕ). passed (passed m (extent_width count)) (8 * count)) first
    ∙ sym (passed_twice (passed place (pad_of place)) (extent_width count) (8 * count))
    ∙ sym (passed_twice place (pad_of place) (extent_width count + 8 * count)))

-- ---- octets of a complete encoding
octets_empty : (limit bits octets : ℕ) → 1 ≤ limit → max 0 (min (0 + bits) limit) ≡ 0 → 8 * octets ≡ bits + closing_width bits → octets ≡ 1
octets_empty limit bits octets some none is =
    let zero_bits : bits ≡ 0 = omega (arith, some, none) in
    let width : closing_width bits ≡ 8 = ap closing_width zero_bits in
    omega (arith, is, zero_bits, width)

limit_some : 1 ≤ place_limit
unfolding place_limit
limit_some = omega arith

pub one_octet : (p : Path) (fs : List Field) → end_of 0 fs ≡ 0 → octet_count (closed p fs) ≡ 1
one_octet p fs none =
    octets_empty place_limit (total 0 fs) (octet_count (closed p fs)) limit_some
    (sym (end_is 0 fs (omega arith)) ∙ none) (octets_are p fs)

pub some_octets : (last : ℕ) (p : Path) (fs : List Field) → end_of 0 fs ≡ last → 1 ≤ last
    → (last + 7) / 8 ≡ min (octet_count (closed p fs)) (2 ^ 64)
unfolding place_limit
some_octets last p fs is some =
    let bits = total 0 fs in
    let capped : max 0 (min (0 + bits) 147573952589676412928) ≡ last = sym (end_is 0 fs (omega arith)) ∙ is in
    by_cases (bits == 0) (λ b. 8 * octet_count (closed p fs) ≡ bits + cond b 8 (pad_of bits)
    → (last + 7) / 8 ≡ min (octet_count (closed p fs)) (2 ^ 64))
    (λ e k. let none : bits ≡ 0 = same bits 0 e in absurd (omega (arith, none, capped, some)))
    (λ e k. omega (arith, k, capped)) (octets_are p fs)

-- ---- octets that aren't known
pub raw_ends : (place padded begin new count : ℕ) (p inside : Path) (octets : List ℕ) (rest : List Field) → length octets ≡ count
    → padded ≡ passed place (pad_of place) → begin ≡ passed padded (extent_width count) → new ≡ passed begin (8 * count)
    → end_of place (asked p pad 0 ∷ asked p (extent (whole 1 16383 None)) (length octets) ∷ fields.run inside octet octets ∷ rest) ≡ end_of new rest
raw_ends place padded begin new count p inside octets rest counted first second third =
    ends_wide place (pad_of place + (extent_width count + (8 * count + 0))) new
    (asked p pad 0 ∷ asked p (extent (whole 1 16383 None)) (length octets) ∷ fields.run inside octet octets ∷ []) rest
    (ap (λ (n : ℕ). pad_of place + (extent_width n + (8 * n + 0))) counted)
    (third ∙ ap (λ (m : ℕ). passed m (8 * count)) second ∙ ap (λ (m : ℕ). passed (passed m (extent_width count)) (8 * count)) first
    ∙ sym (passed_twice (passed place (pad_of place)) (extent_width count) (8 * count))
    ∙ sym (passed_twice place (pad_of place) (extent_width count + 8 * count))
    ∙ ap (passed place) (zero_after (pad_of place) (extent_width count) (8 * count)))
  where
    zero_after : (a b c : ℕ) → a + (b + c) ≡ a + (b + (c + 0))
    zero_after a b c = omega arith
