-- The ends of the open types around a place, and what bits pass.
use Rattle.std.proofs.Common.{◌≡◌, ℕ, ◌+◌, ◌*◌, ◌^◌, ◌<◌, ◌≤◌, cond, Bool, true, false, List, [], ◌∷◌, ◌++◌, length, nat_lt, Option, None, Some, refl, sym, ap, subst, ◌∙◌, arith, min, map, ◌&&◌}
use Rattle.std.specs.Prelude.{nat_le, reverse}
use Rattle.std.proofs.lemmas.Bool.Decides.{nat_tests}
use Rattle.std.proofs.lemmas.List.{reverse-append, length-drop}
use Rattle.bits_core.specs.Bits.{octet_bits}
use Rattle.bits_core.proofs.BitLemmas.{length-octet_bits}
use Rattle.aper_defs.specs.declared.reason.Reason.{Reason}
use Rattle.aper_defs.specs.declared.reason.Reason.TheVariants as reasons
use Rattle.aper_defs.specs.Reading.{Cursor, is_within, passes, bits_at, bit_limit}
use Rattle.proof_aper.proofs.answers.NumberFacts.{is_at_most, is_not_below, is_below}
use Rattle.proof_aper.proofs.values.Found.{taken_size, taken_limit}
use Rattle.aper_cursor.specs.declared.cursor.OpenType.{OpenType}
use Rattle.aper_cursor.specs.declared.cursor.Cursor.TheInside.{Inside}
use Rattle.aper_cursor.specs.inside.Places.{opened, place_of, no_end, IsNearest, IsPlace}

both_ends : (place a b : ℕ) → (nat_le place a && nat_le place b) ≡ nat_le place (min a b)
both_ends place a b = grind (arith, nat_tests)

-- a place is within all ends where it is within the nearest
pub within_nearest : (opens : List OpenType) (nearest place : ℕ) → place ≤ no_end → IsNearest nearest opens
    → is_within place (map opened opens) ≡ nat_le place nearest
within_nearest [] nearest place h e = sym (is_at_most place nearest (omega (arith, e)))
within_nearest (o ∷ opens) nearest place h e =
    ap (λ (b : Bool). nat_le place o.finish && b) (within_nearest opens o.around place h e.1)
    ∙ both_ends place o.finish o.around ∙ ap (nat_le place) (sym e.0)

abbrev judgement : Bool → Bool → Bool → Option Reason
judgement within long cut =
    cond within (cond long (Some reasons.TooLong) (cond cut (Some reasons.Truncated) None)) (Some reasons.Overrun)

pub passes_as : (i : Inside) (c : Cursor) (width : ℕ) (within long cut : Bool) → place_of i ≡ c → IsPlace i → width < 2 ^ 32
    → nat_le (i.place + width) i.nearest ≡ within → nat_lt bit_limit (i.place + width) ≡ long
    → nat_lt (8 * length i.octets.now) (i.place + width) ≡ cut → judgement within long cut ≡ passes c width
passes_as i c width within long cut view is h a b d =
    let place = i.place + width in
    let ends : is_within place (map opened (reverse i.opens.items)) ≡ within =
    within_nearest (reverse i.opens.items) i.nearest place (omega (arith, is.limit)) is.nearest ∙ a in
    subst (λ z. judgement within long cut ≡ passes z width) view
    (sym (ap (λ x. judgement x (nat_lt bit_limit place) (nat_lt (8 * length i.octets.now) place)) ends
    ∙ ap (λ x. judgement within x (nat_lt (8 * length i.octets.now) place)) b
    ∙ ap (judgement within long) d))

pub overruns : (i : Inside) (c : Cursor) (width : ℕ) → place_of i ≡ c → IsPlace i → width < 2 ^ 32
    → i.nearest < i.place + width → Some reasons.Overrun ≡ passes c width
overruns i c width view is h over =
    passes_as i c width false (nat_lt bit_limit (i.place + width)) (nat_lt (8 * length i.octets.now) (i.place + width)) view is h
    (not_at_most (i.place + width) i.nearest over) refl refl
  where
    not_at_most : (a b : ℕ) → b < a → nat_le a b ≡ false
    not_at_most a b k = grind (arith, nat_tests)

pub too_long : (i : Inside) (c : Cursor) (width : ℕ) → place_of i ≡ c → IsPlace i → width < 2 ^ 32
    → i.place + width ≤ i.nearest → bit_limit < i.place + width → Some reasons.TooLong ≡ passes c width
too_long i c width view is h within over =
    passes_as i c width true true (nat_lt (8 * length i.octets.now) (i.place + width)) view is h
    (is_at_most (i.place + width) i.nearest within) (is_below bit_limit (i.place + width) over) refl

pub cut_off : (i : Inside) (c : Cursor) (width : ℕ) → place_of i ≡ c → IsPlace i → width < 2 ^ 32
    → i.place + width ≤ i.nearest → i.place + width ≤ bit_limit → 8 * length i.octets.now < i.place + width
    → Some reasons.Truncated ≡ passes c width
cut_off i c width view is h within short over =
    passes_as i c width true false true view is h
    (is_at_most (i.place + width) i.nearest within) (is_not_below bit_limit (i.place + width) short)
    (is_below (8 * length i.octets.now) (i.place + width) over)

pub passes_nothing : (i : Inside) (c : Cursor) (width : ℕ) → place_of i ≡ c → IsPlace i → width < 2 ^ 32
    → i.place + width ≤ i.nearest → i.place + width ≤ bit_limit → i.place + width ≤ 8 * length i.octets.now → None ≡ passes c width
passes_nothing i c width view is h within short there =
    passes_as i c width true false false view is h
    (is_at_most (i.place + width) i.nearest within) (is_not_below bit_limit (i.place + width) short)
    (is_not_below (8 * length i.octets.now) (i.place + width) there)

-- bits that pass nothing are there
pub room_size : (i : Inside) (c : Cursor) (width : ℕ) → place_of i ≡ c → passes c width ≡ None → width ≤ length (bits_at (place_of i))
room_size i c width view room = taken_size (place_of i) width (subst (λ z. passes z width ≡ None) (sym view) room)

pub room_octets : (i : Inside) (c : Cursor) (width : ℕ) → place_of i ≡ c → IsPlace i → passes c width ≡ None
    → i.place + width ≤ 8 * length i.octets.now
room_octets i c width view is room =
    omega (arith, room_size i c width view room, is.within, length-drop i.place (octet_bits i.octets.now), length-octet_bits i.octets.now)

pub room_limit : (i : Inside) (c : Cursor) (width : ℕ) → place_of i ≡ c → passes c width ≡ None → i.place + width ≤ bit_limit
room_limit i c width view room = taken_limit (place_of i) width (subst (λ z. passes z width ≡ None) (sym view) room)

-- ---- the innermost open type
pub pushed : (opens : List OpenType) (o : OpenType) → reverse (opens ++ o ∷ []) ≡ o ∷ reverse opens
pushed opens o = reverse-append opens (o ∷ [])
