-- The fields of INTEGER, of indices, strings and counts stand where their bits are.
use Rattle.std.proofs.Common.{◌≡◌, ℕ, zero, suc, ◌+◌, ◌-◌, ◌*◌, ◌/◌, ◌^◌, ◌<◌, ◌≤◌, ◌==◌, nat_lt, cond, ◌&&◌, ◌||◌, min, Bool, true, false, List, [], ◌∷◌, length, map, take, drop, None, Some, Option, refl, sym, ap, subst, ◌∙◌, arith}
use Rattle.std.specs.Prelude.{ℤ, nat_le}
use Rattle.std.specs.List.{list_all}
use Rattle.std.proofs.lemmas.List.{length-take, length-drop}
use Rattle.asn1_syntax.specs.declared.types.definition.Size.{Size}
use Rattle.aper_defs.specs.Numbers.{signed_octets_for, twos_complement, is_signed, in_range, above}
use Rattle.aper_defs.specs.Fields.{Path, Role, Ask, Field, bit, octet, flag, signed, small, extent, character, pad, whole, part, asked, run as run_field}
use Rattle.aper_defs.specs.Fields as fields
use Rattle.aper_defs.specs.Bits.{part_units}
use Rattle.aper_defs.specs.Parts.{number_fields, extension_fields, integer_fields, index_fields, Content, of_bits, of_octets, of_characters, unit_fields, pad_limit, in_size, part_of_fields, next_part, part_fields, all_part_fields, sized_fields, string_fields, count_fields}
use Rattle.aper_defs.specs.Membership.{is_number_of, is_index_of, is_count_of, is_printable}
use Rattle.aper_defs.specs.Bounds.{IsSizeBounded}
use Rattle.aper_defs.specs.Reading.{is_inside}
use Rattle.proof_aper.proofs.answers.NumberFacts.{below, not_below, at_most, first_of_both, second_of_both, above_at_most, signed_octets_positive, signed_octets_at_most}
use Rattle.proof_aper.proofs.answers.ForthNumbers.{in_or_signed}
use Rattle.proof_aper.proofs.places.Placed.{Allowed, Placed, placed_none, placed_asked, placed_run, placed_both, AreBelow}
use Rattle.proof_aper.proofs.places.Extents.{allowed_whole, allowed_last, allowed_part}
use Rattle.proof_aper.proofs.places.Opened.{allowed_pad}
use Rattle.proof_aper.proofs.places.PlacedNumbers.{by_branch, allowed_signed, allowed_small, allowed_character, padded, placed_number, placed_extension}

-- ---- INTEGER and indices
placed_octets : (p : Path) (low high z : ℤ) → is_signed z ≡ true → in_range low high z ≡ false
    → Placed (asked p pad 0 ∷ asked p (extent (whole 1 8 None)) (signed_octets_for z) ∷ asked p (signed (signed_octets_for z) low high)
    (twos_complement (signed_octets_for z) z) ∷ [])
placed_octets p low high z h out =
    let k = signed_octets_for z in
    let last : Field = asked p (signed k low high) (twos_complement k z) in
    padded p (extent (whole 1 8 None)) k (last ∷ [])
    (placed_asked p (extent (whole 1 8 None)) k (last ∷ [])
    (allowed_whole 1 8 None k (record {
      low = signed_octets_positive z;
      high = signed_octets_at_most z;
      limit = omega arith;
      past =
          refl;
    })) (λ place opens. refl)
    (placed_asked p (signed k low high) (twos_complement k z) [] (allowed_signed low high z h out) (λ place opens. refl) placed_none))

pub placed_integer : (p : Path) (low high : ℤ) (extensible : Bool) (z : ℤ) → is_number_of low high extensible z ≡ true
    → above low high < 2 ^ 64
    → Placed (integer_fields p low high extensible z)
unfolding integer_fields
placed_integer p low high extensible z h bound =
    placed_both (extension_fields p extensible (cond (in_range low high z) false true)) _
    (placed_extension p extensible (cond (in_range low high z) false true))
    (by_branch (in_range low high z) _ _
    (λ root. placed_number p fields.value (above low high) (above low z) (above_at_most low high z root) bound)
    (λ out. placed_octets p low high z (in_or_signed low high extensible z h out).1 out))

index_past : (count i : ℕ) (extensible : Bool) → is_index_of count extensible i ≡ true → nat_lt i count ≡ false → i < count + 64
index_past count i extensible h out = below i (count + 64) (go (nat_lt i count) extensible (nat_lt i (count + 64)) h out)
  where
    go : (a b c : Bool) → (a || (b && c)) ≡ true → a ≡ false → c ≡ true
    go true b c h out = cc
    go false true c h out = h
    go false false c h out = cc

pub placed_index : (p : Path) (count : ℕ) (extensible : Bool) (i : ℕ) → is_index_of count extensible i ≡ true → count ≤ 256
    → Placed (index_fields p count extensible i)
unfolding index_fields
placed_index p count extensible i h bound =
    placed_both (extension_fields p extensible (nat_le count i)) _ (placed_extension p extensible (nat_le count i))
    (by_branch (nat_lt i count) _ _
    (λ root. placed_number p fields.index (count - 1) i (omega (arith, below i count root)) (omega arith))
    (λ out. placed_asked p (small fields.index) (i - count) []
    (allowed_small fields.index (i - count) (omega (arith, index_past count i extensible h out, not_below i count out)))
    (λ place opens. refl) placed_none))

-- ---- units
-- units that stand in an encoding of this kind
abbrev pub AreUnits : Content → List ℕ → Type 0
AreUnits of_bits units = AreBelow 2 units
AreUnits of_octets units = AreBelow 256 units
AreUnits of_characters units = list_all is_printable units ≡ true

placed_characters : (p : Path) (cs : List ℕ) → list_all is_printable cs ≡ true → Placed (map (λ c. asked p character c) cs)
placed_characters p [] h = placed_none
placed_characters p (c ∷ cs) h =
    placed_asked p character c (map (λ x. asked p character x) cs)
    (allowed_character c (first_of_both (is_printable c) (list_all is_printable cs) h)) (λ place opens. refl)
    (placed_characters p cs (second_of_both (is_printable c) (list_all is_printable cs) h))

placed_units : (p : Path) (content : Content) (units : List ℕ) → AreUnits content units → Placed (unit_fields p content units)
placed_units p of_bits units h = placed_run p bit units [] h placed_none
placed_units p of_octets units h = placed_run p octet units [] h placed_none
placed_units p of_characters units h = placed_characters p units h

below_parts : (n k : ℕ) (xs : List ℕ) → AreBelow n xs → AreBelow n (take k xs) × AreBelow n (drop k xs)
below_parts n zero xs h = (tt, h)
below_parts n (suc k) [] h = (tt, tt)
below_parts n (suc k) (x ∷ xs) h = let rest = below_parts n k xs h.1 in ((h.0, rest.0), rest.1)

passing_parts : (k : ℕ) (xs : List ℕ) → list_all is_printable xs ≡ true → (list_all is_printable (take k xs) ≡ true)
    × (list_all is_printable (drop k xs) ≡ true)
passing_parts zero xs h = (refl, h)
passing_parts (suc k) [] h = (refl, refl)
passing_parts (suc k) (x ∷ xs) h =
    let rest = passing_parts k xs (second_of_both (is_printable x) (list_all is_printable xs) h) in
    (ap (λ b. b && list_all is_printable (take k xs)) (first_of_both (is_printable x) (list_all is_printable xs) h) ∙ rest.0, rest.1)

units_parts : (content : Content) (k : ℕ) (units : List ℕ) → AreUnits content units → AreUnits content (take k units)
    × AreUnits content (drop k units)
units_parts of_bits k units h = below_parts 2 k units h
units_parts of_octets k units h = below_parts 256 k units h
units_parts of_characters k units h = passing_parts k units h

-- ---- strings in parts
placed_part : (p : Path) (content : Content) (outside : Option Size) (before previous : ℕ) (units : List ℕ)
    → Allowed (extent (part before previous outside)) (length units) → AreUnits content units
    → Placed (part_of_fields p content outside before previous units)
placed_part p content outside before previous units a h =
    padded p (extent (part before previous outside)) (length units) (unit_fields p content units)
    (placed_asked p (extent (part before previous outside)) (length units) (unit_fields p content units) a (λ place opens. refl)
    (placed_units p content units h))

placed_last : (p : Path) (content : Content) (outside : Option Size) (before previous : ℕ) (units : List ℕ)
    → length units < part_units → is_inside outside (before + length units) ≡ false → AreUnits content units
    → Placed (part_of_fields p content outside before previous units)
placed_last p content outside before previous units short out h =
    placed_part p content outside before previous units (allowed_last before previous outside (length units) short out) h

pub placed_parts : (p : Path) (content : Content) (outside : Option Size) (turns before previous : ℕ) (units : List ℕ)
    → length units < part_units * (turns + 1) → is_inside outside (before + length units) ≡ false
    → (part_units ≤ length units → 65536 ≤ previous) → AreUnits content units
    → Placed (part_fields p content outside turns before previous units)
unfolding part_fields
placed_parts p content outside zero before previous units short out turn h = placed_last p content outside before previous units
    (omega arith) out h
placed_parts p content outside (suc turns) before previous units short out turn h =
    let size = length units in
    let count = next_part size in
    by_branch (nat_lt size part_units) _ _
    (λ e. placed_last p content outside before previous units (below size part_units e) out h)
    (λ e. let k = min 4 (size / part_units) in
    let long : part_units ≤ size = not_below size part_units e in
    let taken : length (take count units) ≡ count = omega (arith, length-take count units) in
    let left : length (drop count units) ≡ size - count = length-drop count units in
    let parts = units_parts content count units h in
    placed_both (part_of_fields p content outside before previous (take count units))
    (part_fields p content outside turns (before + count) count (drop count units))
    (placed_part p content outside before previous (take count units)
    (subst (Allowed (extent (part before previous outside))) (sym taken)
    (allowed_part before previous outside k (omega arith) (omega arith) (turn long))) parts.0)
    (placed_parts p content outside turns (before + count) count (drop count units) (omega (arith, left))
    (ap (is_inside outside) (let s : before + count + length (drop count units) ≡ before + size = omega (arith, left) in s) ∙ out)
    (λ more. omega (arith, left)) parts.1))

placed_all_parts : (p : Path) (content : Content) (outside : Option Size) (units : List ℕ) → is_inside outside (length units) ≡ false
    → AreUnits content units
    → Placed (all_part_fields p content outside units)
placed_all_parts p content outside units out h =
    placed_parts p content outside (length units / part_units) 0 (4 * part_units) units (omega arith)
    (ap (is_inside outside) (let s : 0 + length units ≡ length units = omega arith in s) ∙ out) (λ e. omega arith) h

-- ---- strings and counts
placed_sized : (p : Path) (content : Content) (size : Size) (units : List ℕ) → in_size size (length units) ≡ true → size.high < 65536
    → AreUnits content units
    → Placed (sized_fields p content size units)
placed_sized p content size units h bound u =
    let units_placed = placed_units p content units u in
    let padded_units = placed_asked p pad 0 (unit_fields p content units) allowed_pad (λ place opens. refl) units_placed in
    let high : length units ≤ size.high = at_most (length units) size.high
    (second_of_both (nat_le size.low (length units)) (nat_le (length units) size.high) h) in
    by_branch (size.low == size.high) _ _
    (λ e. by_branch (nat_lt (pad_limit content) size.low) _ _ (λ f. padded_units) (λ f. units_placed))
    (λ e. placed_both (number_fields p fields.length (size.high - size.low) (length units - size.low))
    (asked p pad 0 ∷ unit_fields p content units)
    (placed_number p fields.length (size.high - size.low) (length units - size.low) (omega arith) (omega arith)) padded_units)

pub placed_string : (p : Path) (content : Content) (size : Option Size) (units : List ℕ) → IsSizeBounded size → AreUnits content units
    → Placed (string_fields p content size units)
unfolding string_fields
placed_string p content None units bound u = placed_all_parts p content None units refl u
placed_string p content (Some size) units bound u =
    placed_both (extension_fields p size.extensible (cond (in_size size (length units)) false true)) _
    (placed_extension p size.extensible (cond (in_size size (length units)) false true))
    (by_branch (in_size size (length units)) _ _
    (λ root. placed_sized p content size units root bound.1 u)
    (λ out. placed_all_parts p content (Some size) units out u))

placed_short : (p : Path) (outside : Option Size) (n : ℕ) → n ≤ 16383 → is_inside outside n ≡ false
    → Placed (asked p pad 0 ∷ asked p (extent (whole 0 16383 outside)) n ∷ [])
placed_short p outside n h out =
    padded p (extent (whole 0 16383 outside)) n []
    (placed_asked p (extent (whole 0 16383 outside)) n []
    (allowed_whole 0 16383 outside n (record { low = omega arith; high = h; limit = omega arith; past = out }))
    (λ place opens. refl) placed_none)

count_past : (size : Size) (n : ℕ) → is_count_of (Some 16383) (Some size) n ≡ true → in_size size n ≡ false → n ≤ 16383
count_past size n h out = at_most n 16383 (go (in_size size n) size.extensible (nat_le n 16383) h out)
  where
    go : (a b c : Bool) → (a || (b && c)) ≡ true → a ≡ false → c ≡ true
    go true b c h out = cc
    go false true c h out = h
    go false false c h out = cc

pub placed_count : (p : Path) (size : Option Size) (n : ℕ) → is_count_of (Some 16383) size n ≡ true → IsSizeBounded size
    → Placed (count_fields p size n)
unfolding count_fields
placed_count p None n h bound = placed_short p None n (at_most n 16383 h) refl
placed_count p (Some size) n h bound =
    placed_both (extension_fields p size.extensible (cond (in_size size n) false true)) _
    (placed_extension p size.extensible (cond (in_size size n) false true))
    (by_branch (in_size size n) _ _
    (λ root. placed_number p fields.length (size.high - size.low) (n - size.low)
    (let high : n ≤ size.high = at_most n size.high (second_of_both (nat_le size.low n) (nat_le n size.high) root) in omega arith)
    (omega arith))
    (λ out. placed_short p (Some size) n (count_past size n h out) out))
