-- Fields of numbers, lengths and strings.
use Rattle.std.specs.Prelude.{ℕ, zero, suc, ◌+◌, ◌-◌, ◌*◌, ◌/◌, ◌==◌, List, [], ◌∷◌, ◌++◌, length, take, drop, map, min, Bool, true, false, Option, Some, None, nat_lt, nat_le, ◌&&◌, if◌then◌else◌, ℤ}
use Rattle.asn1_syntax.specs.declared.types.definition.Size.{Size}
use Rattle.aper_defs.specs.Numbers.{bits_for, octets_for, signed_octets_for, twos_complement, in_range, above}
use Rattle.aper_defs.specs.Fields.{Path, Role, Field, flag, constrained, digits, signed, small, extent, character, pad, whole, part, bit, octet, asked, run}
use Rattle.aper_defs.specs.Fields as roles
use Rattle.aper_defs.specs.Bits.{part_units}

-- The octets of a number that takes more than two: how many, as a constrained number from 1 on, and then these (X.691, 11.5.7.4).
abbrev pub large_fields : Path → ℕ → ℕ → List Field
large_fields p span n =
    let most = octets_for span - 1 in
    asked p (constrained roles.value (bits_for most) most) (octets_for n - 1) ∷ asked p pad 0 ∷ asked p (digits (octets_for n) span) n ∷ []

-- A number from 0 to the span (X.691, 11.5): no bit where there is but one, fewest bits below 255, then an octet, two octets, or as many
-- as it takes.
unfoldable pub number_fields : Path → Role → ℕ → ℕ → List Field
number_fields p role span n =
    if span == 0 then []
    else if nat_lt span 255 then asked p (constrained role (bits_for span) span) n ∷ []
    else if span == 255 then asked p pad 0 ∷ asked p (constrained role 8 span) n ∷ []
    else if nat_lt span 65536 then asked p pad 0 ∷ asked p (constrained role 16 span) n ∷ []
    else large_fields p span n

-- an extension bit, where the type is extensible
abbrev pub extension_fields : Path → Bool → Bool → List Field
extension_fields p extensible is_extended = if extensible then asked p flag (if is_extended then 1 else 0) ∷ [] else []

-- INTEGER (X.691, 13): in its range, or where it is extensible as octets in two's complement
unfoldable pub integer_fields : Path → ℤ → ℤ → Bool → ℤ → List Field
integer_fields p low high extensible z = extension_fields p extensible (if in_range low high z then false else true)
    ++ (if in_range low high z then number_fields p roles.value (above low high) (above low z)
    else (let count = signed_octets_for z in
    asked p pad 0 ∷ asked p (extent (whole 1 8 None)) count ∷ asked p (signed count low high) (twos_complement count z) ∷ []))

-- an index: among so many of the root as a constrained number, or past them as a small one (X.691, 14 and 23)
unfoldable pub index_fields : Path → ℕ → Bool → ℕ → List Field
index_fields p count extensible i = extension_fields p extensible (nat_le count i)
    ++ (if nat_lt i count then number_fields p roles.index (count - 1) i else asked p (small roles.index) (i - count) ∷ [])

-- what a string is made of
pub data Content : Type 0 where
  of_bits : Content
  of_octets : Content
  of_characters : Content

abbrev pub unit_fields : Path → Content → List ℕ → List Field
unit_fields p of_bits units = run p bit units ∷ []
unit_fields p of_octets units = run p octet units ∷ []
unit_fields p of_characters units = map (λ c. asked p character c) units

-- A string of a fixed size above this one is aligned (X.691, 16.10, 17.7 and 30.5.7).
abbrev pub pad_limit : Content → ℕ
pad_limit of_bits = 16
pad_limit of_octets = 2
pad_limit of_characters = 0

abbrev pub in_size : Size → ℕ → Bool
in_size size n = nat_le size.low n && nat_le n size.high

-- a length, and then so many units
abbrev pub part_of_fields : Path → Content → Option Size → (before previous : ℕ) → List ℕ → List Field
part_of_fields p content outside before previous units =
    asked p pad 0 ∷ asked p (extent (part before previous outside)) (length units) ∷ unit_fields p content units

-- how many units stand in the next part, where they don't fit in a last one
abbrev pub next_part : ℕ → ℕ
next_part count = part_units * min 4 (count / part_units)

-- A string in parts (X.691, 11.9.3.8): parts of 65,536 units, one of fewer times 16,384, and the rest, which may be empty. At most so
-- many stand before the rest.
unfoldable pub part_fields : Path → Content → Option Size → (turns before previous : ℕ) → List ℕ → List Field
part_fields p content outside zero before previous units = part_of_fields p content outside before previous units
part_fields p content outside (suc turns) before previous units =
    let count = next_part (length units) in
    if nat_lt (length units) part_units then part_of_fields p content outside before previous units
    else part_of_fields p content outside before previous (take count units)
    ++ part_fields p content outside turns (before + count) count (drop count units)

abbrev pub all_part_fields : Path → Content → Option Size → List ℕ → List Field
all_part_fields p content outside units = part_fields p content outside (length units / part_units) 0 (4 * part_units) units

-- A string in the root of a size (X.691, 16, 17 and 30): a fixed size isn't told.
abbrev pub sized_fields : Path → Content → Size → List ℕ → List Field
sized_fields p content size units = if size.low == size.high
    then (if nat_lt (pad_limit content) size.low then asked p pad 0 ∷ unit_fields p content units else unit_fields p content units)
    else number_fields p roles.length (size.high - size.low) (length units - size.low) ++ asked p pad 0 ∷ unit_fields p content units

unfoldable pub string_fields : Path → Content → Option Size → List ℕ → List Field
string_fields p content None units = all_part_fields p content None units
string_fields p content (Some size) units = extension_fields p size.extensible (if in_size size (length units) then false else true)
    ++ (if in_size size (length units) then sized_fields p content size units else all_part_fields p content (Some size) units)

-- how many members follow (X.691, 20); no parts here
unfoldable pub count_fields : Path → Option Size → ℕ → List Field
count_fields p None n = asked p pad 0 ∷ asked p (extent (whole 0 16383 None)) n ∷ []
count_fields p (Some size) n = extension_fields p size.extensible (if in_size size n then false else true)
    ++ (if in_size size n then number_fields p roles.length (size.high - size.low) (n - size.low)
    else asked p pad 0 ∷ asked p (extent (whole 0 16383 (Some size))) n ∷ [])
