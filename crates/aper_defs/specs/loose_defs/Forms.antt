-- Fields of numbers, strings and counts of which it is left open whether they stand in the root of an extensible range or size, or
-- outside it.
use Rattle.std.specs.Prelude.{◌≡◌, ℕ, ◌-◌, ◌≤◌, List, [], ◌∷◌, ◌++◌, Bool, true, Option, Some, None, if◌then◌else◌, ℤ}
use Rattle.asn1_syntax.specs.declared.types.definition.Size.{Size}
use Rattle.aper_defs.specs.Numbers.{signed_octets_for, twos_complement, is_signed, in_range, above}
use Rattle.aper_defs.specs.Fields.{Path, Field, signed, extent, pad, whole, asked}
use Rattle.aper_defs.specs.Fields as roles
use Rattle.aper_defs.specs.Parts.{Content, number_fields, extension_fields, all_part_fields, sized_fields, in_size}
use Rattle.aper_defs.specs.Membership.{Either}

-- INTEGER (X.691, 13)
abbrev pub integer_form : Path → (low high : ℤ) → (extensible outside : Bool) → ℤ → List Field
integer_form p low high extensible outside z = extension_fields p extensible outside
    ++ (if outside
    then (let count = signed_octets_for z in
    asked p pad 0 ∷ asked p (extent (whole 1 8 None)) count ∷ asked p (signed count low high) (twos_complement count z) ∷ [])
    else number_fields p roles.value (above low high) (above low z))

-- Outside it stands where the type is extensible, also a number that lies in the range.
abbrev pub HasIntegerForm : (low high : ℤ) → (extensible outside : Bool) → ℤ → Type 0
HasIntegerForm low high extensible outside z = Either outside ((extensible ≡ true) × (is_signed z ≡ true)) (in_range low high z ≡ true)

-- strings (X.691, 16, 17 and 30)
abbrev pub string_form : Path → Content → Option Size → (outside : Bool) → List ℕ → List Field
string_form p content None outside units = all_part_fields p content None units
string_form p content (Some size) outside units = extension_fields p size.extensible outside
    ++ (if outside then all_part_fields p content (Some size) units else sized_fields p content size units)

abbrev pub HasStringForm : Option Size → (outside : Bool) → ℕ → Type 0
HasStringForm None outside n = Unit {0}
HasStringForm (Some size) outside n = Either outside (size.extensible ≡ true) (in_size size n ≡ true)

-- counts of members (X.691, 20)
abbrev pub count_form : Path → Option Size → (outside : Bool) → ℕ → List Field
count_form p None outside n = asked p pad 0 ∷ asked p (extent (whole 0 16383 None)) n ∷ []
count_form p (Some size) outside n = extension_fields p size.extensible outside
    ++ (if outside then asked p pad 0 ∷ asked p (extent (whole 0 16383 (Some size))) n ∷ []
    else number_fields p roles.length (size.high - size.low) (n - size.low))

abbrev pub HasCountForm : Option Size → (outside : Bool) → ℕ → Type 0
HasCountForm None outside n = n ≤ 16383
HasCountForm (Some size) outside n = Either outside ((size.extensible ≡ true) × (n ≤ 16383)) (in_size size n ≡ true)
