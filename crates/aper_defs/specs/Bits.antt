-- The bits of fields. Only pads depend on the place, so fields are put one after another.
use Rattle.std.specs.Prelude.{ℕ, ◌+◌, ◌*◌, ◌/◌, ◌==◌, List, [], ◌∷◌, ◌++◌, length, Bool, fold, nat_lt, if◌then◌else◌}
use Rattle.std.specs.List.{flat_map}
use Rattle.bits_core.specs.Bits.{bits_of, pad_of}
use Rattle.aper_defs.specs.Fields.{Ask, RunUnit, Field, Path}
use Rattle.aper_defs.specs.Fields.{flag, constrained, digits, signed, small, extent, addition_bits, character, ie_count, ie_id, pad, opening, closing, end, bit, octet, asked, run}

-- A length determinant (X.691, 11.9): an octet below 128; below 16,384 two octets that begin with the bits 10; else the bits 11 and how
-- many times 16,384 units come.
abbrev pub part_units : ℕ
part_units = 16384

abbrev pub extent_width : ℕ → ℕ
extent_width n = if nat_lt n 128 then 8 else if nat_lt n part_units then 16 else 8

abbrev pub extent_number : ℕ → ℕ
extent_number n = if nat_lt n 128 then n else if nat_lt n part_units then 32768 + n else 192 + n / part_units

-- how many bits an answer takes at a place
abbrev pub width_at : ℕ → Ask → ℕ → ℕ
width_at place flag n = 1
width_at place (constrained role width most) n = width
width_at place (digits count most) n = 8 * count
width_at place (signed count low high) n = 8 * count
width_at place (small role) n = 7
width_at place (extent bounds) n = extent_width n
width_at place (addition_bits count) n = count
width_at place character n = 8
width_at place (ie_count least) n = 16
width_at place (ie_id known left after) n = 16
width_at place pad n = pad_of place
width_at place opening n = extent_width n
width_at place closing n = if n == 0 then pad_of place else 8
width_at place end n = 0

-- the number that its bits are
abbrev pub spelled : Ask → ℕ → ℕ
spelled (extent bounds) n = extent_number n
spelled opening n = extent_number n
spelled closing n = 0
spelled question n = n

abbrev pub unit_width : RunUnit → ℕ
unit_width bit = 1
unit_width octet = 8

abbrev pub field_bits : ℕ → Field → List Bool
field_bits place (asked path question answer) = bits_of (width_at place question answer) (spelled question answer)
field_bits place (run path unit units) = flat_map (bits_of (unit_width unit)) units

-- these bits with a field after them, and with fields
abbrev pub put : List Bool → Field → List Bool
put bits field = bits ++ field_bits (length bits) field

unfoldable pub put_all : List Bool → List Field → List Bool
put_all bits fields = fold put bits fields

-- A complete encoding: zero bits up to the next octet, or an octet of them where there is no bit (X.691, 11.1.3).
abbrev pub closed : Path → List Field → List Field
closed path fields = fields ++ asked path closing (if length (put_all [] fields) == 0 then 1 else 0) ∷ []

abbrev pub octet_count : List Field → ℕ
octet_count fields = length (put_all [] fields) / 8

-- An open type (X.691, 11.2): a length in octets, the complete encoding of the value inside, and its end. The length is told on the way
-- of the value around.
abbrev pub open_fields : Path → Path → List Field → List Field
open_fields path inside fields =
    asked path pad 0 ∷ asked path opening (octet_count (closed inside fields)) ∷ (closed inside fields ++ asked inside end 0 ∷ [])
