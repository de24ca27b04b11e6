-- Bits of numbers and of octets, the highest first, as ITU-T X.691 puts them.
use Rattle.std.specs.Prelude.{ℕ, zero, suc, ◌+◌, ◌-◌, ◌*◌, ◌/◌, ◌%◌, ◌^◌, ◌<◌, ◌==◌, Bool, true, false, List, [], ◌∷◌, length, take, drop, replicate}
use Rattle.std.specs.List.{flat_map}

-- a bit as a number
abbrev pub bit_value : Bool → ℕ
bit_value false = 0
bit_value true = 1

-- the number that bits spell
abbrev pub number_of : List Bool → ℕ
number_of [] = 0
number_of (bit ∷ bits) = bit_value bit * 2 ^ length bits + number_of bits

-- the lowest bits of a number, so many
unfoldable pub bits_of : ℕ → ℕ → List Bool
bits_of zero n = []
bits_of (suc width) n = (n / 2 ^ width % 2 == 1) ∷ bits_of width n

-- the bits of octets
abbrev pub octet_bits : List ℕ → List Bool
octet_bits octets = flat_map (bits_of 8) octets

-- zeros, and how many bring a number of bits to a multiple of 8
abbrev pub zeros : ℕ → List Bool
zeros n = replicate n false

abbrev pub pad_of : ℕ → ℕ
pad_of n = (8 - n % 8) % 8

-- a field: a number that fits its width
pub record Field : Type 0 where
  pub width : ℕ
  pub value : ℕ

abbrev pub FieldFits : Field → Type 0
FieldFits f = f.value < 2 ^ f.width

-- fields one after another, and the numbers that bits have at these widths
abbrev pub bits_of_fields : List Field → List Bool
bits_of_fields fields = flat_map (λ f. bits_of f.width f.value) fields

abbrev pub numbers_at : List ℕ → List Bool → List ℕ
numbers_at [] bits = []
numbers_at (width ∷ widths) bits = number_of (take width bits) ∷ numbers_at widths (drop width bits)
