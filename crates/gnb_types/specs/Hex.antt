-- Bytes as hexadecimal text: two digits for each byte, the high one first.
use Rattle.std.specs.Prelude.{◌≡◌, ℕ, ◌+◌, ◌-◌, ◌*◌, ◌/◌, ◌%◌, ◌<◌, ◌≤◌, ◌⊎◌, ◌&&◌, nat_lt, nat_le, if◌then◌else◌, List, [], ◌∷◌, Option, Some, None, Result, Ok, Err}
use Rattle.std.specs.List.{flat_map}
use Rattle.gnb_types.specs.declared.hex.HexError.{HexError}
use Rattle.gnb_types.specs.declared.hex.HexError.TheVariants as errors

-- the digit of a number below 16: `0` to `9`, then `A` to `F`
abbrev pub hex_digit : ℕ → ℕ
hex_digit n = if nat_lt n 10 then 48 + n else 55 + n

-- the two digits of a byte
abbrev pub hex_byte : ℕ → List ℕ
hex_byte byte = hex_digit (byte / 16) ∷ hex_digit (byte % 16) ∷ []

-- the text of the bytes
abbrev pub hex_of : List ℕ → List ℕ
hex_of bytes = flat_map hex_byte bytes

-- the number that a character stands for as a digit, if it is one
abbrev pub digit_of : ℕ → Option ℕ
digit_of c =
    if nat_le 48 c && nat_le c 57 then Some (c - 48) else
    (if nat_le 65 c && nat_le c 70 then Some (c - 55) else
    (if nat_le 97 c && nat_le c 102 then Some (c - 87) else None))

-- the byte of two digits
abbrev pub byte_of : Option ℕ → Option ℕ → Option ℕ
byte_of (Some high) (Some low) = Some (16 * high + low)
byte_of (Some high) None = None
byte_of None low = None

-- a byte before bytes, where both were read
abbrev pub byte_before : Option ℕ → Option (List ℕ) → Option (List ℕ)
byte_before (Some byte) (Some bytes) = Some (byte ∷ bytes)
byte_before (Some byte) None = None
byte_before None bytes = None

-- the bytes that a text stands for, if its length is even and each character is a digit
abbrev pub read_hex : List ℕ → Option (List ℕ)
read_hex [] = Some []
read_hex (high ∷ []) = None
read_hex (high ∷ low ∷ text) = byte_before (byte_of (digit_of high) (digit_of low)) (read_hex text)

-- The same as a relation. A character stands for a number: `0` to `9`, `A` to `F`, or `a` to `f`.
abbrev pub IsDigitOf : ℕ → ℕ → Type 0
IsDigitOf c n = ((n < 10) × (c ≡ 48 + n)) ⊎ ((10 ≤ n) × (n < 16) × ((c ≡ 55 + n) ⊎ (c ≡ 87 + n)))

-- a text stands for bytes, two digits for each
abbrev pub IsHexOf : List ℕ → List ℕ → Type 0
IsHexOf [] [] = Unit {0}
IsHexOf [] (byte ∷ bytes) = ⊥
IsHexOf (high ∷ []) bytes = ⊥
IsHexOf (high ∷ low ∷ text) [] = ⊥
IsHexOf (high ∷ low ∷ text) (byte ∷ bytes) =
    (h : ℕ) × (l : ℕ) × IsDigitOf high h × IsDigitOf low l × (byte ≡ 16 * h + l) × IsHexOf text bytes

-- what a reader of hexadecimal text answered is what reading gives, unless memory ran out
abbrev pub GivesHex : Result (List ℕ) HexError → Option (List ℕ) → Type 0
GivesHex (Ok bytes) read = read ≡ Some bytes
GivesHex (Err errors.NotHex) read = read ≡ None
GivesHex (Err errors.Memory) read = Unit {0}
