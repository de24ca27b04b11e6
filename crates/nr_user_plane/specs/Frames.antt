-- NR-U frames as octets. Which frames there are and what they are for is of TS 38.425, 5.5; the places of the flags, the
-- widths and the order of the fields are this project's own.
use Rattle.std.specs.Prelude.{◌≡◌, ℕ, ◌+◌, ◌-◌, ◌*◌, ◌/◌, ◌%◌, ◌^◌, ◌<◌, ◌≤◌, Bool, true, false, Option, Some, None, is_some, IfSome, List, [], ◌∷◌, ◌++◌, length, replicate}
use Rattle.std.specs.List.{flat_map}
use Rattle.gnb_types.specs.Numbers.{be24, be32}
use Rattle.nr_user_plane.specs.declared.frames.Frame.{Frame}
use Rattle.nr_user_plane.specs.declared.frames.Frame.TheVariants.{Data, Status}

-- a flag as a bit
abbrev pub flag : Bool → ℕ
flag true = 1
flag false = 0

-- whether there are lost ranges
abbrev pub is_lost : List (ℕ × ℕ) → Bool
is_lost [] = false
is_lost (range ∷ ranges) = true

-- numbers of three and four octets, the highest first
abbrev pub number24 : ℕ → ℕ → ℕ → ℕ
number24 a b c = (a * 256 + b) * 256 + c

abbrev pub number32 : ℕ → ℕ → ℕ → ℕ → ℕ
number32 a b c d = number24 a b c * 256 + d

-- at most three octets, all zeros
abbrev pub IsPadding : List ℕ → Type 0
IsPadding octets = (length octets ≤ 3) × (octets ≡ replicate (length octets) 0)

-- the highest delivered number where there is one, and then padding
abbrev pub HasEnd : Option ℕ → List ℕ → Type 0
HasEnd None octets = IsPadding octets
HasEnd (Some delivered) (a ∷ b ∷ c ∷ octets) = (delivered ≡ number24 a b c) × IsPadding octets
HasEnd (Some delivered) octets = ⊥

-- ranges, none of which begins below the least, and then the end
abbrev pub HasRanges : ℕ → List (ℕ × ℕ) → Option ℕ → List ℕ → Type 0
HasRanges least [] delivered octets = HasEnd delivered octets
HasRanges least (range ∷ ranges) delivered (a ∷ b ∷ c ∷ d ∷ e ∷ f ∷ octets) =
    (range ≡ (number24 a b c, number24 d e f)) × (least ≤ range.0) × (range.0 ≤ range.1)
    × HasRanges (range.1 + 1) ranges delivered octets
HasRanges least (range ∷ ranges) delivered octets = ⊥

-- the lost ranges where there are any, after their count of one to seven, and then the end
abbrev pub HasLost : List (ℕ × ℕ) → Option ℕ → List ℕ → Type 0
HasLost [] delivered octets = HasEnd delivered octets
HasLost (range ∷ ranges) delivered (count ∷ octets) =
    (count ≡ length (range ∷ ranges)) × (count ≤ 7) × HasRanges 0 (range ∷ ranges) delivered octets
HasLost (range ∷ ranges) delivered [] = ⊥

-- The octets are this frame. Data: `0000000P`, `0000000R` and three octets of number. Status: `00010D0L`, a zero, four
-- octets of desired buffer size, the lost ranges where L is set, and the highest delivered number where D is set.
abbrev pub Nru : Frame → List ℕ → Type 0
Nru (Data poll restart sn) (first ∷ second ∷ a ∷ b ∷ c ∷ padding) =
    (first ≡ flag poll) × (second ≡ flag restart) × (sn ≡ number24 a b c) × IsPadding padding
Nru (Status room lost delivered) (first ∷ second ∷ a ∷ b ∷ c ∷ d ∷ octets) =
    (first ≡ 16 + 4 * flag (is_some delivered) + flag (is_lost lost)) × (second ≡ 0)
    × (room ≡ number32 a b c d) × HasLost lost delivered octets
Nru frame octets = ⊥

-- numbers that an octet can hold
abbrev pub AreOctets : List ℕ → Type 0
AreOctets [] = Unit {0}
AreOctets (octet ∷ octets) = (octet < 256) × AreOctets octets

-- what a frame can hold: numbers of 24 bits, and at most seven ranges, each above the one before it
abbrev pub AreApart : ℕ → List (ℕ × ℕ) → Type 0
AreApart least [] = Unit {0}
AreApart least (range ∷ ranges) = (least ≤ range.0) × (range.0 ≤ range.1) × (range.1 < 2 ^ 24)
    × AreApart (range.1 + 1) ranges

abbrev pub FitsFrame : Frame → Type 0
FitsFrame (Data poll restart sn) = sn < 2 ^ 24
FitsFrame (Status room lost delivered) = (length lost ≤ 7) × AreApart 0 lost
    × IfSome delivered (λ number. number < 2 ^ 24)

-- a desired buffer size of 32 bits
abbrev pub HasRoom : Frame → Type 0
HasRoom (Data poll restart sn) = Unit {0}
HasRoom (Status room lost delivered) = room < 2 ^ 32

abbrev pub range_octets : ℕ × ℕ → List ℕ
range_octets range = be24 range.0 ++ be24 range.1

-- the lost ranges after their count, or nothing
abbrev pub lost_octets : List (ℕ × ℕ) → List ℕ
lost_octets [] = []
lost_octets (range ∷ ranges) = length (range ∷ ranges) ∷ flat_map range_octets (range ∷ ranges)

abbrev pub delivered_octets : Option ℕ → List ℕ
delivered_octets None = []
delivered_octets (Some number) = be24 number

abbrev pub field_octets : Frame → List ℕ
field_octets (Data poll restart sn) = flag poll ∷ flag restart ∷ be24 sn
field_octets (Status room lost delivered) =
    (16 + 4 * flag (is_some delivered) + flag (is_lost lost)) ∷ 0 ∷ be32 room ++ lost_octets lost ++ delivered_octets delivered

-- filled up with zeros to the next 4n - 2 octets
unfoldable pub filled : List ℕ → List ℕ
filled octets = octets ++ replicate ((6 - length octets % 4) % 4) 0

-- a frame as it is written
abbrev pub nru_octets : Frame → List ℕ
nru_octets frame = filled (field_octets frame)
