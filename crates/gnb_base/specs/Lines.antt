-- Lines of bytes. A line ends with LF, which isn't part of it; the last may lack it, and an empty rest is no line.
use Rattle.std.specs.Prelude.{◌≡◌, ◌≢◌, ◌==◌, ◌⊎◌, ℕ, if◌then◌else◌, ◌<◌, List, [], ◌∷◌, ◌++◌, length, take, slice_index}

-- LF
abbrev pub line_feed : ℕ
line_feed = 10

-- a byte at the front of the first line, which it begins where there is none
abbrev pub onto_line : ℕ → List (List ℕ) → List (List ℕ)
onto_line byte [] = (byte ∷ []) ∷ []
onto_line byte (line ∷ lines) = (byte ∷ line) ∷ lines

-- the lines of the bytes
abbrev pub lines_of : List ℕ → List (List ℕ)
lines_of [] = []
lines_of (byte ∷ bytes) = if byte == line_feed then [] ∷ lines_of bytes else onto_line byte (lines_of bytes)

-- no LF stands in the bytes
abbrev pub HasNoLf : List ℕ → Type 0
HasNoLf [] = Unit {0}
HasNoLf (byte ∷ bytes) = (byte ≢ line_feed) × HasNoLf bytes

-- the bytes after the first LF
abbrev pub past_line : List ℕ → List ℕ
past_line [] = []
past_line (byte ∷ bytes) = if byte == line_feed then bytes else past_line bytes

-- The lines as a relation: each line stands in the bytes up to its LF, and the last may be the rest, if that isn't empty.
abbrev pub AreLines : List ℕ → List (List ℕ) → Type 0
AreLines bytes [] = bytes ≡ []
AreLines bytes (line ∷ lines) =
    HasNoLf line
    × (((rest : List ℕ) × (bytes ≡ line ++ line_feed ∷ rest) × AreLines rest lines)
    ⊎ ((bytes ≡ line) × (line ≢ []) × (lines ≡ [])))

-- the first LF stands at this place
pub record IsFirstLf (bytes : List ℕ) (i : ℕ) : Type 0 where
  pub in_range : i < length bytes
  pub before : HasNoLf (take i bytes)
  pub here : slice_index bytes i ≡ line_feed
