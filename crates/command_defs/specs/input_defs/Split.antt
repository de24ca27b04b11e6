-- An input as far as it was taken: the lines that were handed out of it, and the bytes after them.
use Rattle.std.specs.Prelude.{◌≡◌, ◌≢◌, ◌<◌, ℕ, List, [], ◌∷◌, ◌++◌, length, Option, Some, None}
use Rattle.std.specs.List.{flat_map, AllByRecursion}
use Rattle.std.specs.Io.KnownBytes.{Consumes, IsAtEnd}
use Rattle.gnb_base.specs.Lines.{line_feed, HasNoLf, past_line}
use Rattle.gnb_base.specs.Outside.{SourceAt}
use Rattle.gnb_base.specs.Reading.{piece_size}

-- the bytes taken of an input, the lines that were handed out of them, and the bytes kept after
-- these lines
pub record InputSplit : Type 0 where
  pub taken : List ℕ
  pub lines : List (List ℕ)
  pub kept : List ℕ

abbrev pub input_split : List ℕ → List (List ℕ) → List ℕ → InputSplit
input_split taken lines kept = record { taken = taken; lines = lines; kept = kept }

-- what is left of an input that reported its bytes at first; of another one nothing is known
abbrev pub left_of : Option (List ℕ) → Option (List ℕ) → Option (List ℕ)
left_of None left = None
left_of (Some bytes) left = left

abbrev pub rest_of : SourceAt → SourceAt → Option (List ℕ)
rest_of before after = left_of before.left after.left

-- lines, each with its LF
abbrev pub joined : List (List ℕ) → List ℕ
joined lines = flat_map (λ line. line ++ line_feed ∷ []) lines

-- The bytes taken are the lines, each with its LF, and then the bytes kept; or the last line lacks
-- its LF, which it may at the end of the input alone.
pub data Divides (left : Option (List ℕ)) (split : InputSplit) : Type 0 where
  Whole : split.taken ≡ joined split.lines ++ split.kept → Divides left split
  Bare : (front : List (List ℕ)) (last : List ℕ) → split.lines ≡ front ++ last ∷ [] → last ≢ []
      → split.taken ≡ joined front ++ last → split.kept ≡ [] → IsAtEnd left → Divides left split

-- What a call took of its source divides like this, and reading is lazy: past the end of the line
-- that comes next fewer bytes were taken than one read asks for.
pub record TakesInput (before after : SourceAt) (split : InputSplit) : Type 0 where
  pub consumes : Consumes before.left after.left split.taken
  pub divides : Divides (rest_of before after) split
  pub each : AllByRecursion HasNoLf split.lines
  pub lazy : length (past_line split.kept) < piece_size
