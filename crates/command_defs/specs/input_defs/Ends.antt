-- How reading an input ends, after the lines that were handed out.
use Rattle.std.specs.Prelude.{◌≡◌, ◌≢◌, ◌+◌, ◌<◌, ℕ, List, [], ◌∷◌, ◌++◌, length, Option}
use Rattle.std.specs.Io.KnownBytes.{IsAtEnd}
use Rattle.gnb_base.specs.Lines.{line_feed, HasNoLf}
use Rattle.gnb_base.specs.Reading.{input_limit, piece_size}
use Rattle.command_defs.specs.declared.input_defs.InputEnd.{InputEnd}
use Rattle.command_defs.specs.declared.input_defs.InputEnd.TheVariants.{ReadFault, TooLong, Memory}
use Rattle.command_defs.specs.input_defs.Split.{InputSplit}

-- With its LF, and then fewer bytes than one read asks for; or as the last line of the input.
pub data IsNext (left : Option (List ℕ)) (kept line : List ℕ) : Type 0 where
  WithLf : (rest : List ℕ) → kept ≡ line ++ line_feed ∷ rest → length rest < piece_size
      → IsNext left kept line
  AsLast : kept ≡ line → line ≢ [] → IsAtEnd left → IsNext left kept line

-- this whole line comes next
pub record ComesNext (left : Option (List ℕ)) (kept line : List ℕ) : Type 0 where
  pub without_lf : HasNoLf line
  pub next : IsNext left kept line

-- no line is there, where a header is awaited
pub record IsEmptyInput (left : Option (List ℕ)) (split : InputSplit) (place : ℕ) : Type 0 where
  pub no_line : split.lines ≡ []
  pub nothing : split.kept ≡ []
  pub at_end : IsAtEnd left
  pub first : place ≡ 1

-- the input has ended, and no byte is kept
pub record IsReadToEnd (left : Option (List ℕ)) (split : InputSplit) : Type 0 where
  pub nothing : split.kept ≡ []
  pub at_end : IsAtEnd left

-- a read failed after so many bytes, where no whole line was kept
pub record IsReadFault (split : InputSplit) (place : ℕ) : Type 0 where
  pub at : place ≡ length split.taken
  pub no_line : HasNoLf split.kept

-- the byte past the limit was taken, where no whole line was kept
pub record IsTooLong (split : InputSplit) : Type 0 where
  pub at : length split.taken ≡ input_limit + 1
  pub front : List ℕ
  pub last : ℕ
  pub parts : split.kept ≡ front ++ last ∷ []
  pub no_line : HasNoLf front

-- why no further line is read; out of memory is unspecified
abbrev pub EndsReading : InputSplit → InputEnd → Type 0
EndsReading split (ReadFault taken) = IsReadFault split taken
EndsReading split TooLong = IsTooLong split
EndsReading split Memory = Unit {0}
