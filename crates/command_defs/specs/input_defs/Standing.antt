-- Internal: where a reader of lines stands after the lines that it handed out.
use Rattle.std.specs.Prelude.{◌≡◌, ◌<◌, ℕ, List, [], ◌++◌, length, Option}
use Rattle.std.specs.List.{AllByRecursion}
use Rattle.std.specs.Io.KnownBytes.{Consumes, IsAtEnd}
use Rattle.gnb_base.specs.declared.lines.ReadPhase.TheVariants.{Going, Ended}
use Rattle.gnb_base.specs.Lines.{HasNoLf}
use Rattle.gnb_base.specs.Outside.{SourceAt}
use Rattle.gnb_base.specs.Reading.{Reading, piece_size}
use Rattle.command_defs.specs.input_defs.Faults.{NoReadFailed}
use Rattle.command_defs.specs.input_defs.Split.{InputSplit, input_split, rest_of, joined, Divides}

-- what was taken, handed out and kept
abbrev pub split_of : Reading → List ℕ → List (List ℕ) → InputSplit
split_of reading taken lines = input_split taken lines reading.kept

-- It keeps the bytes after the lines; or the input has ended, and it keeps none.
pub data Stands (left : Option (List ℕ)) (reading : Reading) (taken : List ℕ) (lines : List (List ℕ)) : Type 0 where
  Within : reading.phase ≡ Going → taken ≡ joined lines ++ reading.kept
      → Stands left reading taken lines
  AtEnd : reading.phase ≡ Ended → reading.kept ≡ [] → IsAtEnd left
      → Divides left (split_of reading taken lines)
      → Stands left reading taken lines

-- these bytes were taken, these lines handed out of them, and no read failed
pub record StandsAfter (before after : SourceAt) (reading : Reading) (taken : List ℕ) (lines : List (List ℕ)) : Type 0 where
  pub consumes : Consumes before.left after.left taken
  pub each : AllByRecursion HasNoLf lines
  pub stands : Stands (rest_of before after) reading taken lines
  pub bytes : reading.taken ≡ length taken
  pub count : reading.lines ≡ length lines
  pub few : length reading.kept < piece_size
  pub reads : NoReadFailed before after
