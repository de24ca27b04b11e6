-- A stop at a line: how far past it the source was read.
use Rattle.std.specs.Prelude.{◌+◌, ◌<◌, min, ℕ, List, length, take, Option, Some}
use Rattle.std.specs.Io.KnownBytes.{Consumes}
use Rattle.gnb_base.specs.Lines.{lines_of}
use Rattle.gnb_base.specs.Reading.{piece_size}
use Rattle.command_defs.specs.input_defs.Split.{joined}

-- where the line with this number ends in the bytes, with its LF
abbrev pub end_of_line : List ℕ → ℕ → ℕ
end_of_line bytes place = min (length bytes) (length (joined (take place (lines_of bytes))))

-- Of a source that reported these bytes at first, fewer were taken past the end of this line than
-- one read asks for.
pub record StopsNear (bytes : List ℕ) (left : Option (List ℕ)) (place : ℕ) : Type 0 where
  pub taken : List ℕ
  pub consumes : Consumes (Some bytes) left taken
  pub near : length taken < end_of_line bytes place + piece_size
