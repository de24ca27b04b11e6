-- The next line of an input, or why there is none.
use Rattle.std.specs.Prelude.{◌≡◌, ℕ, Option, Result, Ok, Err}
use Rattle.gnb_base.specs.declared.lines.Line.{Line}
use Rattle.gnb_base.specs.declared.lines.ReadError.{ReadError}
use Rattle.gnb_base.specs.declared.lines.ReadError.TheVariants as errors
use Rattle.gnb_base.specs.Outside.{SourceAt}
use Rattle.gnb_base.specs.Reading.{Reading, NextMeets}
use Rattle.command_defs.specs.declared.input_defs.InputEnd.{InputEnd}
use Rattle.command_defs.specs.declared.input_defs.InputEnd.TheVariants.{ReadFault, TooLong, Memory}

-- how the reading ends of a reader that took so many bytes
abbrev pub end_of_read : ReadError → ℕ → InputEnd
end_of_read errors.ReadFault taken = ReadFault taken
end_of_read errors.TooLong taken = TooLong
end_of_read errors.Memory taken = Memory

-- no line could be handed out
pub record StopsReading (old new : Reading) (before after : SourceAt) (end : InputEnd) : Type 0 where
  pub error : ReadError
  pub meets : NextMeets old new before after (Err error)
  pub same : end ≡ end_of_read error new.taken

abbrev pub ReadsLine : Reading → Reading → SourceAt → SourceAt → Result (Option Line) InputEnd
    → Type 0
ReadsLine old new before after (Ok line) = NextMeets old new before after (Ok line)
ReadsLine old new before after (Err end) = StopsReading old new before after end
