-- What writing does to a sink.
use Rattle.std.specs.Prelude.{◌≡◌, ℕ, List, Result, Ok, Err}
use Rattle.gnb_base.specs.Outside.{SinkAt}
use Rattle.gnb_base.specs.declared.outside.Failed.{Failed}
use Rattle.scenario_text.specs.declared.line.OutLine.{OutLine}
use Rattle.scenario_text.specs.Print.{print}
use Rattle.command_defs.specs.declared.CommonEnd.{CommonEnd}
use Rattle.command_defs.specs.declared.CommonEnd.TheVariants.{ReadFault, TooLong, WriteFault, Memory}
use Rattle.command_defs.specs.Outside.{NoWriteFailed, LastWriteFailed}
use Rattle.command_defs.specs.Output.{Prints, PrintsFront}

-- all of the text was written
pub record WritesAll (before after : SinkAt) (text : List ℕ) : Type 0 where
  pub prints : Prints before after text
  pub none : NoWriteFailed before after

-- a front of it was written, up to the write that failed
pub record WritesFront (before after : SinkAt) (text : List ℕ) : Type 0 where
  pub prints : PrintsFront before after text
  pub last : LastWriteFailed before after

abbrev pub WritesText : SinkAt → SinkAt → List ℕ → Result (Unit {0}) Failed → Type 0
WritesText before after text (Ok done) = WritesAll before after text
WritesText before after text (Err failed) = WritesFront before after text

-- the same of lines; out of memory nothing is written
abbrev pub WritesLines : SinkAt → SinkAt → List OutLine → Result (Unit {0}) CommonEnd → Type 0
WritesLines before after lines (Ok done) = WritesAll before after (print lines)
WritesLines before after lines (Err WriteFault) = WritesFront before after (print lines)
WritesLines before after lines (Err Memory) = after ≡ before
WritesLines before after lines (Err (ReadFault taken)) = ⊥
WritesLines before after lines (Err TooLong) = ⊥
