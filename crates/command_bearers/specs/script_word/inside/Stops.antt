-- Internal: what a script did before its last line is written, and the writing of that line.
use Rattle.std.specs.Prelude.{◌≡◌, List, [], ◌∷◌, ℕ}
use Rattle.gnb_base.specs.Outside.{SourceAt, SinkAt}
use Rattle.command_defs.specs.input_defs.Faults.{NoReadFailed, LastReadFailed}
use Rattle.command_defs.specs.input_defs.Split.{InputSplit, rest_of, TakesInput}
use Rattle.scenario_text.specs.declared.line.OutLine.{OutLine}
use Rattle.command_defs.specs.declared.CommonEnd.TheVariants.{ReadFault, WriteFault, Memory}
use Rattle.command_defs.specs.Outside.{OutsideAt, NoWriteFailed, LastWriteFailed}
use Rattle.command_defs.specs.Output.{Prints, PrintsFront}
use Rattle.commands.specs.command_output.Writes.{WritesAll, WritesFront}
use Rattle.command_bearers.specs.declared.script_word.end.ScriptEnd.{ScriptEnd}
use Rattle.command_bearers.specs.declared.script_word.end.ScriptEnd.TheVariants.{Common}
use Rattle.command_bearers.specs.script_word.Ends.{script_last_lines, end_text}
use Rattle.command_bearers.specs.script_word.Meaning.{WordMeaning}
use Rattle.command_bearers.specs.script_word.Run.{AreEvents, EndMeets}

-- the run's text was written, or a front of it
abbrev pub PrintsTo : SinkAt → SinkAt → List ℕ → ScriptEnd → Type 0
PrintsTo before after text (Common WriteFault) = PrintsFront before after text
PrintsTo before after text (Common Memory) = PrintsFront before after text
PrintsTo before after text end = Prints before after text

abbrev pub ReadsUntil : SourceAt → SourceAt → ScriptEnd → Type 0
ReadsUntil before after (Common (ReadFault taken)) = LastReadFailed before after
ReadsUntil before after end = NoReadFailed before after

abbrev pub WritesUntil : SinkAt → SinkAt → ScriptEnd → Type 0
WritesUntil before after (Common WriteFault) = LastWriteFailed before after
WritesUntil before after end = NoWriteFailed before after

pub record RunsTo {Event : Type 0} (m : WordMeaning Event) (before after : OutsideAt) (end : ScriptEnd) : Type 0 where
  pub split : InputSplit
  pub events : List Event
  pub input : TakesInput before.source after.source split
  pub are : AreEvents m split.lines events
  pub ends : EndMeets m (rest_of before.source after.source) split events end
  pub prints : PrintsTo before.sink after.sink (m.text events) end
  pub reads : ReadsUntil before.source after.source end
  pub writes : WritesUntil before.sink after.sink end

-- There is nothing to write; or it was written; or a front of it where a write failed; or nothing, out of memory.
pub data Finishes (before after : SinkAt) (end result : ScriptEnd) : Type 0 where
  Silent : script_last_lines end ≡ [] → result ≡ end → after ≡ before → Finishes before after end result
  Written : (line : OutLine) → script_last_lines end ≡ line ∷ [] → result ≡ end → WritesAll before after (end_text end)
      → Finishes before after end result
  Cut : (line : OutLine) → script_last_lines end ≡ line ∷ [] → result ≡ Common WriteFault → WritesFront before after (end_text end)
      → Finishes before after end result
  Unwritten : (line : OutLine) → script_last_lines end ≡ line ∷ [] → result ≡ Common Memory → after ≡ before → Finishes before after end result
