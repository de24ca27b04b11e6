-- Internal: what was done before the last line is written, and the writing of that line.
use Rattle.std.specs.Prelude.{◌≡◌, List, [], ◌∷◌, ℕ}
use Rattle.gnb_base.specs.Outside.{SourceAt, SinkAt}
use Rattle.command_defs.specs.input_defs.Faults.{NoReadFailed, LastReadFailed}
use Rattle.command_defs.specs.input_defs.Split.{InputSplit, rest_of, joined, TakesInput}
use Rattle.commands.specs.declared.input_module.stop.ModuleStop.{ModuleStop}
use Rattle.commands.specs.declared.input_module.stop.ModuleStop.TheVariants as stops
use Rattle.scenario_text.specs.declared.line.OutLine.{OutLine}
use Rattle.command_defs.specs.declared.CommonEnd.TheVariants.{ReadFault, WriteFault, Memory}
use Rattle.command_defs.specs.Ends.{end_of_input}
use Rattle.command_defs.specs.Outside.{OutsideAt, NoWriteFailed, LastWriteFailed}
use Rattle.command_defs.specs.Output.{Prints, PrintsFront}
use Rattle.commands.specs.command_output.Writes.{WritesAll, WritesFront}
use Rattle.command_values.specs.declared.end.Stop.TheVariants.{NoModule, Script}
use Rattle.command_values.specs.declared.end.ValuesEnd.{ValuesEnd}
use Rattle.command_values.specs.declared.end.ValuesEnd.TheVariants.{Stopped, Common}
use Rattle.command_values.specs.Ends.{values_last_lines, end_text}
use Rattle.command_values.specs.Values.{Job, AreValues, ValuesEndMeets}

-- the answers were written, or a front of them
abbrev pub PrintsTo : SinkAt → SinkAt → List ℕ → ValuesEnd → Type 0
PrintsTo before after text (Common WriteFault) = PrintsFront before after text
PrintsTo before after text (Common Memory) = PrintsFront before after text
PrintsTo before after text end = Prints before after text

abbrev pub ReadsUntil : SourceAt → SourceAt → ValuesEnd → Type 0
ReadsUntil before after (Common (ReadFault taken)) = LastReadFailed before after
ReadsUntil before after end = NoReadFailed before after

abbrev pub WritesUntil : SinkAt → SinkAt → ValuesEnd → Type 0
WritesUntil before after (Common WriteFault) = LastWriteFailed before after
WritesUntil before after end = NoWriteFailed before after

-- the end where no module was taken
abbrev pub end_of_stop : ModuleStop → ValuesEnd
end_of_stop (stops.NoModule line column reason) = Stopped (NoModule line column reason)
end_of_stop (stops.Script place reason) = Stopped (Script place reason)
end_of_stop (stops.Input end) = Common (end_of_input end)

pub record RunsTo (job : Job) (before after : OutsideAt) (end : ValuesEnd) : Type 0 where
  pub split : InputSplit
  pub texts : List (List ℕ)
  pub input : TakesInput before.source after.source split
  pub values : AreValues job (rest_of before.source after.source) split texts
  pub ends : ValuesEndMeets job (rest_of before.source after.source) split texts end
  pub prints : PrintsTo before.sink after.sink (joined texts) end
  pub reads : ReadsUntil before.source after.source end
  pub writes : WritesUntil before.sink after.sink end

-- There is nothing to write; or it was written; or a front of it where a write failed; or nothing, out of memory.
pub data Finishes (before after : SinkAt) (end result : ValuesEnd) : Type 0 where
  Silent : values_last_lines end ≡ [] → result ≡ end → after ≡ before → Finishes before after end result
  Written : (line : OutLine) → values_last_lines end ≡ line ∷ [] → result ≡ end → WritesAll before after (end_text end)
      → Finishes before after end result
  Cut : (line : OutLine) → values_last_lines end ≡ line ∷ [] → result ≡ Common WriteFault → WritesFront before after (end_text end)
      → Finishes before after end result
  Unwritten : (line : OutLine) → values_last_lines end ≡ line ∷ [] → result ≡ Common Memory → after ≡ before
      → Finishes before after end result
