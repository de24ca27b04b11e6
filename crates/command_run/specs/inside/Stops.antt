-- Internal: what a run did before its last line is written, and the writing of that line.
use Rattle.std.specs.Prelude.{◌≡◌, ℕ, List, [], ◌∷◌}
use Rattle.gnb_base.specs.Outside.{SourceAt, SinkAt}
use Rattle.command_defs.specs.input_defs.Faults.{NoReadFailed, LastReadFailed}
use Rattle.command_defs.specs.input_defs.Split.{InputSplit, rest_of, TakesInput}
use Rattle.scenario_text.specs.declared.event.Event.{Event}
use Rattle.scenario_text.specs.declared.line.OutLine.{OutLine}
use Rattle.command_defs.specs.declared.CommonEnd.TheVariants.{ReadFault, WriteFault, Memory}
use Rattle.commands.specs.declared.input_module.stop.ModuleStop.{ModuleStop}
use Rattle.commands.specs.declared.input_module.stop.ModuleStop.TheVariants as stops
use Rattle.command_defs.specs.Ends.{end_of_input}
use Rattle.command_defs.specs.Outside.{OutsideAt, NoWriteFailed, LastWriteFailed}
use Rattle.command_defs.specs.Output.{Prints, PrintsFront}
use Rattle.commands.specs.command_output.Writes.{WritesAll, WritesFront}
use Rattle.command_run.specs.declared.end.RunEnd.{RunEnd}
use Rattle.command_run.specs.declared.end.RunEnd.TheVariants.{NoModule, Script, Common}
use Rattle.command_run.specs.Ends.{run_last_lines, end_text}
use Rattle.command_run.specs.Run.{Setting, AreScript, RunEndMeets, run_text}

-- the run's text was written, or a front of it
abbrev pub PrintsTo : SinkAt → SinkAt → List ℕ → RunEnd → Type 0
PrintsTo before after text (Common WriteFault) = PrintsFront before after text
PrintsTo before after text (Common Memory) = PrintsFront before after text
PrintsTo before after text end = Prints before after text

abbrev pub ReadsUntil : SourceAt → SourceAt → RunEnd → Type 0
ReadsUntil before after (Common (ReadFault taken)) = LastReadFailed before after
ReadsUntil before after end = NoReadFailed before after

abbrev pub WritesUntil : SinkAt → SinkAt → RunEnd → Type 0
WritesUntil before after (Common WriteFault) = LastWriteFailed before after
WritesUntil before after end = NoWriteFailed before after

-- the end of a run whose module was not taken
abbrev pub end_of_stop : ModuleStop → RunEnd
end_of_stop (stops.NoModule line column reason) = NoModule line column reason
end_of_stop (stops.Script place reason) = Script place reason
end_of_stop (stops.Input end) = Common (end_of_input end)

pub record RunsTo (setting : Setting) (before after : OutsideAt) (end : RunEnd) : Type 0 where
  pub split : InputSplit
  pub events : List Event
  pub input : TakesInput before.source after.source split
  pub script : AreScript (rest_of before.source after.source) split events
  pub ends : RunEndMeets setting (rest_of before.source after.source) split events end
  pub prints : PrintsTo before.sink after.sink (run_text setting events) end
  pub reads : ReadsUntil before.source after.source end
  pub writes : WritesUntil before.sink after.sink end

-- There is nothing to write; or it was written; or a front of it where a write failed; or nothing, out of memory.
pub data Finishes (before after : SinkAt) (end result : RunEnd) : Type 0 where
  Silent : run_last_lines end ≡ [] → result ≡ end → after ≡ before → Finishes before after end result
  Written : (line : OutLine) → run_last_lines end ≡ line ∷ [] → result ≡ end → WritesAll before after (end_text end)
      → Finishes before after end result
  Cut : (line : OutLine) → run_last_lines end ≡ line ∷ [] → result ≡ Common WriteFault → WritesFront before after (end_text end)
      → Finishes before after end result
  Unwritten : (line : OutLine) → run_last_lines end ≡ line ∷ [] → result ≡ Common Memory → after ≡ before → Finishes before after end result
