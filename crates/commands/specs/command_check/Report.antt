-- What the word `check` does: what checking a module came to is written.
use Rattle.std.specs.Prelude.{◌≡◌, ℕ, List, [], ◌∷◌, ◌++◌, Result, Ok, Err, codes}
use Rattle.std.specs.Fmt.{decimal}
use Rattle.gnb_base.specs.Outside.{SinkAt}
use Rattle.scenario_text.specs.declared.line.OutLine.{OutLine}
use Rattle.scenario_text.specs.Print.{◌then◌, print}
use Rattle.command_defs.specs.declared.CommonEnd.TheVariants.{WriteFault, Memory}
use Rattle.command_defs.specs.declared.Status.{Status}
use Rattle.command_defs.specs.Ends.{end_of_input}
use Rattle.command_defs.specs.Outside.{OutsideAt, CallsTo}
use Rattle.command_defs.specs.Output.{Prints, PrintsFront}
use Rattle.command_defs.specs.Statuses.{done_status, module_status, fault_line, line_status, common_status, stop_line, common_last_lines}
use Rattle.commands.specs.declared.command_check.end.CheckEnd.{CheckEnd}
use Rattle.commands.specs.declared.command_check.end.CheckEnd.TheVariants.{Checked, NoModule, Script, Common}
use Rattle.commands.specs.declared.command_check.input.CheckedModule.{CheckedModule}
use Rattle.commands.specs.declared.input_module.stop.ModuleStop.{ModuleStop}
use Rattle.commands.specs.declared.input_module.stop.ModuleStop.TheVariants as stops
use Rattle.commands.specs.command_check.Check.{ChecksInput}

-- ---- how it ends

abbrev pub check_status : CheckEnd → Status
check_status Checked = done_status
check_status (NoModule place reason) = module_status place reason
check_status (Script place reason) = line_status place reason
check_status (Common end) = common_status end

-- a `stop` line, but for a module, after a write that failed, and out of memory
abbrev pub check_last_lines : CheckEnd → List OutLine
check_last_lines Checked = []
check_last_lines (NoModule place reason) = stop_line (module_status place reason) ∷ []
check_last_lines (Script place reason) = stop_line (line_status place reason) ∷ []
check_last_lines (Common end) = common_last_lines end

-- ---- what is written

abbrev pub end_of : Result CheckedModule ModuleStop → CheckEnd
end_of (Ok checked) = Checked
end_of (Err (stops.NoModule line column reason)) = NoModule line reason
end_of (Err (stops.Script place reason)) = Script place reason
end_of (Err (stops.Input end)) = Common (end_of_input end)

-- `module NAME N`, with the number of types that have names
abbrev pub module_line : List ℕ → ℕ → List ℕ
module_line name types = codes "module" then name then decimal types ++ 10 ∷ []

-- the line of a module or of its fault; another end has none
unfoldable pub report_of : Result CheckedModule ModuleStop → List ℕ
report_of (Ok checked) = module_line checked.name checked.types
report_of (Err (stops.NoModule line column reason)) = fault_line line column reason
report_of (Err (stops.Script place reason)) = []
report_of (Err (stops.Input end)) = []

-- that line, and the `stop` line of an end that has one
abbrev pub check_text : Result CheckedModule ModuleStop → List ℕ
check_text answer = report_of answer ++ print (check_last_lines (end_of answer))

-- The text of the answer was written; or a front of it where a write failed; or nothing, out of
-- memory.
pub data PrintsAnswer (before after : SinkAt) (answer : Result CheckedModule ModuleStop) (end : CheckEnd) : Type 0 where
  Written : end ≡ end_of answer → Prints before after (check_text answer)
      → PrintsAnswer before after answer end
  Cut : end ≡ Common WriteFault → PrintsFront before after (check_text answer)
      → PrintsAnswer before after answer end
  Unwritten : end ≡ Common Memory → after ≡ before → PrintsAnswer before after answer end

-- what the input is, that it was reported, and where a call failed
pub record CheckMeets (before after : OutsideAt) (end : CheckEnd) : Type 0 where
  pub answer : Result CheckedModule ModuleStop
  pub checks : ChecksInput before.source after.source answer
  pub prints : PrintsAnswer before.sink after.sink answer end
  pub calls : CallsTo before after (check_status end).code
