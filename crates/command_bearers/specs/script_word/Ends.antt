-- How a script ends, what status reports it, and what is written then.
use Rattle.std.specs.Prelude.{◌≡◌, ◌⊎◌, ℕ, List, [], ◌∷◌, Some}
use Rattle.gnb_base.specs.Outside.{SourceAt}
use Rattle.command_defs.specs.input_defs.Near.{StopsNear}
use Rattle.scenario_text.specs.declared.line.OutLine.{OutLine}
use Rattle.scenario_text.specs.declared.line.OutLine.TheVariants as lines
use Rattle.scenario_text.specs.Print.{print}
use Rattle.command_defs.specs.declared.Status.{Status}
use Rattle.command_defs.specs.Statuses.{done_status, line_status, outstanding_status, spent_status, common_status, stop_line, common_last_lines}
use Rattle.command_bearers.specs.declared.script_word.end.StopCause.{StopCause}
use Rattle.command_bearers.specs.declared.script_word.end.StopCause.TheVariants.{Outstanding, Spent}
use Rattle.command_bearers.specs.declared.script_word.end.ScriptEnd.{ScriptEnd}
use Rattle.command_bearers.specs.declared.script_word.end.ScriptEnd.TheVariants.{Done, Script, Stopped, Common}

abbrev pub stop_status : ℕ → StopCause → Status
stop_status place Outstanding = outstanding_status place
stop_status place (Spent counter) = spent_status place counter

abbrev pub script_status : ScriptEnd → Status
script_status (Done events) = done_status
script_status (Script place reason) = line_status place reason
script_status (Stopped place cause) = stop_status place cause
script_status (Common end) = common_status end

-- `end N`, or a `stop` line; after a write that failed, and out of memory, nothing is written
abbrev pub script_last_lines : ScriptEnd → List OutLine
script_last_lines (Done events) = lines.End events ∷ []
script_last_lines (Script place reason) = stop_line (line_status place reason) ∷ []
script_last_lines (Stopped place cause) = stop_line (stop_status place cause) ∷ []
script_last_lines (Common end) = common_last_lines end

abbrev pub end_text : ScriptEnd → List ℕ
end_text end = print (script_last_lines end)

-- At a stop at a line, of a source that reported its bytes fewer were taken past the line's end than one read asks for.
abbrev pub StopsAtEvent : SourceAt → SourceAt → Status → Type 0
StopsAtEvent before after status =
    (bytes : List ℕ) → before.left ≡ Some bytes → (status.code ≡ 4) ⊎ ((status.code ≡ 5) ⊎ (status.code ≡ 10))
    → StopsNear bytes after.left status.place
