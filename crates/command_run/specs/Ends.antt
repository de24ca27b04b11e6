-- How a run ends, what status reports it, and what is written then.
use Rattle.std.specs.Prelude.{◌≡◌, ◌⊎◌, ℕ, List, [], ◌∷◌, ◌++◌, codes, Some}
use Rattle.gnb_base.specs.Outside.{SourceAt}
use Rattle.command_defs.specs.input_defs.Near.{StopsNear}
use Rattle.scenario_text.specs.declared.line.OutLine.{OutLine}
use Rattle.scenario_text.specs.declared.line.OutLine.TheVariants as lines
use Rattle.scenario_text.specs.Print.{◌then◌, print}
use Rattle.command_defs.specs.declared.Status.{Status}
use Rattle.command_defs.specs.Statuses.{done_status, module_status, fault_line, line_status, outstanding_status, spent_status, common_status, stop_line, common_last_lines}
use Rattle.command_defs.specs.declared.CommonEnd.TheVariants.{Memory}
use Rattle.world_steps.specs.declared.cause.Cause.{Cause}
use Rattle.world_steps.specs.declared.cause.Cause.TheVariants as causes
use Rattle.command_run.specs.declared.end.RunEnd.{RunEnd}
use Rattle.run_links.specs.Told.{outstanding_line}
use Rattle.command_run.specs.declared.end.RunEnd.TheVariants.{Done, NoModule, Differs, Script, Outstanding, Spent, Common}

-- a module isn't the profile's
abbrev pub differs_status : Status
differs_status = record { code = 3; place = 0; reason = 20 }

abbrev pub run_status : RunEnd → Status
run_status (Done events) = done_status
run_status (NoModule line column reason) = module_status line reason
run_status (Differs name) = differs_status
run_status (Script place reason) = line_status place reason
run_status (Outstanding place span) = outstanding_status place
run_status (Spent place counter) = spent_status place counter
run_status (Common end) = common_status end

-- `differs NAME`
abbrev pub differs_line : List ℕ → List ℕ
differs_line name = codes "differs" then name ++ 10 ∷ []

-- what is wrong with the module, its first fault or the first name by which it differs; or which bearer is outstanding
abbrev pub report_of : RunEnd → List ℕ
report_of (Done events) = []
report_of (NoModule line column reason) = fault_line line column reason
report_of (Differs name) = differs_line name
report_of (Script place reason) = []
report_of (Outstanding place span) = print (outstanding_line span ∷ [])
report_of (Spent place counter) = []
report_of (Common end) = []

-- the end of a script whose run stops for this cause in the event at this line
abbrev pub end_at : ℕ → Cause → RunEnd
end_at place (causes.Outstanding o) = Outstanding place o
end_at place (causes.Spent counter) = Spent place counter
end_at place causes.Memory = Common Memory

-- `end N`, or a `stop` line; after a write that failed, and out of memory, nothing is written
abbrev pub run_last_lines : RunEnd → List OutLine
run_last_lines (Done events) = lines.End events ∷ []
run_last_lines (NoModule line column reason) = stop_line (module_status line reason) ∷ []
run_last_lines (Differs name) = stop_line differs_status ∷ []
run_last_lines (Script place reason) = stop_line (line_status place reason) ∷ []
run_last_lines (Outstanding place span) = stop_line (outstanding_status place) ∷ []
run_last_lines (Spent place counter) = stop_line (spent_status place counter) ∷ []
run_last_lines (Common end) = common_last_lines end

-- all that is written at the end
abbrev pub end_text : RunEnd → List ℕ
end_text end = report_of end ++ print (run_last_lines end)

-- At a stop at a line, of a source that reported its bytes fewer were taken past the line's end than one read asks for.
abbrev pub StopsAtEvent : SourceAt → SourceAt → Status → Type 0
StopsAtEvent before after status =
    (bytes : List ℕ) → before.left ≡ Some bytes → (status.code ≡ 4) ⊎ ((status.code ≡ 5) ⊎ (status.code ≡ 10))
    → StopsNear bytes after.left status.place
