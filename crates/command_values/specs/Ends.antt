-- How these words end, what status reports it, and what is written then.
use Rattle.std.specs.Prelude.{◌≡◌, ◌⊎◌, ℕ, List, [], ◌∷◌, ◌++◌, Some, codes}
use Rattle.std.specs.Fmt.{decimal}
use Rattle.gnb_base.specs.Outside.{SourceAt}
use Rattle.command_defs.specs.input_defs.Near.{StopsNear}
use Rattle.asn1_syntax.specs.declared.types.fault.ModuleReason.TheVariants.{Unknown}
use Rattle.scenario_text.specs.declared.line.OutLine.{OutLine}
use Rattle.scenario_text.specs.Print.{◌then◌, print}
use Rattle.command_defs.specs.declared.Status.{Status}
use Rattle.command_defs.specs.Statuses.{done_status, module_status, fault_line, line_status, common_status, stop_line, common_last_lines}
use Rattle.command_values.specs.declared.answer.Wrong.{Wrong}
use Rattle.command_values.specs.declared.end.Stop.{Stop}
use Rattle.command_values.specs.declared.end.Stop.TheVariants.{NoModule, NoType, Script, Value}
use Rattle.command_values.specs.declared.end.ValuesEnd.{ValuesEnd}
use Rattle.command_values.specs.declared.end.ValuesEnd.TheVariants.{Done, Stopped, Common}

-- the value of the line at a place is refused
abbrev pub wrong_status : ℕ → Wrong → Status
wrong_status place wrong = record { code = 8; place = place; reason = wrong.reason }

-- a name that is no type's is an unknown one, at no place
abbrev pub stop_status : Stop → Status
stop_status (NoModule line column reason) = module_status line reason
stop_status NoType = module_status 0 Unknown
stop_status (Script place reason) = line_status place reason
stop_status (Value place wrong) = wrong_status place wrong

abbrev pub values_status : ValuesEnd → Status
values_status Done = done_status
values_status (Stopped stop) = stop_status stop
values_status (Common end) = common_status end

-- `wrong BIT REASON PATH`
abbrev pub wrong_line : Wrong → List ℕ
wrong_line wrong = codes "wrong" then decimal wrong.bit then decimal wrong.reason then wrong.path ++ 10 ∷ []

-- what is wrong with the module, `module 0 0 3` where it has no such type, or with a value
abbrev pub report_of : Stop → List ℕ
report_of (NoModule line column reason) = fault_line line column reason
report_of NoType = fault_line 0 0 Unknown
report_of (Script place reason) = []
report_of (Value place wrong) = wrong_line wrong

-- a `stop` line; after the input's end, after a write that failed, and out of memory, nothing is written
abbrev pub values_last_lines : ValuesEnd → List OutLine
values_last_lines Done = []
values_last_lines (Stopped stop) = stop_line (stop_status stop) ∷ []
values_last_lines (Common end) = common_last_lines end

abbrev pub values_report : ValuesEnd → List ℕ
values_report Done = []
values_report (Stopped stop) = report_of stop
values_report (Common end) = []

-- all that is written at the end
abbrev pub end_text : ValuesEnd → List ℕ
end_text end = values_report end ++ print (values_last_lines end)

-- At a stop at a line, of a source that reported its bytes fewer were taken past the line's end than one read asks for.
abbrev pub StopsAtValue : SourceAt → SourceAt → Status → Type 0
StopsAtValue before after status =
    (bytes : List ℕ) → before.left ≡ Some bytes → (status.code ≡ 4) ⊎ (status.code ≡ 8) → StopsNear bytes after.left status.place
