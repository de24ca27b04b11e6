-- The statuses that each word has, and the line that reports one.
use Rattle.std.specs.Prelude.{ℕ, List, [], ◌∷◌, ◌++◌, codes}
use Rattle.std.specs.Fmt.{decimal}
use Rattle.asn1_syntax.specs.declared.types.fault.ModuleReason.{ModuleReason}
use Rattle.asn1_syntax.specs.declared.types.fault.ModuleReason.TheVariants.{Token, Form, Unknown, Twice, Recursive, OutOfProfile, Bounds, Deep, Truncated}
use Rattle.scenario_text.specs.declared.script_words.reason.TextReason.{TextReason}
use Rattle.scenario_text.specs.declared.script_words.reason.TextReason.TheVariants.{Word, Number, Hex, Extra, Name}
use Rattle.scenario_text.specs.declared.line.OutLine.{OutLine}
use Rattle.scenario_text.specs.declared.line.OutLine.TheVariants as lines
use Rattle.scenario_text.specs.Print.{◌then◌}
use Rattle.command_defs.specs.declared.CommonEnd.{CommonEnd}
use Rattle.command_defs.specs.declared.CommonEnd.TheVariants.{ReadFault, TooLong, WriteFault, Memory}
use Rattle.command_defs.specs.declared.Status.{Status}

-- all was done
abbrev pub done_status : Status
done_status = record { code = 0; place = 0; reason = 0 }

-- the words are no form of the program
abbrev pub usage_status : Status
usage_status = record { code = 2; place = 0; reason = 0 }

-- the number of a reason
abbrev pub reason_code : TextReason → ℕ
reason_code Word = 1
reason_code Number = 2
reason_code Hex = 3
reason_code Extra = 4
reason_code Name = 5

-- the number of a reason why a text is no module
abbrev pub module_reason_code : ModuleReason → ℕ
module_reason_code Token = 1
module_reason_code Form = 2
module_reason_code Unknown = 3
module_reason_code Twice = 4
module_reason_code Recursive = 5
module_reason_code OutOfProfile = 6
module_reason_code Bounds = 7
module_reason_code Deep = 8
module_reason_code Truncated = 9

-- the text is no module; its first fault stands in the line at this place
abbrev pub module_status : ℕ → ModuleReason → Status
module_status place reason = record { code = 3; place = place; reason = module_reason_code reason }

-- `module LINE COLUMN REASON`
abbrev pub fault_line : ℕ → ℕ → ModuleReason → List ℕ
fault_line line column reason =
    codes "module" then decimal line then decimal column then decimal (module_reason_code reason) ++ 10 ∷ []

-- the line at a place is wrong
abbrev pub line_status : ℕ → TextReason → Status
line_status place reason = record { code = 4; place = place; reason = reason_code reason }

-- after a step of the event at this line more COUNTs of a bearer are outstanding than may be
abbrev pub outstanding_status : ℕ → Status
outstanding_status place = record { code = 5; place = place; reason = 0 }

-- in a step of the event at this line a counter would pass its last value
abbrev pub spent_status : ℕ → ℕ → Status
spent_status place counter = record { code = 10; place = place; reason = counter }

abbrev pub common_status : CommonEnd → Status
common_status (ReadFault taken) = record { code = 6; place = taken; reason = 0 }
common_status WriteFault = record { code = 7; place = 0; reason = 0 }
common_status Memory = record { code = 9; place = 0; reason = 0 }
common_status TooLong = record { code = 11; place = 16777217; reason = 0 }

abbrev pub stop_line : Status → OutLine
stop_line status = lines.Stop status.code status.place status.reason

-- the last line of the output; after a write that failed, and out of memory, nothing is written
abbrev pub common_last_lines : CommonEnd → List OutLine
common_last_lines (ReadFault taken) = stop_line (common_status (ReadFault taken)) ∷ []
common_last_lines TooLong = stop_line (common_status TooLong) ∷ []
common_last_lines WriteFault = []
common_last_lines Memory = []
