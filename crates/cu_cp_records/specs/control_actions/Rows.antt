-- The rows of the code, as the definitions have them.
use Rattle.std.specs.Prelude.{◌≡◌, ℕ, List, map, Option, Some, None, Result, Ok, Err}
use Rattle.unit_defs.specs.CuCpRecords as cp
use Rattle.unit_messages.specs.Messages.{message_as}
use Rattle.unit_messages.specs.declared.steps.StepError.{StepError}
use Rattle.unit_messages.specs.declared.steps.StepError.TheVariants as errors
use Rattle.cu_cp_records.specs.declared.control_actions.actions.Action.{Action}
use Rattle.cu_cp_records.specs.declared.control_actions.actions.Action.TheVariants.{Ask, Cancel, Reply, ReplyLate, Send, Fail, Ignore, Refuse, Forget}
use Rattle.cu_cp_records.specs.declared.control_actions.row.Row.{Row}

abbrev pub action_as : Action → cp.Action (List ℕ)
action_as (Ask to message deadline awaited) = cp.asks to (message_as message) deadline awaited
action_as (Cancel to message) = cp.cancels to (message_as message)
action_as (Reply to message) = cp.replies to (message_as message)
action_as (ReplyLate to instance message) = cp.replies_late to instance (message_as message)
action_as (Send to message) = cp.sends to (message_as message)
action_as (Fail cause) = cp.fails cause
action_as (Ignore reason) = cp.ignores reason
action_as (Refuse reason) = cp.refuses reason
action_as Forget = cp.forgets

abbrev pub row_as : Row → cp.Row (List ℕ)
row_as r = cp.row (map action_as r.actions) r.after

-- the code gives the row, or the counter that stops it; out of memory nothing is said
abbrev pub RowGives : cp.Row (List ℕ) → Result Row StepError → Type 0
RowGives wanted (Ok r) = wanted ≡ row_as r
RowGives wanted (Err (errors.Spent counter)) = wanted ≡ cp.row_spent counter
RowGives wanted (Err errors.Memory) = Unit {0}

-- the same where a message may name no row
abbrev pub SomeRowGives : Option (cp.Row (List ℕ)) → Result (Option Row) StepError → Type 0
SomeRowGives wanted (Ok (Some r)) = wanted ≡ Some (row_as r)
SomeRowGives wanted (Ok None) = wanted ≡ None
SomeRowGives wanted (Err (errors.Spent counter)) = wanted ≡ Some (cp.row_spent counter)
SomeRowGives wanted (Err errors.Memory) = Unit {0}
