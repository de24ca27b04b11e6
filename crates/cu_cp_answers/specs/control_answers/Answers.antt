-- What an answer of the code is to an attempt, as the definitions have it.
use Rattle.std.specs.Prelude.{◌≡◌, ℕ, Bool, true, false, List, Option, Some, None, Result, Ok, Err}
use Rattle.gnb_types.specs.declared.plans.Tunnel.{Tunnel}
use Rattle.unit_defs.specs.Ways.{Way}
use Rattle.unit_defs.specs.CuCpRecords as cp
use Rattle.unit_defs.specs.CuCp as rows
use Rattle.unit_messages.specs.declared.steps.StepError.{StepError}
use Rattle.unit_messages.specs.declared.steps.StepError.TheVariants as errors
use Rattle.cu_cp_records.specs.declared.control_actions.row.Row.{Row}
use Rattle.cu_cp_records.specs.control_actions.Rows.{row_as}
use Rattle.cu_cp_answers.specs.declared.control_answers.states.Answered.{Answered}
use Rattle.cu_cp_answers.specs.declared.control_answers.states.Answered.TheVariants as code

abbrev pub some_row_as : Option Row → Option (cp.Row (List ℕ))
some_row_as None = None
some_row_as (Some r) = Some (row_as r)

-- the code gives what the answer is, or the counter that stops its row; out of memory nothing is said
abbrev pub AnswerGives : (way : Way (List ℕ) (List ℕ) (List ℕ)) → rows.Answered way → Result Answered StepError → Type 0
AnswerGives way wanted (Ok code.NotAwaited) = wanted ≡ rows.answers_none
AnswerGives way wanted (Ok (code.Awaited taken)) = wanted ≡ rows.answers_with (some_row_as taken)
AnswerGives way wanted (Err (errors.Spent counter)) = wanted ≡ rows.answers_with (Some (cp.row_spent counter))
AnswerGives way wanted (Err errors.Memory) = Unit {0}

-- tunnels that name the bearers of their context, and their copy
pub record AreCopied (name : Bool) (tunnels copy : List Tunnel) : Type 0 where
  pub named : name ≡ true
  pub same : copy ≡ tunnels

-- a copy of the tunnels where they name the bearers of their context, and none where they don't
abbrev pub CopiesNamed : Bool → List Tunnel → Option (List Tunnel) → Type 0
CopiesNamed named tunnels None = named ≡ false
CopiesNamed named tunnels (Some copy) = AreCopied named tunnels copy
