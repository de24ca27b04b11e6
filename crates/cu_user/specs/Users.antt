-- A CU-UP, and what its calls leave.
use Rattle.std.specs.Prelude.{ℕ, List, [], Option, Some, None, Result, Ok, Err}
use Rattle.gnb_types.specs.declared.names.Gnb.{Gnb}
use Rattle.gnb_types.specs.declared.outputs.Output.{Output}
use Rattle.unit_defs.specs.CuUp.{new_cu_up}
use Rattle.unit_messages.specs.declared.steps.StepError.{StepError}
use Rattle.cu_up_contexts.specs.declared.contexts.placing.PlaceError.{PlaceError}
use Rattle.cu_up_contexts.specs.declared.contexts.placing.PlaceError.TheVariants as errors
use Rattle.cu_up_contexts.specs.contexts.Tables.{OctetUp}

-- its record, and why it is of no use, if it isn't
pub record User : Type 0 where
  pub up : OctetUp
  pub failure : Option StepError

abbrev pub new_user : Gnb → ℕ → User
new_user gnb number = record { up = new_cu_up gnb number; failure = None }

-- the outputs that were made, if all went well
abbrev pub outputs_in : Result (List Output) StepError → List Output
outputs_in (Ok outputs) = outputs
outputs_in (Err error) = []

-- an error is kept
abbrev pub failure_in : {X : Type 0} → Result X StepError → Option StepError
failure_in (Ok x) = None
failure_in (Err error) = Some error

-- so is that of a terminal which could not be placed, where blocks were there
abbrev pub placing_failure_in : {X : Type 0} → Result X PlaceError → Option StepError
placing_failure_in (Ok x) = None
placing_failure_in (Err errors.NoQuota) = None
placing_failure_in (Err (errors.Step error)) = Some error
