-- A DU, and what its calls leave.
use Rattle.std.specs.Prelude.{ℕ, List, [], Option, Some, None, Result, Ok, Err}
use Rattle.gnb_types.specs.declared.names.Gnb.{Gnb}
use Rattle.gnb_types.specs.declared.outputs.Output.{Output}
use Rattle.unit_defs.specs.Du.{new_du}
use Rattle.unit_messages.specs.declared.steps.StepError.{StepError}
use Rattle.du_contexts.specs.Tables.{OctetDu}

-- its record, and why it is of no use, if it isn't
pub record Node : Type 0 where
  pub du : OctetDu
  pub failure : Option StepError

abbrev pub new_node : Gnb → ℕ → Node
new_node gnb number = record { du = new_du gnb number; failure = None }

-- the outputs that were made, if all went well
abbrev pub outputs_in : Result (List Output) StepError → List Output
outputs_in (Ok outputs) = outputs
outputs_in (Err error) = []

-- an error is kept
abbrev pub failure_in : {X : Type 0} → Result X StepError → Option StepError
failure_in (Ok x) = None
failure_in (Err error) = Some error
