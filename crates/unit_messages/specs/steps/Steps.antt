-- What the code of a row gives, against what the row's definition says. Outputs are put at the end of those that were made before.
use Rattle.std.specs.Prelude.{◌≡◌, ℕ, List, ◌++◌, Result, Ok, Err}
use Rattle.gnb_types.specs.declared.outputs.Output.{Output}
use Rattle.unit_defs.specs.Ways.{gives, spent}
use Rattle.unit_defs.specs.octet_defs.Units.{OctetAnswer}
use Rattle.unit_defs.specs.octet_defs.Writing.{outputs_of}
use Rattle.unit_messages.specs.declared.steps.StepError.{StepError}
use Rattle.unit_messages.specs.declared.steps.StepError.TheVariants as errors

-- all outputs so far and what is kept then; or a counter would pass its last value
pub data Step (R : Type 0) : Type 0 where
  stepped : (outputs : List Output) (after : R) → Step R
  stopped : (counter : ℕ) → Step R

-- an answer, after outputs that were made before
abbrev pub step_after : {R : Type 0} → List Output → OctetAnswer R → Step R
step_after before (gives outputs after) = stepped (before ++ outputs_of outputs) after
step_after before (spent counter) = stopped counter

-- The code gave this step: all outputs are these and what is kept is this; or the counter is spent. Out of memory nothing is said.
abbrev pub IsStep : {R X : Type 0} → Step R → List Output → R → Result X StepError → Type 0
IsStep step outputs after (Ok x) = step ≡ stepped outputs after
IsStep step outputs after (Err (errors.Spent counter)) = step ≡ stopped counter
IsStep step outputs after (Err errors.Memory) = Unit {0}
