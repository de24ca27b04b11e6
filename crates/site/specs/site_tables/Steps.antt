-- A step of one unit, as a step of the table that it stands in.
use Rattle.std.specs.Prelude.{◌≡◌, List, Option, None, Result, Ok, Err}
use Rattle.gnb_types.specs.declared.outputs.Output.{Output}
use Rattle.unit_messages.specs.declared.steps.StepError.{StepError}
use Rattle.unit_messages.specs.declared.steps.StepError.TheVariants as errors
use Rattle.unit_messages.specs.steps.Steps.{Step, stepped, stopped}

-- what a unit keeps of the table of rows, and why it is of no use, if it isn't
pub record Kind (X R : Type 0) : Type 0 where
  pub kept : X → R
  pub failure : X → Option StepError

-- The unit makes this step, works on, and is put back: its table is then the new one. Or its counter is spent; out of memory nothing is said.
abbrev pub Steps : {X R M : Type 0} → Kind X R → Step R → (X → M) → M → Result (List Output) StepError → Type 0
Steps {X = X} kind step put_back new (Ok outputs) =
    (x : X) × (kind.failure x ≡ None) × (step ≡ stepped outputs (kind.kept x)) × (new ≡ put_back x)
Steps kind step put_back new (Err (errors.Spent counter)) = step ≡ stopped counter
Steps kind step put_back new (Err errors.Memory) = Unit {0}
