-- A CU-CP as its callers see it: its record, and what it answers from then on once memory ran out or a counter was spent.
use Rattle.std.specs.Prelude.{◌≡◌, ℕ, List, [], Option, Some, None, Result, Ok, Err}
use Rattle.gnb_types.specs.declared.inputs.Input.{Input}
use Rattle.gnb_types.specs.declared.outputs.Output.{Output}
use Rattle.gnb_types.specs.declared.plans.Plan.{Plan}
use Rattle.unit_defs.specs.CuCpRecords.{CuCpRecord}
use Rattle.unit_defs.specs.Static.{cu_cp_placed}
use Rattle.unit_defs.specs.octet_defs.Codec.{Codec}
use Rattle.unit_defs.specs.octet_defs.Units.{cu_cp_steps}
use Rattle.unit_messages.specs.steps.Steps.{step_after, IsStep}
use Rattle.unit_messages.specs.declared.steps.StepError.{StepError}
use Rattle.unit_messages.specs.declared.steps.StepError.TheVariants.{Memory}

pub record ControlUnit : Type 0 where
  pub kept : CuCpRecord (List ℕ) (List ℕ)
  pub stopped : Option StepError

-- what a unit that has stopped answers, and one that goes on
abbrev pub stopped_by : {X : Type 0} → Result X StepError → Option StepError
stopped_by (Ok x) = None
stopped_by (Err e) = Some e

abbrev pub outputs_in : Result (List Output) StepError → List Output
outputs_in (Ok outputs) = outputs
outputs_in (Err e) = []

-- a step: what the tables say of its octets; or the same error as before, once there was one
abbrev pub StepsFrom : Codec → ControlUnit → Option StepError → Input → ControlUnit → Result (List Output) StepError → Type 0
StepsFrom codec before (Some e) input after result = (result ≡ Err e) × (after ≡ before)
StepsFrom codec before None input after result =
    IsStep (step_after [] (cu_cp_steps codec before.kept input)) (outputs_in result) after.kept result × (after.stopped ≡ stopped_by result)

abbrev pub StepsTo : Codec → ControlUnit → Input → ControlUnit → Result (List Output) StepError → Type 0
StepsTo codec before input after result = StepsFrom codec before before.stopped input after result

-- a terminal without an attach: it is served by the plan, or memory ran out; or the same error as before, once there was one
abbrev pub PlacesFrom : ControlUnit → Option StepError → Plan → ControlUnit → Result (Unit {0}) StepError → Type 0
PlacesFrom before (Some e) plan after result = (result ≡ Err e) × (after ≡ before)
PlacesFrom before None plan after (Ok done) = after ≡ record before { kept = cu_cp_placed before.kept plan }
PlacesFrom before None plan after (Err e) = (e ≡ Memory) × (after ≡ record before { stopped = Some Memory })

abbrev pub PlacesTo : ControlUnit → Plan → ControlUnit → Result (Unit {0}) StepError → Type 0
PlacesTo before plan after result = PlacesFrom before before.stopped plan after result
