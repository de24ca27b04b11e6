-- A row that a counter stops, over plain values.
use Rattle.std.proofs.Common.{◌≡◌, ℕ, List, sym, ap, ◌∙◌}
use Rattle.std.specs.Prelude.{Err}
use Rattle.gnb_types.specs.declared.names.UeId.{UeId}
use Rattle.gnb_types.specs.declared.outputs.Output.{Output}
use Rattle.unit_defs.specs.Ways.{Way}
use Rattle.unit_defs.specs.CuCpRecords.{CuCpRecord, Row, carry_out}
use Rattle.unit_defs.specs.CuCp.{by_row}
use Rattle.unit_messages.specs.declared.steps.StepError.{StepError}
use Rattle.unit_messages.specs.declared.steps.StepError.TheVariants as errors
use Rattle.unit_messages.specs.steps.Steps.{step_after, IsStep}
use Rattle.cu_cp_records.specs.control_actions.Rows.{RowGives}

module _ (way : Way (List ℕ) (List ℕ) (List ℕ)) (ue : UeId) (r after : CuCpRecord (List ℕ) (List ℕ)) (before outputs : List Output) where
  pub row_stops : (wanted given : Row (List ℕ)) (e : StepError) → given ≡ wanted → RowGives given (Err e)
      → IsStep {X = Unit {0}} (step_after before (by_row way ue wanted r)) outputs after (Err e)
  unfolding carry_out
  row_stops wanted given (errors.Spent counter) same is =
      ap (λ (w : Row (List ℕ)). step_after before (carry_out way ue r w)) (sym same ∙ is)
  row_stops wanted given errors.Memory same is = tt
