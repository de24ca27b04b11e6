-- Answers to the unit's own requests, over plain values.
use Rattle.std.proofs.Common.{◌≡◌, ℕ, List, sym, ap, ◌∙◌, subst}
use Rattle.std.specs.Prelude.{Option, Some, Result, Ok, Err}
use Rattle.gnb_types.specs.declared.names.UeId.{UeId}
use Rattle.gnb_types.specs.declared.keys.Channel.{Channel}
use Rattle.gnb_types.specs.declared.outputs.Output.{Output}
use Rattle.unit_defs.specs.Ways.{Message}
use Rattle.unit_defs.specs.CuCpRecords.{CuCpRecord, Row, carry_out}
use Rattle.unit_defs.specs.CuCp.{Answered, answers_with, closed_at, put_next, answered_by}
use Rattle.unit_defs.specs.octet_defs.Codec.{Codec, octet_way}
use Rattle.unit_messages.specs.declared.steps.StepError.{StepError}
use Rattle.unit_messages.specs.declared.steps.StepError.TheVariants as errors
use Rattle.unit_messages.specs.steps.Steps.{Step, stepped, step_after, IsStep}
use Rattle.unit_requests.proofs.Thens.{goes_on, stops}
use Rattle.cu_cp_records.specs.declared.control_actions.row.Row.{Row as CodeRow}
use Rattle.cu_cp_records.specs.control_actions.Rows.{row_as}
use Rattle.cu_cp_answers.specs.declared.control_answers.states.Answered.{Answered as CodeAnswered}
use Rattle.cu_cp_answers.specs.declared.control_answers.states.Answered.TheVariants.{Awaited}
use Rattle.cu_cp_answers.specs.control_answers.Answers.{some_row_as, AnswerGives}

abbrev OctetCp : Type 0
OctetCp = CuCpRecord (List ℕ) (List ℕ)

-- a row that the code found
pub row_found : (codec : Codec) (given : Answered (octet_way codec)) (answered : CodeAnswered) (taken : Option CodeRow) (row : CodeRow)
    → AnswerGives (octet_way codec) given (Ok answered) → answered ≡ Awaited taken → taken ≡ Some row → given ≡ answers_with (Some (row_as row))
row_found codec given answered taken row is awaited some =
    subst (λ (o : Option CodeRow). given ≡ answers_with (some_row_as o)) some
    (subst (λ (a : CodeAnswered). AnswerGives (octet_way codec) given (Ok a)) awaited is)

module _ (codec : Codec) (ue : UeId) (channel : Channel) (message : Message (List ℕ)) (r after : OctetCp) (before outputs : List Output) where
  abbrev answering : Answered (octet_way codec) → Step OctetCp
  answering a = step_after before (answered_by (octet_way codec) ue channel message r a)

  -- the counter of its row is spent
  pub answer_stops : (wanted given : Answered (octet_way codec)) (e : StepError) → given ≡ wanted → AnswerGives (octet_way codec) given (Err e)
      → IsStep {X = Unit {0}} (answering wanted) outputs after (Err e)
  unfolding carry_out
  answer_stops wanted given (errors.Spent counter) same is = ap answering (sym same ∙ is)
  answer_stops wanted given errors.Memory same is = tt

  module _ (result : Result (Unit {0}) StepError) where
    -- an answer is what the code says it is
    pub answer_is : (wanted given found : Answered (octet_way codec)) → given ≡ wanted → given ≡ found
        → IsStep (answering found) outputs after result → IsStep (answering wanted) outputs after result
    answer_is wanted given found same is h =
        subst (λ (a : Answered (octet_way codec)). IsStep (answering a) outputs after result) (sym is ∙ same) h

  module _ (row : Row (List ℕ)) (mid : List Output) (s closed : OctetCp) (is : closed ≡ closed_at (octet_way codec) channel r) where
    -- its row is carried out, and then what waits longest is put
    pub row_goes_on : (result : Result (Unit {0}) StepError) → step_after before (carry_out (octet_way codec) ue closed row) ≡ stepped mid s
        → IsStep (step_after mid (put_next (octet_way codec) ue channel s)) outputs after result
        → IsStep (answering (answers_with (Some row))) outputs after result
    row_goes_on result e h =
        goes_on before mid (carry_out (octet_way codec) ue (closed_at (octet_way codec) channel r) row) (put_next (octet_way codec) ue channel)
        outputs s after result (subst (λ (k : OctetCp). step_after before (carry_out (octet_way codec) ue k row) ≡ stepped mid s) is e) h

    -- its row is not carried out, and nothing more is put
    pub row_ends : (e : StepError) → IsStep {X = Unit {0}} (step_after before (carry_out (octet_way codec) ue closed row)) mid s (Err e)
        → IsStep {X = Unit {0}} (answering (answers_with (Some row))) outputs after (Err e)
    row_ends e h =
        stops before mid (carry_out (octet_way codec) ue (closed_at (octet_way codec) channel r) row) (put_next (octet_way codec) ue channel)
        (Unit {0}) (Unit {0}) outputs s after e
        (subst (λ (k : OctetCp). IsStep {X = Unit {0}} (step_after before (carry_out (octet_way codec) ue k row)) mid s (Err e)) is h)
