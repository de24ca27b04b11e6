-- Steps of bearers, one after another, and the step of their context.
use Rattle.std.proofs.Common.{◌≡◌, ℕ, List, ◌∷◌, ◌++◌, Ok, Err, refl, sym, ap, ◌∙◌, subst, append_assoc}
use Rattle.std.specs.Prelude.{Result, OnOk}
use Rattle.std.specs.Result.{IsErrAnd}
use Rattle.std.proofs.lemmas.Result.{err_from_is_err_and}
use Rattle.gnb_types.specs.declared.names.BearerId.{BearerId}
use Rattle.gnb_types.specs.declared.outputs.Output.{Output}
use Rattle.unit_defs.specs.Ways.{gives, spent}
use Rattle.unit_defs.specs.CuUpRecords.{CuUpBearer, CuUpContext}
use Rattle.unit_defs.specs.CuUp.{UpStep, steps, stops, step_with}
use Rattle.unit_defs.specs.octet_defs.Codec.{Codec, octet_way}
use Rattle.unit_defs.specs.octet_defs.Units.{OctetAnswer}
use Rattle.unit_defs.specs.octet_defs.Writing.{outputs_of}
use Rattle.unit_messages.specs.declared.steps.StepError.{StepError}
use Rattle.unit_messages.specs.declared.steps.StepError.TheVariants as errors
use Rattle.unit_messages.specs.steps.Steps.{Step, stepped, stopped, step_after, IsStep}
use Rattle.unit_messages.proofs.steps.StepLaws.{OctetPut, outputs_append}
use Rattle.cu_up_contexts.specs.bearer_context.Orders.{bearers_after, context_after}

abbrev pub map_step : {R S : Type 0} → (R → S) → Step R → Step S
map_step f (stepped outputs after) = stepped outputs (f after)
map_step f (stopped counter) = stopped counter

pub mapped : {R S X : Type 0} (f : R → S) (s : Step R) (after : List Output) (r : R) (result : Result X StepError)
    → IsStep s after r result → IsStep (map_step f s) after (f r) result
mapped f s after r (Ok x) step = ap (λ t. map_step f t) step
mapped f s after r (Err (errors.Spent counter)) step = ap (λ t. map_step f t) step
mapped f s after r (Err errors.Memory) step = tt

-- what is kept is told of a success alone
pub after_as : {R X : Type 0} (s : Step R) (after : List Output) (r t : R) (result : Result X StepError) → OnOk result (t ≡ r)
    → IsStep s after r result → IsStep s after t result
after_as s after r t (Ok x) is step = step ∙ ap (λ u. stepped after u) (sym is)
after_as s after r t (Err (errors.Spent counter)) is step = step
after_as s after r t (Err errors.Memory) is step = tt

-- an error that is handed on
pub error_as : {R : Type 0} (X Y : Type 0) (s : Step R) (out after : List Output) (r t : R) (e : StepError) (result : Result Y StepError)
    → IsErrAnd result (λ y. y ≡ e) → IsStep {X = X} s out r (Err e) → IsStep s after t result
error_as X Y s out after r t e result err step =
    let p = err_from_is_err_and result err in
    subst (λ (x : Result Y StepError). IsStep s after t x) (sym p.1)
    (subst (λ (y : StepError). IsStep {X = Y} s after t (Err y)) (sym p.2) (by e step))
  where
    by : (e : StepError) → IsStep {X = X} s out r (Err e) → IsStep {X = Y} s after t (Err e)
    by (errors.Spent counter) step = step
    by errors.Memory step = tt

module _ (codec : Codec) where
  abbrev pub Steps : Type 0
  Steps = UpStep (octet_way codec)

  abbrev pub Bearers : Type 0
  Bearers = List (BearerId × CuUpBearer)

  -- the first bearer's outputs, and the others after them
  joined : (before : List Output) (id : BearerId) (outputs : List OctetPut) (b : CuUpBearer) (more : Steps)
      → bearers_after codec before (step_with (octet_way codec) id (gives outputs b) more)
      ≡ map_step (λ (es : Bearers). (id, b) ∷ es) (bearers_after codec (before ++ outputs_of outputs) more)
  joined before id outputs b (steps os bs) =
      ap (λ (out : List Output). stepped out ((id, b) ∷ bs))
      (ap (λ (xs : List Output). before ++ xs) (outputs_append outputs os) ∙ sym (append_assoc before (outputs_of outputs) (outputs_of os)))
  joined before id outputs b (stops counter) = refl

  module _ (before mid : List Output) (id : BearerId) (a : OctetAnswer CuUpBearer) (more : Steps) where
    pub goes_on : {X : Type 0} (b : CuUpBearer) → step_after before a ≡ stepped mid b → (after : List Output) (es : Bearers) (result : Result X StepError)
        → IsStep (bearers_after codec mid more) after es result
        → IsStep (bearers_after codec before (step_with (octet_way codec) id a more)) after ((id, b) ∷ es) result
    goes_on {X} b first after es result rest = by a first
      where
        by : (a : OctetAnswer CuUpBearer) → step_after before a ≡ stepped mid b
            → IsStep (bearers_after codec before (step_with (octet_way codec) id a more)) after ((id, b) ∷ es) result
        by (gives outputs c) first =
            let out_is : before ++ outputs_of outputs ≡ mid = cc in
            let c_is : c ≡ b = cc in
            subst (λ (s : Step Bearers). IsStep s after ((id, b) ∷ es) result)
            (sym
            (joined before id outputs c more
            ∙ ap (λ (x : CuUpBearer). map_step (λ (es : Bearers). (id, x) ∷ es) (bearers_after codec (before ++ outputs_of outputs) more)) c_is
            ∙ ap (λ (out : List Output). map_step (λ (es : Bearers). (id, b) ∷ es) (bearers_after codec out more)) out_is))
            (mapped (λ (es : Bearers). (id, b) ∷ es) (bearers_after codec mid more) after es result rest)
        by (spent counter) first = cc

    ends : (counter : ℕ) → step_after before a ≡ stopped counter → bearers_after codec before (step_with (octet_way codec) id a more) ≡ stopped counter
    ends counter first = by a first
      where
        by : (a : OctetAnswer CuUpBearer) → step_after before a ≡ stopped counter
            → bearers_after codec before (step_with (octet_way codec) id a more) ≡ stopped counter
        by (gives outputs c) first = cc
        by (spent n) first = cc

    pub ends_with : (X Y : Type 0) (out : List Output) (b : CuUpBearer) (e : StepError) → IsStep {X = X} (step_after before a) out b (Err e)
        → (after : List Output) (es : Bearers) (result : Result Y StepError) → IsErrAnd result (λ y. y ≡ e)
        → IsStep (bearers_after codec before (step_with (octet_way codec) id a more)) after es result
    ends_with X Y out b e first after es result err =
        error_as X Y (bearers_after codec before (step_with (octet_way codec) id a more)) out after es es e result err (by e first)
      where
        by : (e : StepError) → IsStep {X = X} (step_after before a) out b (Err e)
            → IsStep {X = X} (bearers_after codec before (step_with (octet_way codec) id a more)) out es (Err e)
        by (errors.Spent counter) first = ends counter first
        by errors.Memory first = tt

  -- the step of a context is that of its bearers
  context_is : (before : List Output) (c : CuUpContext) (s : Steps)
      → context_after codec before c s ≡ map_step (λ (es : Bearers). record c { bearers = es }) (bearers_after codec before s)
  context_is before c (steps outputs bearers) = refl
  context_is before c (stops counter) = refl

  pub context_step : {X : Type 0} (before after : List Output) (c d : CuUpContext) (s : Steps) (es : Bearers) (result : Result X StepError)
      → OnOk result (d ≡ record c { bearers = es }) → IsStep (bearers_after codec before s) after es result
      → IsStep (context_after codec before c s) after d result
  context_step before after c d s es result is step =
      after_as (context_after codec before c s) after (record c { bearers = es }) d result is
      (subst (λ (t : Step CuUpContext). IsStep t after (record c { bearers = es }) result) (sym (context_is before c s))
      (mapped (λ (es : Bearers). record c { bearers = es }) (bearers_after codec before s) after es result step))
