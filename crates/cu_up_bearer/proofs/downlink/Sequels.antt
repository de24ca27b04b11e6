-- A call that makes one step, and what goes on after it.
use Rattle.std.proofs.Common.{◌≡◌, List, Ok, Err, sym, ap, ◌∙◌, subst, append-nil, ◌++◌, []}
use Rattle.std.specs.Prelude.{Result}
use Rattle.std.specs.Result.{IsErrAnd}
use Rattle.std.proofs.lemmas.Result.{err_from_is_err_and}
use Rattle.gnb_types.specs.declared.outputs.Output.{Output}
use Rattle.unit_defs.specs.Ways.{◌then◌}
use Rattle.unit_defs.specs.octet_defs.Units.{OctetAnswer}
use Rattle.unit_messages.specs.declared.steps.StepError.{StepError}
use Rattle.unit_messages.specs.declared.steps.StepError.TheVariants as errors
use Rattle.unit_messages.specs.steps.Steps.{Step, IsStep, stepped, stopped, step_after}
use Rattle.unit_messages.proofs.steps.StepLaws.{step_then, step_stops}

-- nothing more is put out
pub nothing_more : {R : Type 0} (before : List Output) (b : R) → stepped (before ++ []) b ≡ stepped before b
nothing_more before b = ap (λ (os : List Output). stepped os b) (append-nil before)

-- a step that is another one
pub step_as : {R X : Type 0} (s t : Step R) (out : List Output) (after : R) (result : Result X StepError) → s ≡ t → IsStep t out after result
    → IsStep s out after result
step_as s t out after result e h = subst (λ x. IsStep x out after result) (sym e) h

module _ {R S : Type 0} (X Y : Type 0) (before : List Output) (a : OctetAnswer R) (more : R → OctetAnswer S) where
  -- the call gave its step
  pub goes_on : (mid : List Output) (r : R) (x : X) → IsStep (step_after before a) mid r (Ok x)
      → (out : List Output) (s : S) (result : Result Y StepError) → IsStep (step_after mid (more r)) out s result
      → IsStep (step_after before (a then more)) out s result
  goes_on mid r x is out s result h =
      subst (λ (t : Step S). IsStep t out s result) (sym (step_then before mid a more r is)) h

  ends_as : (mid : List Output) (r : R) (e : StepError) → IsStep {X = X} (step_after before a) mid r (Err e)
      → (out : List Output) (s : S) → IsStep {X = Y} (step_after before (a then more)) out s (Err e)
  ends_as mid r (errors.Spent counter) is out s = step_stops before mid a more counter is
  ends_as mid r errors.Memory is out s = tt

  -- the call gave none
  pub ends_with : (mid : List Output) (r : R) (e : StepError) → IsStep {X = X} (step_after before a) mid r (Err e)
      → (out : List Output) (s : S) (result : Result Y StepError) → IsErrAnd result (λ y. y ≡ e)
      → IsStep (step_after before (a then more)) out s result
  ends_with mid r e is out s result err =
      let p = err_from_is_err_and result err in
      subst (λ (x : Result Y StepError). IsStep (step_after before (a then more)) out s x) (sym p.1)
      (subst (λ (y : StepError). IsStep {X = Y} (step_after before (a then more)) out s (Err y)) (sym p.2) (ends_as mid r e is out s))
