-- One answer after another, as steps: what goes on, and what stops.
use Rattle.std.proofs.Common.{◌≡◌, ℕ, List, Option, sym, ap, ◌∙◌, subst}
use Rattle.std.proofs.lemmas.List.{append-nil}
use Rattle.std.specs.Prelude.{Result, Ok, Err}
use Rattle.gnb_types.specs.declared.outputs.Output.{Output}
use Rattle.unit_defs.specs.Ways.{◌then◌, nothing}
use Rattle.unit_defs.specs.Transactions.{Asked}
use Rattle.unit_defs.specs.octet_defs.Units.{OctetAnswer}
use Rattle.unit_messages.specs.declared.steps.StepError.{StepError}
use Rattle.unit_messages.specs.declared.steps.StepError.TheVariants as errors
use Rattle.unit_messages.specs.steps.Steps.{Step, stepped, step_after, IsStep}
use Rattle.unit_messages.proofs.steps.StepLaws.{step_then, step_stops}
use Rattle.unit_requests.specs.Requests.{Kept, AskGives}

pub step_nothing : {R : Type 0} (before : List Output) (r : R) → step_after before (nothing r) ≡ stepped before r
step_nothing {R = R} before r = ap (λ (os : List Output). stepped os r) (append-nil before)

module _ {R S : Type 0} (before mid : List Output) (a : OctetAnswer R) (more : R → OctetAnswer S) where
  -- what goes on after an answer
  pub goes_on : {Y : Type 0} (outputs : List Output) (r : R) (s : S) (result : Result Y StepError) → step_after before a ≡ stepped mid r
      → IsStep (step_after mid (more r)) outputs s result → IsStep (step_after before (a then more)) outputs s result
  goes_on outputs r s result e h = subst (λ (t : Step S). IsStep t outputs s result) (sym (step_then before mid a more r e)) h

  -- an error ends all
  pub stops : (X Y : Type 0) (outputs : List Output) (r : R) (s : S) (e : StepError) → IsStep {X = X} (step_after before a) mid r (Err e)
      → IsStep {X = Y} (step_after before (a then more)) outputs s (Err e)
  stops X Y outputs r s (errors.Spent counter) h = step_stops before mid a more counter h
  stops X Y outputs r s errors.Memory h = tt

module _ {S : Type 0} (before mid : List Output) (a : OctetAnswer (Asked (List ℕ) (List ℕ))) (f : Asked (List ℕ) (List ℕ) → S) where
  -- a request that was asked for, and then a change that puts nothing out
  pub asks_on : {Y : Type 0} (after : Kept) (awaited : Option ℕ) (y : Y) → AskGives (step_after before a) mid after (Ok awaited)
      → IsStep (step_after before (a then (λ x. nothing (f x)))) mid (f (record { transactions = after; awaited = awaited })) (Ok y)
  asks_on after awaited y e =
      step_then before mid a (λ x. nothing (f x)) (record { transactions = after; awaited = awaited }) e
      ∙ step_nothing mid (f (record { transactions = after; awaited = awaited }))

  pub asks_no_more : (Y : Type 0) (after : Kept) (s : S) (e : StepError) → AskGives (step_after before a) mid after (Err e)
      → IsStep {X = Y} (step_after before (a then (λ x. nothing (f x)))) mid s (Err e)
  asks_no_more Y after s (errors.Spent counter) h = step_stops before mid a (λ x. nothing (f x)) counter h
  asks_no_more Y after s errors.Memory h = tt
