-- Three steps, one after another.
use Rattle.std.proofs.Common.{◌≡◌, List, Ok, Err, refl}
use Rattle.std.specs.Prelude.{Result}
use Rattle.std.specs.Result.{IsErrAnd}
use Rattle.gnb_types.specs.declared.outputs.Output.{Output}
use Rattle.unit_defs.specs.Ways.{◌then◌}
use Rattle.unit_defs.specs.octet_defs.Units.{OctetAnswer}
use Rattle.unit_messages.specs.declared.steps.StepError.{StepError}
use Rattle.unit_messages.specs.steps.Steps.{IsStep, step_after}
use Rattle.cu_up_bearer.proofs.downlink.Sequels.{goes_on, ends_with}

module _ {R : Type 0} (before : List Output) (a : OctetAnswer R) (f g : R → OctetAnswer R) where
  abbrev pub three : OctetAnswer R
  three = a then f then g

  pub first_fails : (mid : List Output) (r : R) (e : StepError) → IsStep {X = Unit {0}} (step_after before a) mid r (Err e)
      → (out : List Output) (s : R) (result : Result (Unit {0}) StepError) → IsErrAnd result (λ y. y ≡ e)
      → IsStep (step_after before three) out s result
  first_fails mid r e is out s result err =
      ends_with (Unit {0}) (Unit {0}) before (a then f) g mid r e (ends_with (Unit {0}) (Unit {0}) before a f mid r e is mid r (Err e) refl) out s result err

  module _ (mid : List Output) (r : R) (ok : IsStep {X = Unit {0}} (step_after before a) mid r (Ok tt)) where
    pub second_fails : (mid2 : List Output) (r2 : R) (e : StepError) → IsStep {X = Unit {0}} (step_after mid (f r)) mid2 r2 (Err e)
        → (out : List Output) (s : R) (result : Result (Unit {0}) StepError) → IsErrAnd result (λ y. y ≡ e)
        → IsStep (step_after before three) out s result
    second_fails mid2 r2 e is out s result err =
        ends_with (Unit {0}) (Unit {0}) before (a then f) g mid2 r2 e (goes_on (Unit {0}) (Unit {0}) before a f mid r tt ok mid2 r2 (Err e) is) out s result err

    pub third_goes : (mid2 : List Output) (r2 : R) → IsStep {X = Unit {0}} (step_after mid (f r)) mid2 r2 (Ok tt)
        → (out : List Output) (s : R) (result : Result (Unit {0}) StepError) → IsStep (step_after mid2 (g r2)) out s result
        → IsStep (step_after before three) out s result
    third_goes mid2 r2 ok2 out s result h =
        goes_on (Unit {0}) (Unit {0}) before (a then f) g mid2 r2 tt (goes_on (Unit {0}) (Unit {0}) before a f mid r tt ok mid2 r2 (Ok tt) ok2) out s result h
