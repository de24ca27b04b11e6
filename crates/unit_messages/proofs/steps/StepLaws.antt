-- One answer after another, as steps.
use Rattle.std.proofs.Common.{◌≡◌, ℕ, List, [], ◌∷◌, ◌++◌, map, refl, sym, ap, ◌∙◌, append_assoc}
use Rattle.gnb_types.specs.declared.outputs.Output.{Output}
use Rattle.unit_defs.specs.Ways.{Put, Load, gives, spent, with_outputs, ◌then◌, puts}
use Rattle.unit_defs.specs.octet_defs.Units.{OctetAnswer}
use Rattle.unit_defs.specs.octet_defs.Writing.{output_of, outputs_of}
use Rattle.unit_messages.specs.steps.Steps.{Step, stepped, stopped, step_after}

abbrev pub OctetPut : Type 0
OctetPut = Put (List ℕ) (Load (List ℕ)) (List ℕ)

pub outputs_append : (xs ys : List OctetPut) → outputs_of (xs ++ ys) ≡ outputs_of xs ++ outputs_of ys
outputs_append [] ys = refl
outputs_append (x ∷ xs) ys = ap (λ os. output_of x ∷ os) (outputs_append xs ys)

module _ {R : Type 0} where
  -- outputs before an answer
  pub step_with : (before : List Output) (outputs : List OctetPut) (a : OctetAnswer R)
      → step_after before (with_outputs outputs a) ≡ step_after (before ++ outputs_of outputs) a
  step_with before outputs (gives more after) =
      ap (λ (os : List Output). stepped os after)
      (ap (λ (os : List Output). before ++ os) (outputs_append outputs more) ∙ sym (append_assoc before (outputs_of outputs) (outputs_of more)))
  step_with before outputs (spent counter) = refl

module _ {R S : Type 0} (before mid : List Output) (a : OctetAnswer R) (more : R → OctetAnswer S) where
  -- what goes on after an answer
  pub step_then : (r : R) → step_after before a ≡ stepped mid r → step_after before (a then more) ≡ step_after mid (more r)
  step_then r e = by a e
    where
      by : (a : OctetAnswer R) → step_after before a ≡ stepped mid r → step_after before (a then more) ≡ step_after mid (more r)
      by (gives outputs after) e =
          let outputs_is : before ++ outputs_of outputs ≡ mid = cc in
          let after_is : after ≡ r = cc in
          step_with before outputs (more after)
          ∙ (ap (λ (os : List Output). step_after os (more after)) outputs_is ∙ ap (λ (s : R). step_after mid (more s)) after_is)
      by (spent counter) e = cc

  -- a spent counter ends all
  pub step_stops : (counter : ℕ) → step_after before a ≡ stopped counter → step_after before (a then more) ≡ stopped counter
  step_stops counter e = by a e
    where
      by : (a : OctetAnswer R) → step_after before a ≡ stopped counter → step_after before (a then more) ≡ stopped counter
      by (gives outputs after) e = cc
      by (spent n) e = cc
