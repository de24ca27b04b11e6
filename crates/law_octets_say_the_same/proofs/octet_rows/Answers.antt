-- Answers that follow one another, in octets.
use Rattle.std.proofs.Common.{◌≡◌, ℕ, Bool, true, false, List, map, refl, sym, ap, ◌∙◌}
use Rattle.std.specs.Prelude.{if◌then◌else◌}
use Rattle.std.proofs.lemmas.List.{map-append}
use Rattle.unit_defs.specs.Ways.{Pdu, Output, Answer, gives, spent, with_outputs, ◌then◌}
use Rattle.run_defs.specs.States.{Lengths}
use Rattle.law_octets_say_the_same.specs.octet_rows.Octets.{put_again, answer_again}

module _ {M : Type 0} (spelled : M → List ℕ) (sn : Lengths) where
  with_outputs_again : {R S : Type 0} (k : R → S) (os : List (Output M Pdu)) (a : Answer M Pdu R)
      → with_outputs (map (put_again spelled sn) os) (answer_again spelled sn k a) ≡ answer_again spelled sn k (with_outputs os a)
  with_outputs_again k os (gives more after) = ap (λ xs. gives xs (k after)) (sym (map-append (put_again spelled sn) os more))
  with_outputs_again k os (spent counter) = refl

  pub then_again : {R S R2 S2 : Type 0} (h : R → R2) (k : S → S2) (a : Answer M Pdu R) (f : R → Answer M Pdu S) (g : R2 → Answer (List ℕ) (List ℕ) S2)
      → ((r : R) → g (h r) ≡ answer_again spelled sn k (f r)) → (answer_again spelled sn h a then g) ≡ answer_again spelled sn k (a then f)
  then_again h k (gives os after) f g same =
      ap (with_outputs (map (put_again spelled sn) os)) (same after) ∙ with_outputs_again k os (f after)
  then_again h k (spent counter) f g same = refl

  -- a choice
  pub if_again : {R S : Type 0} (k : R → S) (t : Bool) (a b : Answer M Pdu R) (x y : Answer (List ℕ) (List ℕ) S)
      → x ≡ answer_again spelled sn k a → y ≡ answer_again spelled sn k b → (if t then x else y) ≡ answer_again spelled sn k (if t then a else b)
  if_again k true a b x y e f = e
  if_again k false a b x y e f = f
