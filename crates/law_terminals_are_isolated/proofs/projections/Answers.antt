-- Answers one after another, and by cases: what is seen of two, and what one puts out.
use Rattle.std.proofs.Common.{◌≡◌, ℕ, Bool, true, false, List, [], ◌∷◌, ◌++◌, refl, sym, ap, ◌∙◌}
use Rattle.std.specs.Prelude.{if◌then◌else◌}
use Rattle.std.specs.List.{AllByRecursion}
use Rattle.unit_defs.specs.Ways.{Output, Answer, gives, spent, with_outputs, ◌then◌}
use Rattle.law_terminals_are_isolated.specs.projections.Steps.{seen, IsFor, PutsFor}

pub all_append : {X : Type 0} (P : X → Type 0) (xs ys : List X) → AllByRecursion P xs → AllByRecursion P ys → AllByRecursion P (xs ++ ys)
all_append P [] ys a b = b
all_append P (x ∷ xs) ys a b = (a.0, all_append P xs ys a.1 b)

module _ {M P : Type 0} where
  -- ---- two answers of which the same is seen

  outputs_in : {S : Type 0} → Answer M P S → List (Output M P)
  outputs_in (gives outputs s) = outputs
  outputs_in (spent counter) = []

  after_in : {S : Type 0} → S → Answer M P S → S
  after_in s (gives outputs after) = after
  after_in s (spent counter) = s

  counter_in : {S : Type 0} → Answer M P S → ℕ
  counter_in (gives outputs s) = 0
  counter_in (spent counter) = counter

  seen_after : {R S : Type 0} (f : R → S) (outputs : List (Output M P)) (a : Answer M P R)
      → seen f (with_outputs outputs a) ≡ with_outputs outputs (seen f a)
  seen_after f outputs (gives more after) = refl
  seen_after f outputs (spent counter) = refl

  pub same_then : {R S X Y : Type 0} (f : R → S) (g : X → Y) (a b : Answer M P R) (k l : R → Answer M P X) → seen f a ≡ seen f b
      → ((r q : R) → f r ≡ f q → seen g (k r) ≡ seen g (l q)) → seen g (a then k) ≡ seen g (b then l)
  unfolding outputs_in after_in counter_in
  same_then f g (gives os r) (gives ps q) k l e more =
      seen_after g os (k r)
      ∙ ap (with_outputs os) (more r q (ap (after_in (f r)) e))
      ∙ ap (λ (outputs : List (Output M P)). with_outputs outputs (seen g (l q))) (ap outputs_in e)
      ∙ sym (seen_after g ps (l q))
  same_then f g (gives os r) (spent counter) k l e more = absurd cc
  same_then f g (spent counter) (gives ps q) k l e more = absurd cc
  same_then f g (spent counter) (spent other) k l e more = ap (λ (n : ℕ). spent n) (ap counter_in e)

  pub same_if : {R S : Type 0} (f : R → S) (t u : Bool) (a b c d : Answer M P R) → t ≡ u → seen f a ≡ seen f c → seen f b ≡ seen f d
      → seen f (if t then a else b) ≡ seen f (if u then c else d)
  same_if f true true a b c d e p q = p
  same_if f false false a b c d e p q = q
  same_if f true false a b c d e p q = absurd cc
  same_if f false true a b c d e p q = absurd cc

  -- ---- what one puts out

  pub puts_then : {R S : Type 0} (ue : ℕ) (H : R → Type 0) (K : S → Type 0) (a : Answer M P R) (k : R → Answer M P S) → PutsFor ue H a
      → ((r : R) → H r → PutsFor ue K (k r)) → PutsFor ue K (a then k)
  puts_then {S = S} ue H K (gives os r) k p more = by (k r) (more r p.1)
    where
      by : (b : Answer M P S) → PutsFor ue K b → PutsFor ue K (with_outputs os b)
      by (gives ps s) h = (all_append (IsFor ue) os ps p.0 h.0, h.1)
      by (spent counter) h = tt
  puts_then ue H K (spent counter) k p more = tt

  pub puts_if : {R : Type 0} (ue : ℕ) (H : R → Type 0) (t : Bool) (a b : Answer M P R) → PutsFor ue H a → PutsFor ue H b → PutsFor ue H (if t then a else b)
  puts_if ue H true a b p q = p
  puts_if ue H false a b p q = q
