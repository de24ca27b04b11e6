-- A table of conditions: at most one reason is the first, and tests find it.
use Rattle.std.proofs.Common.{◌≡◌, ◌⊎◌, inl, inr, Bool, true, false, List, [], ◌∷◌, Some, None, Result, Ok, Err, IfOk, IfErr, refl, sym, ap, ◌∙◌, true≢false}
use Rattle.gnb_types.specs.Refusals.{Condition, IsFirst, NoneHolds, first_reason, AreTests}

module _ {E : Type 0} where
  pub one_first : (cs : List (Condition E)) (a b : E) → IsFirst cs a → IsFirst cs b → a ≡ b
  one_first [] a b h k = absurd h
  one_first (c ∷ cs) a b (inl (holds, is)) (inl (also, same)) = is ∙ sym same
  one_first (c ∷ cs) a b (inl (holds, is)) (inr (not_holds, k)) = absurd (not_holds holds)
  one_first (c ∷ cs) a b (inr (not_holds, h)) (inl (holds, is)) = absurd (not_holds holds)
  one_first (c ∷ cs) a b (inr (not_holds, h)) (inr (also, k)) = one_first cs a b h k

  pub none_first : (cs : List (Condition E)) (e : E) → NoneHolds cs → IsFirst cs e → ⊥
  none_first [] e none h = h
  none_first (c ∷ cs) e none (inl (holds, is)) = none.0 holds
  none_first (c ∷ cs) e none (inr (not_holds, h)) = none_first cs e none.1 h

  pub tested_first : (ts : List (Bool × E)) (cs : List (Condition E)) (e : E) → AreTests ts cs → first_reason ts ≡ Some e → IsFirst cs e
  tested_first [] [] e are h = absurd (cc)
  tested_first [] (c ∷ cs) e are h = absurd are
  tested_first (t ∷ ts) [] e are h = absurd are
  tested_first ((true, r) ∷ ts) (c ∷ cs) e are h = inl (are.1.0 refl, some_is r e h ∙ are.0)
    where
      some_is : (r e : E) → Some r ≡ Some e → e ≡ r
      some_is r e h = cc
  tested_first ((false, r) ∷ ts) (c ∷ cs) e are h = inr (λ holds. true≢false (sym (are.1.1 holds)), tested_first ts cs e are.2 h)

  pub tested_none : (ts : List (Bool × E)) (cs : List (Condition E)) → AreTests ts cs → first_reason ts ≡ None → NoneHolds cs
  tested_none [] [] are h = tt
  tested_none [] (c ∷ cs) are h = absurd are
  tested_none (t ∷ ts) [] are h = absurd are
  tested_none ((true, r) ∷ ts) (c ∷ cs) are h = absurd (cc)
  tested_none ((false, r) ∷ ts) (c ∷ cs) are h = (λ holds. true≢false (sym (are.1.1 holds)), tested_none ts cs are.2 h)

  pub none_tested : (ts : List (Bool × E)) (cs : List (Condition E)) → AreTests ts cs → NoneHolds cs → first_reason ts ≡ None
  none_tested [] [] are none = refl
  none_tested [] (c ∷ cs) are none = absurd are
  none_tested (t ∷ ts) [] are none = absurd are
  none_tested ((true, r) ∷ ts) (c ∷ cs) are none = absurd (none.0 (are.1.0 refl))
  none_tested ((false, r) ∷ ts) (c ∷ cs) are none = none_tested ts cs are.2 none.1

  -- one of the tests holds, or none
  pub tested_or_none : (ts : List (Bool × E)) → ((e : E) × (first_reason ts ≡ Some e)) ⊎ (first_reason ts ≡ None)
  tested_or_none [] = inr refl
  tested_or_none ((true, r) ∷ ts) = inl (r, refl)
  tested_or_none ((false, r) ∷ ts) = tested_or_none ts

  pub first_tested : (ts : List (Bool × E)) (cs : List (Condition E)) (e : E) → AreTests ts cs → IsFirst cs e → first_reason ts ≡ Some e
  first_tested ts cs e are h = by (tested_or_none ts)
    where
      by : ((r : E) × (first_reason ts ≡ Some r)) ⊎ (first_reason ts ≡ None) → first_reason ts ≡ Some e
      by (inl (r, is)) = is ∙ ap Some (one_first cs r e (tested_first ts cs r are is) h)
      by (inr none) = absurd (none_first cs e (tested_none ts cs are none) h)

  -- what a reader answers that goes by the tests
  module _ {X : Type 0} (ts : List (Bool × E)) (cs : List (Condition E)) (are : AreTests ts cs) where
    pub refused_first : (r : Result X E) → IfErr r (λ e. first_reason ts ≡ Some e) → IfErr r (λ e. IsFirst cs e)
    refused_first (Ok x) h = tt
    refused_first (Err e) h = tested_first ts cs e are h

    pub first_refused : (r : Result X E) → IfOk r (λ x. first_reason ts ≡ None) → IfErr r (λ e. first_reason ts ≡ Some e) → (e : E)
        → IsFirst cs e → r ≡ Err e
    first_refused (Ok x) none h e k = absurd (none_first cs e (tested_none ts cs are none) k)
    first_refused (Err r) none h e k = ap Err (one_first cs r e (tested_first ts cs r are h) k)
