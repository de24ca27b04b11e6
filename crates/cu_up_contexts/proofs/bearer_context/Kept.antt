-- What a context keeps of its bearers after an order: all of them, or none after an error.
use Rattle.std.proofs.Common.{◌≡◌, ℕ, ◌<◌, ◌≤◌, Bool, true, false, List, [], length, get_or, Ok, Err, refl, sym, ◌∙◌, subst, arith}
use Rattle.std.specs.Prelude.{Result, OnOk, is_err}
use Rattle.std.proofs.Math.ListN.{set}
use Rattle.gnb_types.specs.declared.names.SnBits.{SnBits}
use Rattle.unit_messages.specs.declared.steps.StepError.{StepError}
use Rattle.cu_up_bearer.specs.declared.tunnels.at.Flags.{Flags}
use Rattle.cu_up_bearer.specs.bearers.Bearers.{IsOf}
use Rattle.cu_up_bearer.specs.declared.bearers.bearer.Bearer.{Bearer}
use Rattle.cu_up_bearer.specs.orders.Orders.{IsEmpty}
use Rattle.cu_up_contexts.specs.bearer_context.Bearers.{shared, IsServed, AreServed, IsContext}
use Rattle.cu_up_contexts.proofs.bearer_context.Numbered.{each_at, each_set}

module _ {X : Type 0} (result : Result X StepError) (failed : Bool) (is : failed ≡ is_err result) where
  pub on_ok : (A : Type 0) → (failed ≡ false → A) → OnOk result A
  on_ok A f = by result is
    where
      by : (x : Result X StepError) → failed ≡ is_err x → OnOk x A
      by (Ok x) is = f is
      by (Err e) is = tt

  ok_of : (A : Type 0) → failed ≡ false → OnOk result A → A
  ok_of A none_failed h = by result is h
    where
      by : (x : Result X StepError) → failed ≡ is_err x → OnOk x A → A
      by (Ok x) is h = h
      by (Err e) is h = absurd (differs (sym none_failed ∙ is))
        where
          differs : false ≡ true → ⊥
          differs e = cc

  module _ (sn : SnBits) (quota : ℕ) (flags : Flags) (ws vs : List Bearer) (few : length ws ≤ 8)
      (known : flags.frozen ≡ true → flags.may_serve ≡ true) (served : OnOk result (AreServed (shared sn quota flags) ws))
      (kept : failed ≡ false → vs ≡ ws) (none : failed ≡ true → vs ≡ []) where
    pub sound_after : IsContext sn quota flags vs
    sound_after = by failed kept none (λ fine. ok_of (AreServed (shared sn quota flags) ws) fine served)
      where
        by : (f : Bool) → (f ≡ false → vs ≡ ws) → (f ≡ true → vs ≡ []) → (f ≡ false → AreServed (shared sn quota flags) ws) → IsContext sn quota flags vs
        by true kept none all =
            subst (λ (bs : List Bearer). IsContext sn quota flags bs) (sym (none refl)) (record { few = omega arith; served = tt; known = known })
        by false kept none all =
            subst (λ (bs : List Bearer). IsContext sn quota flags bs) (sym (kept refl)) (record { few = few; served = all refl; known = known })

-- an item came to one of them: before the SN status it stays as it is
module _ (sn : SnBits) (quota : ℕ) (flags : Flags) (bs : List Bearer) (i : ℕ) (b after : Bearer) (within : i < length bs) (at : b ≡ get_or bs i b)
    (all : AreServed (shared sn quota flags) bs) where
  pub here_served : IsServed (shared sn quota flags) b
  here_served =
      subst (λ (x : Bearer). IsServed (shared sn quota flags) x) (sym at) (each_at (λ x. IsServed (shared sn quota flags) x) bs i b within all)

  pub others_served : (result : Result Bool StepError) → OnOk result (IsOf (shared sn quota flags) after) → (flags.may_serve ≡ false → after ≡ b)
      → OnOk result (AreServed (shared sn quota flags) (set bs i after))
  others_served (Ok x) of same =
      each_set (λ y. IsServed (shared sn quota flags) y) bs i after
      (of, λ no. subst (λ (y : Bearer). IsEmpty y) (sym (same no)) (here_served.1 no)) all
  others_served (Err e) of same = tt
