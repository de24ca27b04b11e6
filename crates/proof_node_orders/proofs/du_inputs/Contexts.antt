-- What a DU has of one bearer, where a context changes, ends, or stays.
use Rattle.std.proofs.Common.{◌≡◌, ℕ, ◌+◌, Bool, true, false, cond, if◌then◌else◌, List, [], ◌∷◌, Option, Some, None, refl, sym, ap, ◌∙◌}
use Rattle.std.specs.Ordering.{eq_by_cmp}
use Rattle.std.specs.Cmp.{Equal-is}
use Rattle.gnb_types.specs.declared.names.UeId.{UeId}
use Rattle.gnb_types.specs.declared.names.BearerId.{BearerId}
use Rattle.gnb_types.specs.Orders.{ue_cmp, bearer_cmp}
use Rattle.gnb_types.proofs.OrderLemmas.{ue_total, ue_exact, bearer_exact}
use Rattle.tables.specs.Tables.{find, put, without}
use Rattle.tables.proofs.TableLaws.{find-put-same, find-put-other, find-without-same, find-without-other}
use Rattle.unit_defs.specs.Du.{Du, DuBearer, DuContext, bearers_anew}
use Rattle.unit_defs.specs.Ways.{Output, Answer, gives, spent, with_outputs, ◌then◌}
use Rattle.proof_node_orders.specs.du_rows.Shown.{Keeps, renewed}
use Rattle.proof_node_orders.specs.du_inputs.Changes.{DuModel, model_with, model_in, model_of, stays, renews, sets_up, ends, changed, teid_anew, Has}

pub same_ue : (a b : UeId) → eq_by_cmp ue_cmp a b ≡ true → a ≡ b
same_ue a b is = ue_exact a b ((Equal-is (ue_cmp a b)).0 is)

pub same_bearer : (a b : BearerId) → eq_by_cmp bearer_cmp a b ≡ true → a ≡ b
same_bearer a b is = bearer_exact a b ((Equal-is (bearer_cmp a b)).0 is)

pub stays_is : (d : Option DuModel) → changed stays d ≡ d
unfolding changed
stays_is None = refl
stays_is (Some d) = refl

pub ends_is : (d : Option DuModel) → changed ends d ≡ None
unfolding changed
ends_is None = refl
ends_is (Some d) = refl

pub sets_is : (part d : Option DuModel) → changed (sets_up part) d ≡ part
unfolding changed
sets_is part None = refl
sets_is part (Some d) = refl

-- a context on new downlink tunnels has the same bearers
pub anew_is : (epoch : ℕ) (bearer : BearerId) (c : DuContext) (next : ℕ)
    → model_in bearer (Some (record c { epoch = epoch; bearers = bearers_anew next c.bearers }))
    ≡ changed (renews epoch (teid_anew bearer next c.bearers)) (model_in bearer (Some c))
unfolding changed find
anew_is epoch bearer c next = in_list c.bearers next
  where
    in_list : (es : List (BearerId × DuBearer)) (n : ℕ)
        → model_with (record c { epoch = epoch; bearers = bearers_anew next c.bearers }) (find bearer_cmp (bearers_anew n es) bearer)
        ≡ changed (renews epoch (teid_anew bearer n es)) (model_with c (find bearer_cmp es bearer))
    in_list [] n = refl
    in_list (e ∷ es) n = by (eq_by_cmp bearer_cmp bearer e.0) (in_list es (n + 1))
      where
        by : (t : Bool)
            → model_with (record c { epoch = epoch; bearers = bearers_anew next c.bearers }) (find bearer_cmp (bearers_anew (n + 1) es) bearer)
            ≡ changed (renews epoch (teid_anew bearer (n + 1) es)) (model_with c (find bearer_cmp es bearer))
            → model_with (record c { epoch = epoch; bearers = bearers_anew next c.bearers })
            (cond t (Some (renewed e.1 n)) (find bearer_cmp (bearers_anew (n + 1) es) bearer))
            ≡ changed (renews epoch (if t then n else teid_anew bearer (n + 1) es)) (model_with c (cond t (Some e.1) (find bearer_cmp es bearer)))
        by true h = refl
        by false h = h

-- ---- a table of contexts

abbrev pub Contexts : Type 0
Contexts = List (UeId × DuContext)

pub put_here : (contexts : Contexts) (ue : UeId) (bearer : BearerId) (c : DuContext)
    → model_in bearer (find ue_cmp (put ue_cmp contexts ue c) ue) ≡ model_in bearer (Some c)
put_here contexts ue bearer c = ap (model_in bearer) (find-put-same ue_total contexts ue c)

pub put_far : (contexts : Contexts) (ue other : UeId) (bearer : BearerId) (c : DuContext) → eq_by_cmp ue_cmp ue other ≡ false
    → model_in bearer (find ue_cmp (put ue_cmp contexts other c) ue) ≡ model_in bearer (find ue_cmp contexts ue)
put_far contexts ue other bearer c far = ap (model_in bearer) (find-put-other ue_total contexts other c ue far)

pub without_here : (contexts : Contexts) (ue : UeId) (bearer : BearerId)
    → model_in bearer (find ue_cmp (without ue_cmp contexts ue) ue) ≡ None
without_here contexts ue bearer = ap (model_in bearer) (find-without-same ue_total contexts ue)

pub without_far : (contexts : Contexts) (ue other : UeId) (bearer : BearerId) → eq_by_cmp ue_cmp ue other ≡ false
    → model_in bearer (find ue_cmp (without ue_cmp contexts other) ue) ≡ model_in bearer (find ue_cmp contexts ue)
without_far contexts ue other bearer far = ap (model_in bearer) (find-without-other ue_total contexts other ue far)

module _ {M C : Type 0} where
  -- ---- answers

  pub keeps_has : {P : Type 0} (ue : UeId) (bearer : BearerId) (r : Du M C) (a : Answer M P (Du M C)) → Keeps r a
      → Has ue bearer (changed stays (model_of r ue bearer)) a
  unfolding Keeps Has
  keeps_has ue bearer r (gives outputs v) k =
      ap (λ es. model_in bearer (find ue_cmp es ue)) k.0 ∙ sym (stays_is (model_of r ue bearer))
  keeps_has ue bearer r (spent counter) k = tt

  pub has_more : {P : Type 0} (ue : UeId) (bearer : BearerId) (part : Option DuModel) (outputs : List (Output M P)) (a : Answer M P (Du M C))
      → Has ue bearer part a → Has ue bearer part (with_outputs outputs a)
  unfolding Has
  has_more ue bearer part outputs (gives more v) h = h
  has_more ue bearer part outputs (spent counter) h = tt
