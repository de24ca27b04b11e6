-- The first context of a bearer: one that is made for an attach, and one that is set up without messages.
use Rattle.std.proofs.Common.{◌≡◌, ℕ, ◌+◌, ◌==◌, Bool, true, false, cond, if◌then◌else◌, List, [], ◌∷◌, Option, Some, None, refl, sym, ap, subst, ◌∙◌, arith}
use Rattle.std.specs.Ordering.{eq_by_cmp}
use Rattle.gnb_types.specs.declared.names.Gnb.{Gnb}
use Rattle.gnb_types.specs.declared.names.NodeId.TheVariants.{Du as du_id}
use Rattle.gnb_types.specs.declared.names.SnBits.{SnBits}
use Rattle.gnb_types.specs.declared.names.UeId.{UeId}
use Rattle.gnb_types.specs.declared.names.BearerId.{BearerId}
use Rattle.gnb_types.specs.declared.plans.Plan.{Plan}
use Rattle.gnb_types.specs.Orders.{bearer_cmp}
use Rattle.tables.specs.Tables.{find}
use Rattle.unit_defs.specs.CuUpRecords.{CuUpBearer, DownlinkTunnel, CuUp}
use Rattle.unit_defs.specs.CuUpBearers.{made}
use Rattle.unit_defs.specs.CuUp.{bearers_from, bearers_made}
use Rattle.unit_defs.specs.Static.{with_downlinks, cu_up_context}
use Rattle.bearer_defs.specs.chain_defs.Models.{set}
use Rattle.bearer_defs.specs.chain_defs.Models as down_models
use Rattle.bearer_defs.specs.chain_defs.Orders as down
use Rattle.bearer_defs.specs.chain_defs.Assumptions as down_assumptions
use Rattle.bearer_defs.specs.uplink_defs.Models as up_models
use Rattle.law_downlink_order.proofs.chain.Frames.{set_here}
use Rattle.proof_cu_up_orders.specs.context_orders.Orders.{CuUpModel, model_with, model_of_bearer, model_in}
use Rattle.proof_cu_up_orders.specs.down_orders.Down.{down_of, new_model}
use Rattle.proof_cu_up_orders.specs.bearer_orders.Down as downs
use Rattle.proof_cu_up_orders.specs.bearer_orders.Up as ups
use Rattle.proof_cu_up_orders.specs.bearer_orders.Starts.{only, with_downlink, DownStarts, UpStarts}

module _ (first : ℕ) (p : CuUpModel) where
  down_only : (sn : SnBits) (quota : ℕ) (m : down_models.Member) → downs.IsIn sn quota m (Some p) → (x : ℕ)
      → downs.IsIn sn quota (set (λ q. down_models.no_member) first m x) (only first p x)
  down_only sn quota m is x = by (x == first)
    where
      by : (b : Bool) → downs.IsIn sn quota (if b then m else down_models.no_member) (if b then Some p else None)
      by true = is
      by false = refl

  down_twice : (sn : SnBits) (quota : ℕ) (m n : down_models.Member) → downs.IsIn sn quota n (Some p) → (x : ℕ)
      → downs.IsIn sn quota (set (set (λ q. down_models.no_member) first m) first n x) (only first p x)
  down_twice sn quota m n is x = by (x == first)
    where
      by : (b : Bool) → downs.IsIn sn quota (if b then n else (if b then m else down_models.no_member)) (if b then Some p else None)
      by true = is
      by false = refl

  up_only : (m : up_models.Member) → ups.IsIn m (Some p) → (x : ℕ) → ups.IsIn (set (λ q. up_models.no_member) first m x) (only first p x)
  up_only m is x = by (x == first)
    where
      by : (b : Bool) → ups.IsIn (if b then m else up_models.no_member) (if b then Some p else None)
      by true = is
      by false = refl

-- ---- made for an attach

pub made_down : (sn : SnBits) (quota first teid : ℕ) (ue : UeId) (bearer : BearerId) (instance : ℕ)
    → downs.Has sn quota (down_models.initial first teid) (only first (new_model ue bearer instance sn quota false teid))
unfolding down_models.initial
made_down sn quota first teid ue bearer instance =
    down_only first (new_model ue bearer instance sn quota false teid) sn quota (down_models.new_member false teid)
    (record { there = refl; flags = refl; bearer = refl }, refl, refl)

pub made_up : (sn : SnBits) (quota first teid : ℕ) (ue : UeId) (bearer : BearerId) (instance : ℕ)
    → ups.Has (up_models.initial first teid) (only first (new_model ue bearer instance sn quota false teid))
unfolding up_models.initial
made_up sn quota first teid ue bearer instance =
    up_only first (new_model ue bearer instance sn quota false teid) (up_models.new_member false teid) (record { there = refl; flags = refl; bearer = refl })

-- ---- set up without messages: its downlink is there already

placed_is : (gnb : Gnb) (du : ℕ) (bearer : BearerId) (b : CuUpBearer) (bs : List BearerId) (next teid : ℕ)
    → find bearer_cmp (with_downlinks gnb du next (bearers_made false teid bs)) bearer ≡ Some b
    → (t : ℕ) × (d : ℕ) × (b ≡ with_downlink t (record { du = du_id gnb du; teid = d; next = 0 }))
unfolding find
placed_is gnb du bearer b [] next teid h = absurd cc
placed_is gnb du bearer b (q ∷ bs) next teid h = by (eq_by_cmp bearer_cmp bearer q) h (placed_is gnb du bearer b bs (next + 1) (teid + 2))
  where
    one : CuUpBearer
    one = with_downlink teid (record { du = du_id gnb du; teid = next; next = 0 })

    by : (t : Bool) → cond t (Some one) (find bearer_cmp (with_downlinks gnb du (next + 1) (bearers_made false (teid + 2) bs)) bearer) ≡ Some b
        → (find bearer_cmp (with_downlinks gnb du (next + 1) (bearers_made false (teid + 2) bs)) bearer ≡ Some b
        → (t : ℕ) × (d : ℕ) × (b ≡ with_downlink t (record { du = du_id gnb du; teid = d; next = 0 })))
        → (t : ℕ) × (d : ℕ) × (b ≡ with_downlink t (record { du = du_id gnb du; teid = d; next = 0 }))
    by true e more = let same : one ≡ b = cc in (teid, next, sym same)
    by false e more = more e

module _ (sn : SnBits) (quota first teid : ℕ) (ue : UeId) (bearer : BearerId) (instance : ℕ) (d : DownlinkTunnel) where
  abbrev p : CuUpModel
  p = record (new_model ue bearer instance sn quota false teid) { bearer = with_downlink teid d }

  abbrev s : down_models.Model
  s = down_models.initial first teid

  down_set_up : DownStarts sn quota first teid d p
  unfolding down_models.initial down.run down.after down_assumptions.AreKept down_assumptions.IsReady down_assumptions.IsAssumed made
  down_set_up =
      let m : down_models.Member = down_models.new_member false teid in
      let here : set (λ q. down_models.no_member) first m first ≡ m = set_here (λ q. down_models.no_member) first m in (
        (ap (λ k. k.is_there) here, (refl, omega arith), tt),
        down_twice first p sn quota m
            (record (set (λ q. down_models.no_member) first m first) {
              flags = record (set (λ q. down_models.no_member) first m first).flags { frozen = false; arrived = true };
              bearer = down.on_downlink (set (λ q. down_models.no_member) first m first).bearer d;
              epoch = 0;
            }) (
              record {
                there = ap (λ k. k.is_there) here;
                flags = ap (λ k. record k.flags { frozen = false; arrived = true }) here;
                bearer = ap (λ k. down_of (down.on_downlink k.bearer d)) here;
              },
              refl,
              refl,
            ),
      )

  cu_up_set_up : UpStarts first teid p
  unfolding up_models.initial made
  cu_up_set_up = up_only first p (up_models.new_member false teid) (record { there = refl; flags = refl; bearer = refl })

module _ {M C : Type 0} (r : CuUp M C) (plan : Plan) (next : ℕ) (ue : UeId) (bearer : BearerId) (first : ℕ) where
  pub set_up_starts : (p : CuUpModel) → model_in ue bearer (Some (cu_up_context r plan next)) ≡ Some p
      → (teid : ℕ) × (d : DownlinkTunnel) × DownStarts plan.sn plan.quota first teid d p × UpStarts first teid p
  set_up_starts p there = by (find bearer_cmp (cu_up_context r plan next).bearers bearer) refl there
    where
      by : (o : Option CuUpBearer) → find bearer_cmp (cu_up_context r plan next).bearers bearer ≡ o
          → model_of_bearer ue (cu_up_context r plan next) bearer o ≡ Some p
          → (teid : ℕ) × (d : DownlinkTunnel) × DownStarts plan.sn plan.quota first teid d p × UpStarts first teid p
      by None found is = absurd cc
      by (Some b) found is =
          let shape = placed_is r.gnb plan.du bearer b (bearers_from 1 plan.bearers) next r.next_teid found in
          let d : DownlinkTunnel = record { du = du_id r.gnb plan.du; teid = shape.1; next = 0 } in
          let same : model_with ue (cu_up_context r plan next) bearer (with_downlink shape.0 d) ≡ p =
          ap (model_with ue (cu_up_context r plan next) bearer) (sym shape.2) ∙ some_same (model_with ue (cu_up_context r plan next) bearer b) p is in (
            shape.0,
            d,
            subst (λ q. DownStarts plan.sn plan.quota first shape.0 d q) same (down_set_up plan.sn plan.quota first shape.0 ue bearer r.next_teid d),
            subst (λ q. UpStarts first shape.0 q) same (cu_up_set_up plan.sn plan.quota first shape.0 ue bearer r.next_teid d),
          )
        where
          some_same : (a c : CuUpModel) → Some a ≡ Some c → a ≡ c
          some_same a c e = cc
