-- Units of which one changes, and a terminal that is set up without messages: nothing is stored yet.
use Rattle.std.proofs.Common.{◌≡◌, ℕ, ◌+◌, Bool, true, false, cond, List, [], ◌∷◌, Option, Some, None, refl, sym, ◌∙◌, subst}
use Rattle.std.specs.Prelude.{unwrap_or}
use Rattle.std.specs.Ordering.{eq_by_cmp}
use Rattle.std.specs.Option.{option_map}
use Rattle.std.specs.BTreeMap.{is_at}
use Rattle.gnb_types.specs.declared.names.Gnb.{Gnb}
use Rattle.gnb_types.specs.declared.names.Gnb.TheVariants.{A, B}
use Rattle.gnb_types.specs.declared.names.UeId.{UeId}
use Rattle.gnb_types.specs.declared.names.BearerId.{BearerId}
use Rattle.gnb_types.specs.declared.names.NodeId.TheVariants.{CuUp as up_id}
use Rattle.gnb_types.specs.declared.plans.Plan.{Plan}
use Rattle.gnb_types.specs.Orders.{node_cmp, ue_cmp}
use Rattle.gnb_types.proofs.OrderLemmas.{node_total, ue_total}
use Rattle.tables.specs.Tables.{find, at}
use Rattle.tables.proofs.TableLaws.{at-put, find-put}
use Rattle.unit_defs.specs.CuCpRecords.{CuCpRecord}
use Rattle.unit_defs.specs.CuUpRecords.{CuUpBearer, CuUpFlags, CuUp}
use Rattle.unit_defs.specs.CuUp.{new_cu_up, bearers_from, bearers_made}
use Rattle.unit_defs.specs.Du.{Du}
use Rattle.unit_defs.specs.Static.{with_downlinks, cu_up_context, cu_up_placed, du_placed, cu_cp_placed, cu_up_set_up}
use Rattle.unit_defs.specs.Ue.{UeNode, new_ue, placed}
use Rattle.run_defs.specs.Units.{Units, new_units, cu_cp_of, with_cu_cp, cu_up_of, with_cu_up, du_of, with_du, with_ue}
use Rattle.run_defs.specs.Conditions.{units_placed, all_set_up}
use Rattle.proof_run_steps.proofs.teids.Placed.{find_mapped}
use Rattle.proof_unit_steps.specs.receivers.Ready.{BearersStore, CuUpReady, UeReady}
use Rattle.proof_run_steps.specs.receivers.AllReady.{AreReady}
use Rattle.proof_unit_steps.proofs.receivers.CuUps.{contexts_put, made_store}
use Rattle.proof_unit_steps.proofs.receivers.Terminals.{new_ready}

-- downlinks change no receiver
down_store : (flags : CuUpFlags) (gnb : Gnb) (du next : ℕ) (es : List (BearerId × CuUpBearer)) → BearersStore flags es → BearersStore flags (with_downlinks gnb du next es)
down_store flags gnb du next [] all = tt
down_store flags gnb du next (e ∷ es) all = (all.0, down_store flags gnb du (next + 1) es all.1)

pub new_is_ready : (plan : Plan) → UeReady (new_ue plan)
unfolding new_ue
new_is_ready plan = new_ready (new_ue plan) 1 plan.bearers refl

placed_is_ready : (plan : Plan) → UeReady (placed (new_ue plan))
unfolding new_ue placed
placed_is_ready plan = new_ready (placed (new_ue plan)) 1 plan.bearers refl

module _ {M C : Type 0} where
  up_ready_placed : (r : CuUp M C) (plan : Plan) (downlink : ℕ) → CuUpReady r → CuUpReady (cu_up_placed r plan downlink)
  unfolding cu_up_placed
  up_ready_placed r plan downlink p =
      contexts_put r.contexts plan.ue (cu_up_context r plan downlink) p
      (down_store (cu_up_context r plan downlink).flags r.gnb plan.du downlink (bearers_made false r.next_teid (bearers_from 1 plan.bearers))
      (made_store (cu_up_context r plan downlink).flags false r.next_teid (bearers_from 1 plan.bearers)))

  pub with_up_ready : (u : Units M C) (gnb : Gnb) (number : ℕ) (r : CuUp M C) → AreReady u → CuUpReady r → AreReady (with_cu_up u gnb number r)
  with_up_ready u gnb number r p h = (
    λ g n. subst (λ (x : CuUp M C). CuUpReady x) (sym (at-put node_total (new_cu_up g n) u.ups (up_id gnb number) r (up_id g n)))
        (by g n (eq_by_cmp node_cmp (up_id g n) (up_id gnb number))),
    p.1,
  )
    where
      by : (g : Gnb) (n : ℕ) (t : Bool) → CuUpReady (cond t r (cu_up_of u g n))
      by g n true = h
      by g n false = p.0 g n

  pub with_ue_ready : (u : Units M C) (ue : UeId) (x : UeNode) → AreReady u → UeReady x → AreReady (with_ue u ue x)
  with_ue_ready u ue x p h = (p.0, λ v y e. by v y (eq_by_cmp ue_cmp v ue) (sym (find-put ue_total u.ues ue x v) ∙ e))
    where
      by : (v : UeId) (y : UeNode) (t : Bool) → cond t (Some x) (find ue_cmp u.ues v) ≡ Some y → UeReady y
      by v y true e = let same : x ≡ y = cc in subst UeReady same h
      by v y false e = p.1 v y e

  pub with_cp_ready : (u : Units M C) (gnb : Gnb) (r : CuCpRecord M C) → AreReady u → AreReady (with_cu_cp u gnb r)
  with_cp_ready u A r p = p
  with_cp_ready u B r p = p

  pub with_du_ready : (u : Units M C) (gnb : Gnb) (number : ℕ) (r : Du M C) → AreReady u → AreReady (with_du u gnb number r)
  with_du_ready u gnb number r p = p

  set_up_ready : (u : Units M C) → AreReady u → AreReady (all_set_up u)
  unfolding at
  set_up_ready u p = (ups, p.1)
    where
      up_by : (g : Gnb) (n : ℕ) (o : Option (CuUp M C)) → CuUpReady (unwrap_or o (new_cu_up g n)) → CuUpReady (unwrap_or (option_map cu_up_set_up o) (new_cu_up g n))
      up_by g n None h = h
      up_by g n (Some r) h = h

      ups : (g : Gnb) (n : ℕ) → CuUpReady (cu_up_of (all_set_up u) g n)
      ups g n =
          subst (λ (o : Option (CuUp M C)). CuUpReady (unwrap_or o (new_cu_up g n))) (sym (find_mapped node_cmp cu_up_set_up u.ups (up_id g n)))
          (up_by g n (find node_cmp u.ups (up_id g n)) (p.0 g n))

  pub placed_ready : (u : Units M C) (plan : Plan) → AreReady u → AreReady (all_set_up (units_placed plan u))
  placed_ready u plan p =
      let up : CuUp M C = cu_up_of u plan.gnb plan.up in
      let du : Du M C = du_of u plan.gnb plan.du in
      let a : Units M C = with_ue u plan.ue (placed (new_ue plan)) in
      let b : Units M C = with_cu_up a plan.gnb plan.up (cu_up_placed up plan du.next_teid) in
      let c : Units M C = with_du b plan.gnb plan.du (du_placed du plan (up.next_teid + 1)) in
      set_up_ready (units_placed plan u)
      (with_cp_ready c plan.gnb (cu_cp_placed (cu_cp_of u plan.gnb) plan)
      (with_du_ready b plan.gnb plan.du (du_placed du plan (up.next_teid + 1))
      (with_up_ready a plan.gnb plan.up (cu_up_placed up plan du.next_teid) (with_ue_ready u plan.ue (placed (new_ue plan)) p (placed_is_ready plan))
      (up_ready_placed up plan du.next_teid (p.0 plan.gnb plan.up)))))

pub first_ready : (M C : Type 0) → AreReady (new_units {M = M} {C = C})
unfolding at find
first_ready M C = (ups, λ ue u e. absurd cc)
  where
    up_by : (g : Gnb) (k : ℕ) (a b c d : Bool) → CuUpReady (unwrap_or (cond a (Some (new_cu_up {M = M} {C = C} A 1)) (cond b (Some (new_cu_up A 2)) (cond c (Some (new_cu_up B 1))
        (cond d (Some (new_cu_up B 2)) None)))) (new_cu_up g k))
    up_by g k true b c d = λ ue x e. absurd cc
    up_by g k false true c d = λ ue x e. absurd cc
    up_by g k false false true d = λ ue x e. absurd cc
    up_by g k false false false true = λ ue x e. absurd cc
    up_by g k false false false false = λ ue x e. absurd cc

    ups : (g : Gnb) (k : ℕ) → CuUpReady (cu_up_of (new_units {M = M} {C = C}) g k)
    ups g k =
        up_by g k (is_at (node_cmp (up_id g k)) (up_id A 1)) (is_at (node_cmp (up_id g k)) (up_id A 2)) (is_at (node_cmp (up_id g k)) (up_id B 1))
        (is_at (node_cmp (up_id g k)) (up_id B 2))
