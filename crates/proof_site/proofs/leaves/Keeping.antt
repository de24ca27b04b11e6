-- The tables of units go on to be in order: at first, where a terminal comes or is set up without messages, and after each answer.
use Rattle.std.proofs.Common.{◌≡◌, ◌<◌, ℕ, zero, suc, ◌+◌, Bool, true, false, cond, List, [], ◌∷◌, map, Option, Some, None, refl, sym, ap, ◌∙◌, subst, arith}
use Rattle.std.specs.Ordering.{nat_cmp, eq_by_cmp}
use Rattle.std.specs.declared.cmp.Ordering.TheVariants.{Less}
use Rattle.std.specs.Cmp.{nat_cmp_is}
use Rattle.std.specs.List.{AllByRecursion}
use Rattle.std.specs.List.Sorted.{IsStrictlySortedBy}
use Rattle.std.specs.Map.{keys_of}
use Rattle.gnb_types.specs.declared.names.Gnb.{Gnb}
use Rattle.gnb_types.specs.declared.names.Gnb.TheVariants.{A, B}
use Rattle.gnb_types.specs.declared.names.NodeId.{NodeId}
use Rattle.gnb_types.specs.declared.names.NodeId.TheVariants.{CuCp, CuUp as up_id, Du as du_id, Core, Ue}
use Rattle.gnb_types.specs.declared.names.UeId.{UeId}
use Rattle.gnb_types.specs.declared.names.BearerId.{BearerId}
use Rattle.gnb_types.specs.declared.plans.Plan.{Plan}
use Rattle.gnb_types.specs.declared.inputs.Input.{Input}
use Rattle.gnb_types.specs.declared.outputs.Output.{Output}
use Rattle.gnb_types.specs.Orders.{ue_cmp, node_cmp, bearer_cmp}
use Rattle.gnb_types.proofs.OrderLemmas.{ue_total, node_total}
use Rattle.tables.specs.Tables.{find, put, IsSorted}
use Rattle.tables.proofs.TableLaws.{find-put, sorted-put}
use Rattle.unit_defs.specs.Ways.{gives, spent}
use Rattle.unit_defs.specs.CuCpRecords.{CuCpRecord}
use Rattle.unit_defs.proofs.Terminals.{kept_sorted}
use Rattle.unit_defs.specs.Static.{cu_cp_placed, cu_cp_context}
use Rattle.unit_defs.specs.Ue.{UeNode, new_bearers, new_ue, placed}
use Rattle.unit_defs.specs.octet_defs.Codec.{Codec}
use Rattle.unit_defs.specs.octet_defs.Units.{OctetAnswer, cu_cp_steps, cu_up_steps, du_steps, ue_steps}
use Rattle.run_defs.specs.Units.{new_units, cu_cp_of, with_cu_cp, cu_up_of, with_cu_up, du_of, with_du, ue_of, with_ue}
use Rattle.run_defs.specs.Conditions.{units_placed, all_set_up}
use Rattle.run_defs.specs.UnitRuns.{Records, UnitAnswer, unit_gives, unit_spent, answered_with, ue_answers, tables}
use Rattle.proof_site.specs.lone_units.Lone.{EndsIn}
use Rattle.proof_site.specs.lone_units.Orders.{HasOrder, AreInOrder}
use Rattle.proof_site.specs.leaves.Settled.{AreSettled}
use Rattle.proof_site.proofs.leaves.Steps.{ue_steps_stay, cp_steps_end}

-- ---- a terminal that is put

ue_put : (r : Records) (ue : UeId) (x : UeNode) → AreSettled r → HasOrder x → AreSettled (with_ue r ue x)
ue_put r ue x s order = record {
  cu_cp_a = s.cu_cp_a;
  cu_cp_b = s.cu_cp_b;
  ups = s.ups;
  ues = sorted-put ue_total r.ues ue x s.ues;
  terminals = λ v u is. by v u (eq_by_cmp ue_cmp v ue) (sym (find-put ue_total r.ues ue x v) ∙ is);
}
  where
    by : (v : UeId) (u : UeNode) (b : Bool) → cond b (Some x) (find ue_cmp r.ues v) ≡ Some u → HasOrder u
    by v u true h = let same : x ≡ u = cc in subst (λ (y : UeNode). HasOrder y) same order
    by v u false h = s.terminals v u h

cp_put : (r : Records) (gnb : Gnb) (c : CuCpRecord (List ℕ) (List ℕ)) → AreSettled r → AreInOrder c → AreSettled (with_cu_cp r gnb c)
cp_put r A c s is = record { cu_cp_a = is; cu_cp_b = s.cu_cp_b; ups = s.ups; ues = s.ues; terminals = s.terminals }
cp_put r B c s is = record { cu_cp_a = s.cu_cp_a; cu_cp_b = is; ups = s.ups; ues = s.ues; terminals = s.terminals }

cp_is : (r : Records) (gnb : Gnb) → AreSettled r → AreInOrder (cu_cp_of r gnb)
cp_is r A s = s.cu_cp_a
cp_is r B s = s.cu_cp_b

-- ---- bearers of a new terminal

above : (i j n : ℕ) → i < j → AllByRecursion (λ y. bearer_cmp (record { 0 = i }) y ≡ Less) (keys_of (new_bearers j n))
above i j zero below = tt
above i j (suc n) below = (sym (nat_cmp_is i j Less below), above i (j + 1) n (omega arith))

new_order : (i n : ℕ) → IsStrictlySortedBy bearer_cmp (keys_of (new_bearers i n))
unfolding IsStrictlySortedBy
new_order i zero = tt
new_order i (suc n) = (above i (i + 1) n (omega arith), new_order (i + 1) n)

new_has_order : (plan : Plan) → HasOrder (new_ue plan)
unfolding new_ue
new_has_order plan = new_order 1 plan.bearers

placed_has_order : (plan : Plan) → HasOrder (placed (new_ue plan))
unfolding placed new_ue
placed_has_order plan = new_order 1 plan.bearers

pub settled_begin : AreSettled new_units
unfolding find IsStrictlySortedBy
settled_begin = record {
  cu_cp_a = tt;
  cu_cp_b = tt;
  ups = ((refl, (refl, (refl, tt))), ((refl, (refl, tt)), ((refl, tt), (tt, tt))));
  ues = tt;
  terminals = λ ue u is. absurd cc;
}

pub settled_come : (r : Records) (plan : Plan) → AreSettled r → AreSettled (with_ue r plan.ue (new_ue plan))
settled_come r plan s = ue_put r plan.ue (new_ue plan) s (new_has_order plan)

-- ---- set up without messages

same_keys : {K X : Type 0} (f : X → X) (m : List (K × X)) → keys_of (map (λ e. (e.0, f e.1)) m) ≡ keys_of m
same_keys f [] = refl
same_keys f (e ∷ es) = ap (λ ks. e.0 ∷ ks) (same_keys f es)

cp_placed_is : (c : CuCpRecord (List ℕ) (List ℕ)) (plan : Plan) → AreInOrder c → AreInOrder (cu_cp_placed c plan)
unfolding cu_cp_placed
cp_placed_is c plan p = kept_sorted c.terminals plan.ue (record { context = Some (cu_cp_context plan); taken = None }) p

set_up_settled : (r : Records) → AreSettled r → AreSettled (all_set_up r)
set_up_settled r s = record {
  cu_cp_a = s.cu_cp_a;
  cu_cp_b = s.cu_cp_b;
  ups = subst (λ (ks : List NodeId). IsStrictlySortedBy node_cmp ks) (sym (same_keys _ r.ups)) s.ups;
  ues = s.ues;
  terminals = s.terminals;
}

up_put : (r : Records) (gnb : Gnb) (number : ℕ) (x : _) → AreSettled r → AreSettled (with_cu_up r gnb number x)
up_put r gnb number x s =
    record { cu_cp_a = s.cu_cp_a; cu_cp_b = s.cu_cp_b; ups = sorted-put node_total r.ups (up_id gnb number) x s.ups; ues = s.ues; terminals = s.terminals }

du_put : (r : Records) (gnb : Gnb) (number : ℕ) (x : _) → AreSettled r → AreSettled (with_du r gnb number x)
du_put r gnb number x s = record { cu_cp_a = s.cu_cp_a; cu_cp_b = s.cu_cp_b; ups = s.ups; ues = s.ues; terminals = s.terminals }

pub settled_place : (r : Records) (plan : Plan) → AreSettled r → AreSettled (all_set_up (units_placed plan r))
settled_place r plan s =
    set_up_settled (units_placed plan r)
    (cp_put _ plan.gnb (cu_cp_placed (cu_cp_of r plan.gnb) plan)
    (du_put _ plan.gnb plan.du _ (up_put _ plan.gnb plan.up _ (ue_put r plan.ue (placed (new_ue plan)) s (placed_has_order plan))))
    (cp_placed_is (cu_cp_of r plan.gnb) plan (cp_is r plan.gnb s)))

-- ---- answers

SettledAfter : UnitAnswer → Type 0
SettledAfter (unit_gives outputs after) = AreSettled after
SettledAfter (unit_spent counter) = Unit {0}

module _ (codec : Codec) (r : Records) (s : AreSettled r) where
  cp_after : (gnb : Gnb) (a : OctetAnswer (CuCpRecord (List ℕ) (List ℕ))) → EndsIn (λ c. AreInOrder c) a → SettledAfter (answered_with codec (with_cu_cp r gnb) a)
  unfolding SettledAfter
  cp_after gnb (gives outputs c) h = cp_put r gnb c s h
  cp_after gnb (spent counter) h = tt

  any_after : {R : Type 0} (back : R → Records) → ((x : R) → AreSettled (back x)) → (a : OctetAnswer R) → SettledAfter (answered_with codec back a)
  unfolding SettledAfter
  any_after back each (gives outputs x) = each x
  any_after back each (spent counter) = tt

  ue_after : (ue : UeId) (a : OctetAnswer UeNode) → EndsIn HasOrder a → SettledAfter (answered_with codec (with_ue r ue) a)
  unfolding SettledAfter
  ue_after ue (gives outputs u) h = ue_put r ue u s h
  ue_after ue (spent counter) h = tt

  ue_settles : (ue : ℕ) (input : Input) (u : Option UeNode) → ue_of r (record { 0 = ue }) ≡ u → SettledAfter (ue_answers codec r ue input u)
  unfolding SettledAfter
  ue_settles ue input None there = s
  ue_settles ue input (Some u) there =
      ue_after (record { 0 = ue }) (ue_steps codec u input) (ue_steps_stay codec u input (s.terminals (record { 0 = ue }) u there)).1

  tables_settle : (node : NodeId) (input : Input) → SettledAfter (tables codec r node input)
  unfolding tables SettledAfter
  tables_settle (CuCp gnb) input = cp_after gnb (cu_cp_steps codec (cu_cp_of r gnb) input) (cp_steps_end codec (cu_cp_of r gnb) input (cp_is r gnb s))
  tables_settle (up_id gnb number) input = any_after (with_cu_up r gnb number) (λ x. up_put r gnb number x s) (cu_up_steps codec (cu_up_of r gnb number) input)
  tables_settle (du_id gnb number) input = any_after (with_du r gnb number) (λ x. du_put r gnb number x s) (du_steps codec (du_of r gnb number) input)
  tables_settle (Ue ue) input = ue_settles ue input (ue_of r (record { 0 = ue })) refl
  tables_settle Core input = s

  pub settled_answer : (node : NodeId) (input : Input) (outputs : List Output) (after : Records) → tables codec r node input ≡ unit_gives outputs after → AreSettled after
  unfolding SettledAfter
  settled_answer node input outputs after is = subst SettledAfter is (tables_settle node input)
