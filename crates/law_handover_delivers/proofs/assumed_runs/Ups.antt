-- A step of a CU-UP of which only what is assumed is asked leaves a bearer's contexts well-linked.
use Rattle.std.proofs.Common.{inl, inr, ◌≡◌, ◌≢◌, ◌⊎◌, ◌==◌, ◌≤◌, ◌+◌, ℕ, Bool, true, false, List, [], ◌∷◌, ◌++◌, map, Option, Some, None, refl, sym, ap, subst, ◌∙◌, eqb-true}
use Rattle.gnb_types.specs.declared.names.Gnb.{Gnb}
use Rattle.gnb_types.specs.declared.names.NodeId.{NodeId}
use Rattle.gnb_types.specs.declared.names.NodeId.TheVariants.{CuUp as up_id}
use Rattle.gnb_types.specs.declared.names.SnBits.{SnBits}
use Rattle.gnb_types.specs.declared.names.UeId.{UeId}
use Rattle.gnb_types.specs.declared.names.BearerId.{BearerId}
use Rattle.gnb_types.specs.declared.outputs.Tag.TheVariants.{Absent}
use Rattle.message_types.specs.declared.rrc.Token.{Token}
use Rattle.unit_defs.specs.Ways.{Message, Pdu, Input, Answer, gives, spent, nothing, ◌then◌}
use Rattle.unit_defs.specs.CuUpRecords.{CuUpBearer, CuUpScope, CuUpFlags}
use Rattle.unit_defs.specs.CuUpBearers.{made, with_uplink, switched, frozen_to, with_status, resumed, framed}
use Rattle.unit_defs.specs.CuUpItems.{took}
use Rattle.unit_defs.specs.CuUp.{new_flags_of}
use Rattle.run_defs.specs.Units.{cu_up_of, with_cu_up}
use Rattle.run_defs.specs.Runs.{Reading, Plain, plain_world, plain_way}
use Rattle.proof_run_steps.specs.teids.Given.{below, GiveOnce}
use Rattle.proof_cu_up_orders.specs.context_tests.Tests.{is_final, EndsAfter, IsTested, AreTested}
use Rattle.proof_cu_up_orders.proofs.context_tests.Tests.{orders_tested}
use Rattle.proof_cu_up_orders.specs.context_stands.Stands.{Stands, StandsAfter}
use Rattle.proof_cu_up_orders.proofs.context_stands.Stands.{stand}
use Rattle.bearer_defs.specs.chain_defs.Models as down_models
use Rattle.bearer_defs.specs.chain_defs.Orders as down
use Rattle.bearer_defs.specs.chain_defs.Assumptions as down_assumptions
use Rattle.bearer_defs.specs.uplink_defs.Models as up_models
use Rattle.bearer_defs.specs.uplink_defs.Orders as up
use Rattle.law_downlink_order.proofs.chain.Frames.{set_here, set_far}
use Rattle.proof_cu_up_orders.proofs.bearer_orders.Down.{not_same}
use Rattle.proof_cu_up_orders.specs.context_orders.Orders.{CuUpModel, model_of, ContextStep, makes, adds, switches, freezes, knows, resumes, releases, closes, takes, polls, on_switch, on_freeze, on_status, on_resume, on_release, kept_in, begun, done, carried, carried_out}
use Rattle.proof_cu_up_orders.specs.context_orders.Inputs.{orders_of}
use Rattle.proof_cu_up_orders.specs.context_orders.Shown.{Comes}
use Rattle.proof_cu_up_orders.specs.down_orders.Down as down_rows
use Rattle.proof_cu_up_orders.specs.orders.Up as up_rows
use Rattle.proof_cu_up_orders.specs.bearer_orders.Happenings.{Beside, Happening, asks, Contexts, kept_of, context_after, contexts_after}
use Rattle.proof_cu_up_orders.specs.bearer_orders.Down as downs
use Rattle.proof_cu_up_orders.specs.bearer_orders.Up as ups
use Rattle.proof_cu_up_orders.specs.bearer_lists.Puts.{hop_after}
use Rattle.proof_cu_up_orders.specs.bearer_lists.Down as down_lists
use Rattle.proof_cu_up_orders.specs.bearer_lists.Up as up_lists
use Rattle.law_tunnels_are_owned.specs.run_tunnels.Own.{TunnelsHoldTheirOwn}
use Rattle.proof_bearer_refinement.specs.run_unit_inputs.Happenings.{CuUpRecord, kept_of as kept_record}
use Rattle.proof_bearer_refinement.specs.run_bearers.Things.{PlainUnits, takes as gets, after_things}
use Rattle.proof_bearer_refinement.specs.run_bearers.Bearers.{Place, Numbering, contexts_of, asked, after_changes, instance_in, if_given, changes_over, AllInOrder}
use Rattle.proof_bearer_refinement.proofs.run_bearers.Bearers.{things_go}
use Rattle.proof_bearer_refinement.specs.refinement_facts.Refinements.{RunState, Owned, owned_on}
use Rattle.proof_bearer_refinement.specs.refinement_facts.Asked.{RunCause, IsUpStep, context_at, Asks, AsksIn, AllAsk, down_after, up_after, Refines, AreSound}
use Rattle.proof_bearer_refinement.proofs.refinement_facts.Ends.{clash}
use Rattle.proof_bearer_refinement.proofs.refinement_facts.Puts.{Outs}
use Rattle.proof_bearer_refinement.proofs.du_puts.Apart.{place, contexts_same, IsAt, at_end}
use Rattle.proof_bearer_refinement.proofs.du_puts.Stands.{ups_stay}
use Rattle.proof_bearer_refinement.proofs.cu_up_opens.Opened.{units_then}
use Rattle.law_handover_delivers.specs.assumptions.WellLinked.{IsOld, WasGiven, EndsWereGiven, IsWellLinked, AreWellLinked}
use Rattle.law_handover_delivers.specs.assumptions.Assumed.{OfFreeze, Assumes, AssumesIn, AllAssume, final_asks}
use Rattle.law_handover_delivers.proofs.assumptions.Rooms.{HasRoom, up_here, made_room}
use Rattle.law_handover_delivers.proofs.assumptions.Goes.{down_moved, up_moved, ends_then, other_down_then, other_up_then, leads_then}
use Rattle.law_handover_delivers.proofs.assumptions.Steps as its
use Rattle.law_handover_delivers.specs.assumed_runs.Assuming.{NoneIsZero}
use Rattle.law_handover_delivers.proofs.assumed_runs.Grows.{none_at_zero, zero_old, well_linked_by, grows}

shape : (a : Answer (Message Token) Pdu (Option CuUpModel)) (os : List (ContextStep Pdu)) → EndsAfter os a → (os ≡ []) ⊎ (os ≡ closes ∷ [])
shape a [] h = inl refl
shape a (closes ∷ []) h = inr refl
shape a os h = absurd h

-- ---- the flags that an order leaves

kept_at : (q : CuUpModel) (a : Answer (Message Token) Pdu CuUpBearer) (more : Outs) (q1 : CuUpModel) → kept_in q a ≡ gives more (Some q1) → q1.at ≡ q.at
kept_at q (gives os c) more q1 is = let same : record q { bearer = c } ≡ q1 = cc in sym (ap (λ (w : CuUpModel). w.at) same)
kept_at q (spent counter) more q1 is = absurd cc

abbrev IsLeftFrozen : CuUpFlags → Type 0
IsLeftFrozen f = f.released ≡ true → f.frozen ≡ true

by_flags : (q1 : CuUpModel) (at : CuUpScope) → q1.at ≡ at → IsLeftFrozen at.flags → IsLeftFrozen q1.at.flags
by_flags q1 at is h = subst (λ (w : CuUpScope). IsLeftFrozen w.flags) (sym is) h

module _ (n : Numbering) (ue : UeId) (bearer : BearerId) (units : PlainUnits) (d : down_models.Model) (u : up_models.Model) (x : ℕ) (b : Beside) (q q1 : CuUpModel)
    (more : Outs) (is_down : down_rows.IsDown (d.members x) q) (frozen : IsLeftFrozen q.at.flags) where
  not_released : q.at.flags.released ≡ false → {X : Type 0} → q.at.flags.released ≡ true → X
  not_released kept {X} its_true = clash (sym kept ∙ its_true)

  pub left_frozen : (ord : ContextStep Pdu) → IsTested b.final q ord → Assumes n ue bearer units d u x b q ord → done plain_way ord q ≡ gives more (Some q1)
      → IsLeftFrozen q1.at.flags
  unfolding down_assumptions.IsAssumed
  left_frozen (makes instance sn quota target first) tested assumed at = absurd tested
  left_frozen closes tested assumed at = absurd cc
  left_frozen (adds first) tested assumed at = by_flags q1 q.at (kept_at q (with_uplink plain_way first q.bearer) more q1 at) frozen
  left_frozen (switches du first) tested assumed at =
      by_flags q1 (on_switch q).at (kept_at (on_switch q) (switched plain_way (on_switch q).at du first q.bearer) more q1 at) (λ its_true. not_released assumed.asked_down its_true)
  left_frozen (freezes peer down_teid up_teid) tested assumed at =
      by_flags q1 (on_freeze q).at (kept_at (on_freeze q) (frozen_to plain_way (on_freeze q).at peer down_teid up_teid q.bearer) more q1 at) (λ its_true. refl)
  left_frozen (knows status) tested assumed at =
      by_flags q1 (on_status q).at (kept_at (on_status q) (with_status plain_way (on_status q).at status q.bearer) more q1 at) frozen
  left_frozen resumes tested assumed at =
      by_flags q1 (on_resume q).at (kept_at (on_resume q) (resumed plain_way (on_resume q).at q.bearer) more q1 at) (λ its_true. not_released assumed.asked_down.0 its_true)
  left_frozen releases tested assumed at =
      let same : on_release q ≡ q1 = cc in
      by_flags q1 (on_release q).at (sym (ap (λ (w : CuUpModel). w.at) same)) (λ its_true. sym (ap (λ (f : CuUpFlags). f.frozen) is_down.flags) ∙ assumed.down.0)
  left_frozen (takes kind from it) tested assumed at = by_flags q1 q.at (kept_at q (took plain_way q.at kind from it q.bearer) more q1 at) frozen
  left_frozen polls tested assumed at = by_flags q1 q.at (kept_at q (framed plain_way q.at true false None Absent q.bearer) more q1 at) frozen

-- ---- what is asked of a context is what happens to it

same_after : (ue : UeId) (bearer : BearerId) (x : ℕ) (b : Beside) (os : List (ContextStep Pdu)) (cs : Contexts)
    → after_changes ue bearer cs (map (λ (o : ContextStep Pdu). asked x o) os ++ []) ≡ contexts_after plain_way ue bearer cs (map (λ (o : ContextStep Pdu). asks x o b) os)
unfolding contexts_after
same_after ue bearer x b [] cs = refl
same_after ue bearer x b (o ∷ os) cs = same_after ue bearer x b os (context_after plain_way ue bearer cs (asks x o b))

module _ (reading : Reading) (n : Numbering) (ue : UeId) (bearer : BearerId) (s t : RunState) (gnb : Gnb) (number : ℕ) (cause : RunCause) (input : Input Token Pdu)
    (outputs : Outs) (v : CuUpRecord) (step : IsUpStep reading s t gnb number cause input outputs v) (sound : AreSound s t) (own : TunnelsHoldTheirOwn s)
    (sn : SnBits) (quota : ℕ) (d : down_models.Model) (u : up_models.Model) (refined : Refines n ue bearer sn quota s d u) (b0 : Beside)
    (well_linked : AreWellLinked n ue bearer s.units d u (contexts_of n ue bearer s.units)) where
  abbrev r : CuUpRecord
  r = cu_up_of s.units gnb number

  abbrev p : Option CuUpModel
  p = model_of r ue bearer

  abbrev x : ℕ
  x = context_at n ue bearer s.units gnb number

  abbrev cs : Contexts
  cs = contexts_of n ue bearer s.units

  abbrev orders : List (ContextStep Pdu)
  orders = orders_of plain_way r ue bearer input

  abbrev b : Beside
  b = its.b reading n ue bearer s t gnb number cause input outputs v step sound own sn quota d u refined b0 well_linked

  abbrev happens : List (ContextStep Pdu) → List (Happening Pdu)
  happens os = map (λ (ord : ContextStep Pdu). asks x ord b) os

  cs_here : cs x ≡ p
  cs_here = its.cs_here reading n ue bearer s t gnb number cause input outputs v step sound own

  is_down : (q : CuUpModel) → p ≡ Some q → down_rows.IsDown (d.members x) q
  is_down = its.is_down reading n ue bearer s t gnb number cause input outputs v step sound own sn quota d u refined b0 well_linked

  -- ---- the contexts then

  in_order : AllInOrder s.units
  in_order g k = (sound.owned.0 g k).1

  contexts_with : contexts_of n ue bearer (with_cu_up s.units gnb number v) ≡ contexts_after plain_way ue bearer cs (happens orders)
  unfolding after_things changes_over
  contexts_with =
      ap (λ (answer : Plain CuUpRecord). contexts_of n ue bearer (with_cu_up s.units gnb number (kept_record r answer))) (sym step.answers)
      ∙ (things_go n ue bearer s.units (gets (up_id gnb number) input ∷ []) in_order).1
      ∙ ap (λ (answer : Plain CuUpRecord). after_changes ue bearer cs (if_given answer (map (λ (o : ContextStep Pdu). asked x o) orders) ++ [])) step.answers
      ∙ same_after ue bearer x b orders cs

  contexts_then : contexts_of n ue bearer t.units ≡ contexts_after plain_way ue bearer cs (happens orders)
  contexts_then =
      contexts_same n ue bearer (with_cu_up s.units gnb number v) t.units
      (ap (λ (w : PlainUnits). w.ups) (units_then reading n ue bearer s t gnb number cause input outputs v step sound)
      ∙ ups_stay (plain_world reading) cause (with_cu_up s.units gnb number v))
      ∙ contexts_with

  -- ---- other contexts: where their hops lead stays

  abbrev FarDown : down_models.Model → down_models.Model → Type 0
  FarDown e f = (y : ℕ) → y ≢ x → (f.members y).next_hop ≡ (e.members y).next_hop

  abbrev FarUp : up_models.Model → up_models.Model → Type 0
  FarUp e f = (y : ℕ) → y ≢ x → (f.members y).next_hop ≡ (e.members y).next_hop

  end_far_down : (e : down_models.Model) (o : Option CuUpModel) → FarDown e (down.run e (downs.orders_in {P = Pdu} x b o closes))
  unfolding down.run down.after
  end_far_down e None y far = refl
  end_far_down e (Some q) y far = ap (λ (m : down_models.Member). m.next_hop) (set_far e.members x _ y far)

  end_far_up : (e : up_models.Model) (o : Option CuUpModel) → FarUp e (up.run e (ups.orders_in {P = Pdu} x b o closes))
  unfolding up.run up.after
  end_far_up e None y far = refl
  end_far_up e (Some q) y far = by (ups.is_done q)
    where
      by : (t : Bool) → ((up.run e (ups.end_of x t ∷ [])).members y).next_hop ≡ (e.members y).next_hop
      by true = ap (λ (m : up_models.Member). m.next_hop) (set_far e.members x _ y far)
      by false = ap (λ (m : up_models.Member). m.next_hop) (set_far e.members x _ y far)

  anew_far_down : (ord : ContextStep Pdu) → FarDown d (down.run d (downs.orders_anew x ord))
  unfolding down.run down.after
  anew_far_down (makes instance its_sn its_quota target first) y far = ap (λ (m : down_models.Member). m.next_hop) (set_far d.members x _ y far)
  anew_far_down ord y far = refl

  anew_far_up : (ord : ContextStep Pdu) → FarUp u (up.run u (ups.orders_anew x ord))
  unfolding up.run up.after
  anew_far_up (makes instance its_sn its_quota target first) y far = ap (λ (m : up_models.Member). m.next_hop) (set_far u.members x _ y far)
  anew_far_up ord y far = refl

  -- ---- a context that is made

  module _ (positive : NoneIsZero n) where
    number_is : (none : p ≡ None) → x ≡ n.number_of (place gnb number r.next_teid)
    number_is none = ap (λ (o : Option CuUpModel). n.number_of (place gnb number (instance_in r.next_teid o))) none

    made_well_linked : (instance its_quota : ℕ) (its_sn : SnBits) (target : Bool) (first : ℕ) → p ≡ None
        → model_of v ue bearer ≡ begun {P = Pdu} ue bearer (makes instance its_sn its_quota target first) → (m : down_models.Member) (k : up_models.Member)
        → m.next_hop ≡ 0 → k.next_hop ≡ 0 → (q : CuUpModel) → begun {P = Pdu} ue bearer (makes instance its_sn its_quota target first) ≡ Some q
        → IsWellLinked n ue bearer t.units x m k q
    unfolding made
    made_well_linked instance its_quota its_sn target first none there m k m_is k_is q is =
        subst (IsWellLinked n ue bearer t.units x m k) same
        (well_linked_by n ue bearer t.units x (down_models.new_member target first) (up_models.new_member true first) new m k m_is k_is (record {
          old = old;
          old_down = zero_old n positive ue bearer t.units;
          old_up = zero_old n positive ue bearer t.units;
          other_down = λ zero. none_at_zero n positive (place gnb number r.next_teid) (zero ∙ number_is none);
          other_up = λ zero. none_at_zero n positive (place gnb number r.next_teid) (zero ∙ number_is none);
          leads = λ end o owned. tt;
          given = tt;
          stands = record { hop = refl; status = λ e. clash e; arrived = λ e. clash e };
          frozen = λ e. clash e;
        }))
      where
        new : CuUpModel
        new = record {
          instance = instance;
          at = record { ue = ue; bearer = bearer; sn = its_sn; quota = its_quota; flags = new_flags_of target };
          bearer = made target first;
        }

        same : new ≡ q
        same = let both : Some new ≡ Some q = is in cc

        has : HasRoom reading n ue bearer s t gnb number cause input outputs v step sound
        has = made_room reading n ue bearer s t gnb number cause input outputs v step sound new first target none there refl

        old : IsOld n ue bearer t.units x
        old at is_at =
            let both : Some at ≡ Some (place gnb number r.next_teid) = sym (n.found at) ∙ ap n.place_of (sym is_at ∙ number_is none) ∙ n.found (place gnb number r.next_teid) in
            let one : at ≡ place gnb number r.next_teid = cc in
            subst (λ (z : Place). z.instance + 1 ≤ below (cu_up_of t.units z.gnb z.number).next_teid) (sym one)
            (subst (λ (w : CuUpRecord). r.next_teid + 1 ≤ below w.next_teid) (sym (up_here reading n ue bearer s t gnb number cause input outputs v step sound)) has.1)

    -- ---- a context that goes on

    module _ (q q1 : CuUpModel) (is : p ≡ Some q) (ord : ContextStep Pdu) (more : Outs) (tested : IsTested b.final q ord)
        (asked_so : Asks n ue bearer s.units sn quota d u x b q ord) (assumed : Assumes n ue bearer s.units d u x b q ord)
        (at : done plain_way ord q ≡ gives more (Some q1)) where
      abbrev its_well_linked : IsWellLinked n ue bearer s.units x (d.members x) (u.members x) q
      its_well_linked = well_linked x q (cs_here ∙ is)

      abbrev after_down_one : down_models.Model
      after_down_one = down.run d (downs.orders_of x b q ord)

      abbrev after_up_one : up_models.Model
      after_up_one = up.run u (ups.orders_of x b q ord)

      is_up_here : up_rows.IsUp (u.members x) q
      is_up_here = its.is_up reading n ue bearer s t gnb number cause input outputs v step sound own sn quota d u refined b0 well_linked q is

      moved_down : FarDown d after_down_one
      moved_down y far = (down_moved x b q q1 more n ue bearer s.units sn quota d u (is_down q is) is_up_here ord tested asked_so at).hops_others y far

      moved_up : FarUp u after_up_one
      moved_up y far = (up_moved x b q q1 more n ue bearer s.units sn quota d u (is_down q is) is_up_here ord tested asked_so at).hops_others y far

      -- a freeze leads to a context that is there
      there_old : (to : ℕ) → (d.members to).is_there ≡ true → IsOld n ue bearer s.units to
      there_old to there = by (cs to) refl (refined.down to)
        where
          by : (o : Option CuUpModel) → cs to ≡ o → downs.IsIn sn quota (d.members to) o → IsOld n ue bearer s.units to
          by None none h = clash (sym h ∙ there)
          by (Some w) some h = (well_linked to w some).old

      freeze_old : (peer : NodeId) (down_teid up_teid : ℕ) → OfFreeze n ue bearer s.units d u x b.to peer down_teid up_teid → IsOld n ue bearer s.units b.to
      unfolding down_assumptions.IsAssumed
      freeze_old peer down_teid up_teid f = there_old b.to f.down.2.there

      open_given : (node : NodeId) (teid : ℕ) (o : Owned) → owned_on n ue bearer s.units node teid ≡ Some o → WasGiven n ue bearer s.units node teid
      open_given node teid o open_so g k node_is =
          let f : IsAt n ue bearer s.units node teid o = at_end n ue bearer s.units node teid o open_so in
          let names : up_id f.gnb f.number ≡ up_id g k = sym f.node_is ∙ node_is in
          let gnbs : f.gnb ≡ g = cc in
          let numbers : f.number ≡ k = cc in
          subst (λ (z : Gnb × ℕ). teid + 1 ≤ below (cu_up_of s.units z.0 z.1).next_teid) (λ i. (gnbs i, numbers i)) ((sound.owned.0 f.gnb f.number).2 teid f.owner f.found)

      next_old : (w : ContextStep Pdu) → Assumes n ue bearer s.units d u x b q w
          → IsOld n ue bearer s.units (down_lists.next_after b.to (d.members x) w) × IsOld n ue bearer s.units (up_lists.next_after b.to (u.members x) w)
          × EndsWereGiven n ue bearer s.units (hop_after q w)
      next_old (freezes peer down_teid up_teid) o =
          let old = freeze_old peer down_teid up_teid o in
          (old, old, (open_given peer down_teid _ o.leads.down, open_given peer up_teid _ o.leads.up))
      next_old (switches du first) o = (its_well_linked.old_down, its_well_linked.old_up, tt)
      next_old resumes o = (its_well_linked.old_down, its_well_linked.old_up, tt)
      next_old (makes instance its_sn its_quota target first) o = (its_well_linked.old_down, its_well_linked.old_up, its_well_linked.given)
      next_old (adds first) o = (its_well_linked.old_down, its_well_linked.old_up, its_well_linked.given)
      next_old (knows status) o = (its_well_linked.old_down, its_well_linked.old_up, its_well_linked.given)
      next_old releases o = (its_well_linked.old_down, its_well_linked.old_up, its_well_linked.given)
      next_old closes o = (its_well_linked.old_down, its_well_linked.old_up, its_well_linked.given)
      next_old (takes kind from it) o = (its_well_linked.old_down, its_well_linked.old_up, its_well_linked.given)
      next_old polls o = (its_well_linked.old_down, its_well_linked.old_up, its_well_linked.given)

      stands_then : Stands q1
      stands_then =
          subst (StandsAfter {M = Message Token} {P = Pdu}) (ap (λ (a : Answer (Message Token) Pdu (Option CuUpModel)). a then carried plain_way ue bearer []) at)
          (stand plain_way ue bearer b.final r.next_teid (ord ∷ []) (Some q) (tested, tt) its_well_linked.stands)

      goes_well_linked : IsWellLinked n ue bearer s.units x (after_down_one.members x) (after_up_one.members x) q1
      goes_well_linked = record {
        old = its_well_linked.old;
        old_down = subst (IsOld n ue bearer s.units)
            (sym (down_moved x b q q1 more n ue bearer s.units sn quota d u (is_down q is) is_up_here ord tested asked_so at).hop_here) (next_old ord assumed).0;
        old_up = subst (IsOld n ue bearer s.units)
            (sym (up_moved x b q q1 more n ue bearer s.units sn quota d u (is_down q is) is_up_here ord tested asked_so at).hop_here) (next_old ord assumed).1;
        other_down = other_down_then x b q q1 more n ue bearer s.units sn quota d u (is_down q is) is_up_here ord tested asked_so at;
        other_up = other_up_then x b q q1 more n ue bearer s.units sn quota d u (is_down q is) is_up_here ord tested asked_so at;
        leads = leads_then x b q q1 more n ue bearer s.units sn quota d u (is_down q is) is_up_here ord tested asked_so at;
        given = subst (EndsWereGiven n ue bearer s.units)
            (sym (ends_then x b q q1 more n ue bearer s.units sn quota d u (is_down q is) is_up_here ord tested asked_so at)) (next_old ord assumed).2;
        stands = stands_then;
        frozen = left_frozen n ue bearer s.units d u x b q q1 more (is_down q is) its_well_linked.frozen ord tested assumed at;
      }

    -- ---- all contexts then

    module _ (gives_so : GiveOnce s.units t.units) where
      grow : (y : ℕ) (m : down_models.Member) (k : up_models.Member) (q : CuUpModel) → IsWellLinked n ue bearer s.units y m k q → IsWellLinked n ue bearer t.units y m k q
      grow = grows reading n ue bearer s t gnb number cause input outputs v step sound gives_so

      abbrev After : List (ContextStep Pdu) → Type 0
      After os =
          (y : ℕ) (q : CuUpModel) → contexts_after plain_way ue bearer cs (happens os) y ≡ Some q
          → IsWellLinked n ue bearer t.units y ((down_after n ue bearer s.units sn quota d cs (happens os)).members y)
          ((up_after n ue bearer s.units sn quota u cs (happens os)).members y) q

      none_after : After []
      unfolding contexts_after
      none_after y q is = grow y (d.members y) (u.members y) q (well_linked y q is)

      module _ (ord : ContextStep Pdu) where
        abbrev next : Contexts
        next = context_after plain_way ue bearer cs (asks x ord b)

        abbrev down_next : down_models.Model
        down_next = down.run d (downs.orders_by cs (asks x ord b))

        abbrev up_next : up_models.Model
        up_next = up.run u (ups.orders_by cs (asks x ord b))

        next_here : next x ≡ kept_of (cs x) (carried_out plain_way ue bearer ord (cs x))
        next_here = set_here cs x (kept_of (cs x) (carried_out plain_way ue bearer ord (cs x)))

        next_far : (y : ℕ) → y ≢ x → next y ≡ cs y
        next_far y far = set_far cs x (kept_of (cs x) (carried_out plain_way ue bearer ord (cs x))) y far

        one_after : FarDown d down_next → FarUp u up_next
            → ((q : CuUpModel) → kept_of (cs x) (carried_out plain_way ue bearer ord (cs x)) ≡ Some q
            → IsWellLinked n ue bearer t.units x (down_next.members x) (up_next.members x) q) → After (ord ∷ [])
        unfolding contexts_after
        one_after far_down far_up here_so y q there = by (y == x) refl
          where
            by : (c : Bool) → (y == x) ≡ c → IsWellLinked n ue bearer t.units y (down_next.members y) (up_next.members y) q
            by true e =
                let same : y ≡ x = eqb-true y x e in
                subst (λ (z : ℕ). IsWellLinked n ue bearer t.units z (down_next.members z) (up_next.members z) q) (sym same)
                (here_so q (sym next_here ∙ ap next (sym same) ∙ there))
            by false e =
                let far : y ≢ x = not_same y x e in
                well_linked_by n ue bearer t.units y (d.members y) (u.members y) q (down_next.members y) (up_next.members y) (far_down y far) (far_up y far)
                (grow y (d.members y) (u.members y) q (well_linked y q (sym (next_far y far) ∙ there)))

        two_after : FarDown d down_next → FarUp u up_next → After (ord ∷ closes ∷ [])
        unfolding contexts_after
        two_after far_down far_up y q there = by (y == x) refl
          where
            last : Contexts
            last = context_after plain_way ue bearer next (asks x closes b)

            down_last : down_models.Model
            down_last = down.run down_next (downs.orders_by {P = Pdu} next (asks x closes b))

            up_last : up_models.Model
            up_last = up.run up_next (ups.orders_by {P = Pdu} next (asks x closes b))

            gone_by : (w : Option CuUpModel) → kept_of w (carried_out plain_way ue bearer closes w) ≡ None
            gone_by None = refl
            gone_by (Some w) = refl

            gone : last x ≡ None
            gone = set_here next x (kept_of (next x) (carried_out plain_way ue bearer closes (next x))) ∙ gone_by (next x)

            last_far : (z : ℕ) → z ≢ x → last z ≡ cs z
            last_far z far = set_far next x (kept_of (next x) (carried_out plain_way ue bearer closes (next x))) z far ∙ next_far z far

            by : (c : Bool) → (y == x) ≡ c → IsWellLinked n ue bearer t.units y (down_last.members y) (up_last.members y) q
            by true e = let none : None ≡ Some q = sym gone ∙ ap last (sym (eqb-true y x e)) ∙ there in absurd cc
            by false e =
                let far : y ≢ x = not_same y x e in
                well_linked_by n ue bearer t.units y (d.members y) (u.members y) q (down_last.members y) (up_last.members y)
                (end_far_down down_next (next x) y far ∙ far_down y far) (end_far_up up_next (next x) y far ∙ far_up y far)
                (grow y (d.members y) (u.members y) q (well_linked y q (sym (last_far y far) ∙ there)))

        either_after : (os : List (ContextStep Pdu)) → (os ≡ []) ⊎ (os ≡ closes ∷ []) → FarDown d down_next → FarUp u up_next
            → (os ≡ [] → (q : CuUpModel) → kept_of (cs x) (carried_out plain_way ue bearer ord (cs x)) ≡ Some q
            → IsWellLinked n ue bearer t.units x (down_next.members x) (up_next.members x) q) → After (ord ∷ os)
        either_after os (inl e) far_down far_up here_so =
            subst (λ (w : List (ContextStep Pdu)). After (ord ∷ w)) (sym e) (one_after far_down far_up (here_so e))
        either_after os (inr e) far_down far_up here_so = subst (λ (w : List (ContextStep Pdu)). After (ord ∷ w)) (sym e) (two_after far_down far_up)

        -- by what the context here is
        by_model : (os : List (ContextStep Pdu)) (o : Option CuUpModel) → p ≡ o → (os ≡ []) ⊎ (os ≡ closes ∷ [])
            → FarDown d (down.run d (downs.orders_in x b o ord)) → FarUp u (up.run u (ups.orders_in x b o ord))
            → (os ≡ [] → (q : CuUpModel) → kept_of o (carried_out plain_way ue bearer ord o) ≡ Some q
            → IsWellLinked n ue bearer t.units x ((down.run d (downs.orders_in x b o ord)).members x) ((up.run u (ups.orders_in x b o ord)).members x) q)
            → After (ord ∷ os)
        by_model os o is ended far_down far_up here_so =
            let at : o ≡ cs x = sym (cs_here ∙ is) in
            either_after os ended (subst (λ (w : Option CuUpModel). FarDown d (down.run d (downs.orders_in x b w ord))) at far_down)
            (subst (λ (w : Option CuUpModel). FarUp u (up.run u (ups.orders_in x b w ord))) at far_up)
            (subst (λ (w : Option CuUpModel). os ≡ [] → (q : CuUpModel) → kept_of w (carried_out plain_way ue bearer ord w) ≡ Some q
            → IsWellLinked n ue bearer t.units x ((down.run d (downs.orders_in x b w ord)).members x) ((up.run u (ups.orders_in x b w ord)).members x) q) at here_so)

      -- ---- where there is none, one may be made

      new_here : (ord : ContextStep Pdu) → p ≡ None → Comes ue bearer outputs v (carried plain_way ue bearer (ord ∷ []) None) → (q : CuUpModel) → begun ue bearer ord ≡ Some q
          → IsWellLinked n ue bearer t.units x ((down.run d (downs.orders_anew x ord)).members x) ((up.run u (ups.orders_anew x ord)).members x) q
      unfolding down.run down.after up.run up.after
      new_here (makes instance its_sn its_quota target first) none comes q is =
          made_well_linked instance its_quota its_sn target first none comes.1 _ _
          (ap (λ (m : down_models.Member). m.next_hop) (set_here d.members x (down_models.new_member target first)))
          (ap (λ (m : up_models.Member). m.next_hop) (set_here u.members x (up_models.new_member true first))) q is
      new_here (adds first) none comes q is = absurd cc
      new_here (switches du first) none comes q is = absurd cc
      new_here (freezes peer down_teid up_teid) none comes q is = absurd cc
      new_here (knows status) none comes q is = absurd cc
      new_here resumes none comes q is = absurd cc
      new_here releases none comes q is = absurd cc
      new_here closes none comes q is = absurd cc
      new_here (takes kind from it) none comes q is = absurd cc
      new_here polls none comes q is = absurd cc

      -- ---- only an end leaves none

      none_from : (q : CuUpModel) (a : Answer (Message Token) Pdu CuUpBearer) (more : Outs) {X : Type 0} → kept_in q a ≡ gives more None → X
      none_from q (gives os c) more is = absurd cc
      none_from q (spent counter) more is = absurd cc

      ends_so : (ord : ContextStep Pdu) (q : CuUpModel) (more : Outs) → done plain_way ord q ≡ gives more None → ord ≡ closes
      ends_so closes q more at = refl
      ends_so (makes instance its_sn its_quota target first) q more at = absurd cc
      ends_so releases q more at = absurd cc
      ends_so (adds first) q more at = none_from q (with_uplink plain_way first q.bearer) more at
      ends_so (switches du first) q more at = none_from (on_switch q) (switched plain_way (on_switch q).at du first q.bearer) more at
      ends_so (freezes peer down_teid up_teid) q more at =
          none_from (on_freeze q) (frozen_to plain_way (on_freeze q).at peer down_teid up_teid q.bearer) more at
      ends_so (knows status) q more at = none_from (on_status q) (with_status plain_way (on_status q).at status q.bearer) more at
      ends_so resumes q more at = none_from (on_resume q) (resumed plain_way (on_resume q).at q.bearer) more at
      ends_so (takes kind from it) q more at = none_from q (took plain_way q.at kind from it q.bearer) more at
      ends_so polls q more at = none_from q (framed plain_way q.at true false None Absent q.bearer) more at

      -- ---- all orders

      by_all : (os : List (ContextStep Pdu)) (o : Option CuUpModel) → p ≡ o → AreTested plain_way ue bearer (is_final input) r.next_teid os o
          → Comes ue bearer outputs v (carried plain_way ue bearer os o) → AllAssume n ue bearer s.units sn quota d u cs (happens os)
          → AllAsk n ue bearer s.units sn quota d u cs (happens os) → After os
      by_all [] o is tested comes assumed all = none_after
      by_all (ord ∷ os) None is tested comes assumed all =
          by_model ord os None is (shape (nothing (begun ue bearer ord)) os tested.1) (anew_far_down ord) (anew_far_up ord)
          (λ e. new_here ord is (subst (λ (w : List (ContextStep Pdu)). Comes ue bearer outputs v (carried plain_way ue bearer (ord ∷ w) None)) e comes))
      by_all (ord ∷ os) (Some q) is tested comes assumed all = by (done plain_way ord q) refl tested.1 comes
        where
          asked_so : Asks n ue bearer s.units sn quota d u x b q ord
          asked_so = subst (λ (w : Option CuUpModel). AsksIn n ue bearer s.units sn quota d u x b w ord) (cs_here ∙ is) all.0.1

          assumed_so : Assumes n ue bearer s.units d u x b q ord
          assumed_so = subst (λ (w : Option CuUpModel). AssumesIn n ue bearer s.units sn quota d u x b w ord) (cs_here ∙ is) assumed.0

          by : (a : Answer (Message Token) Pdu (Option CuUpModel)) → done plain_way ord q ≡ a → EndsAfter os a
              → Comes ue bearer outputs v (a then carried plain_way ue bearer os) → After (ord ∷ os)
          by (spent counter) at ends c = absurd c
          by (gives more None) at ends c =
              let e : ord ≡ closes = ends_so ord q more at in
              by_model ord os (Some q) is (shape (gives more None) os ends)
              (subst (λ (w : ContextStep Pdu). FarDown d (down.run d (downs.orders_in x b (Some q) w))) (sym e) (end_far_down d (Some q)))
              (subst (λ (w : ContextStep Pdu). FarUp u (up.run u (ups.orders_in x b (Some q) w))) (sym e) (end_far_up u (Some q)))
              (λ none q1 there. let clashes : None ≡ Some q1 = sym (ap (kept_of (Some q)) at) ∙ there in absurd cc)
          by (gives more (Some q1)) at ends c =
              by_model ord os (Some q) is (shape (gives more (Some q1)) os ends)
              (moved_down q q1 is ord more tested.0 asked_so assumed_so at) (moved_up q q1 is ord more tested.0 asked_so assumed_so at)
              (λ none q2 there.
              let both : Some q1 ≡ Some q2 = sym (ap (kept_of (Some q)) at) ∙ there in
              let same : q1 ≡ q2 = cc in
              subst (λ (w : CuUpModel). IsWellLinked n ue bearer t.units x ((down.run d (downs.orders_of x b q ord)).members x) ((up.run u (ups.orders_of x b q ord)).members x) w) same
              (grow x ((down.run d (downs.orders_of x b q ord)).members x) ((up.run u (ups.orders_of x b q ord)).members x) q1
              (goes_well_linked q q1 is ord more tested.0 asked_so assumed_so at)))

      pub well_linked_then : AllAssume n ue bearer s.units sn quota d u cs (final_asks n ue bearer s gnb number cause input b0)
          → AreWellLinked n ue bearer t.units (down_after n ue bearer s.units sn quota d cs (final_asks n ue bearer s gnb number cause input b0))
          (up_after n ue bearer s.units sn quota u cs (final_asks n ue bearer s gnb number cause input b0)) (contexts_of n ue bearer t.units)
      well_linked_then assumed y q there =
          by_all orders p refl (orders_tested plain_way r ue bearer input)
          (its.comes_then reading n ue bearer s t gnb number cause input outputs v step sound own) assumed
          (its.step_asked reading n ue bearer s t gnb number cause input outputs v step sound own sn quota d u refined b0 well_linked assumed) y q
          (ap (λ (c : Contexts). c y) (sym contexts_then) ∙ there)
