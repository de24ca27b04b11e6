-- In every run plans stay, and terminals have theirs.
use Rattle.std.proofs.Common.{◌≡◌, ℕ, Bool, true, false, cond, List, [], ◌∷◌, Option, Some, None, refl, sym, ap, ◌∙◌, subst}
use Rattle.std.proofs.lemmas.Bool.{or_parts}
use Rattle.std.specs.Prelude.{is_some}
use Rattle.std.specs.Ordering.{eq_by_cmp}
use Rattle.std.specs.Cmp.{Equal-is}
use Rattle.gnb_types.specs.declared.names.Gnb.{Gnb}
use Rattle.gnb_types.specs.declared.names.Gnb.TheVariants.{A, B}
use Rattle.gnb_types.specs.declared.names.NodeId.{NodeId}
use Rattle.gnb_types.specs.declared.names.NodeId.TheVariants.{CuCp, CuUp as up_id, Du as du_id, Core, Ue}
use Rattle.gnb_types.specs.declared.names.UeId.{UeId}
use Rattle.gnb_types.specs.declared.plans.Plan.{Plan}
use Rattle.gnb_types.specs.Orders.{ue_cmp}
use Rattle.gnb_types.proofs.OrderLemmas.{ue_total, ue_exact}
use Rattle.message_types.specs.declared.rrc.Token.{Token}
use Rattle.scenario_text.specs.declared.event.Event.{Event}
use Rattle.tables.specs.Tables.{find, put}
use Rattle.tables.proofs.TableLaws.{find-put}
use Rattle.unit_defs.specs.Ways.{Message, Pdu, Load, Put, Input, gives, spent}
use Rattle.unit_defs.specs.Ue.{UeNode, new_ue, placed, ue_acts}
use Rattle.unit_defs.specs.CuCpRecords.{CuCpRecord}
use Rattle.unit_defs.specs.CuCp.{cu_cp_acts}
use Rattle.unit_defs.specs.CuUp.{cu_up_acts}
use Rattle.unit_defs.specs.Du.{du_acts, Du}
use Rattle.unit_defs.specs.CuUpRecords.{CuUp}
use Rattle.run_defs.specs.Units.{Units, cu_cp_of, with_cu_cp, cu_up_of, with_cu_up, du_of, with_du, ue_of, with_ue}
use Rattle.run_defs.specs.Written.{Written, PlainStepped, WrittenStepped, written_step}
use Rattle.run_defs.specs.States.{State, new_state, World, Lengths, Given, stepped, step_spent, goes, stops, told_before, ◌next◌, Ending, Outcome, as_step, was_attached, sn_of}
use Rattle.run_defs.specs.Steps.{put_out_all, check_spans}
use Rattle.run_defs.specs.Events.{landed_as}
use Rattle.run_defs.specs.Conditions.{units_placed, all_set_up}
use Rattle.run_defs.specs.Runs.{Reading, PlainGiven, Plain, plain_way, input_of, stepped_with, ue_stepped, acts_on, plain_by, plain_world, happens}
use Rattle.proof_run_steps.specs.steps.Causes.{Cause, by_order, by_tick, by_octets, by_octets_on, by_attach, by_release, by_offer, by_item, by_air, by_ack, by_control_message, node_of, given_of, Stands}
use Rattle.proof_run_steps.specs.steps.IsOutcome.{IsOutcome, stays, ends, then_made, sets_up, starts, acts, holds_item, holds_pdu, offers, core_takes, core_reads, lands, loses_control_message, loses_item, remarks}
use Rattle.proof_run_steps.specs.steps.Reached.{reached_by, reached}
use Rattle.proof_run_steps.proofs.steps.Frames.{HasUnits, units_by, act_units, then_units, keep_checked as units_checked, keep_put_on_tunnel as units_put, keep_put_all as units_put_all}
use Rattle.proof_run_steps.proofs.steps.Runs.{made_of_steps}
use Rattle.proof_unit_steps.specs.answers.After.{HoldsAfter}
use Rattle.proof_run_steps.specs.plans.Plans.{Plans, PlansStay, AreOfTheirPlans}
use Rattle.proof_run_steps.proofs.plans.Terminals.{terminal_stays}
use Rattle.proof_run_steps.proofs.plans.Frames.{HasPlans, then_plans, keep_checked, keep_put_on_tunnel, keep_put_all, plans_by, act_plans, as_step_plans}

-- a new terminal's plan leaves the others
pub stay_put : (ps : Plans) (plan : Plan) → is_some (find ue_cmp ps plan.ue) ≡ false → PlansStay ps (put ue_cmp ps plan.ue plan)
stay_put ps plan free ue q e = find-put ue_total ps plan.ue plan ue ∙ by (eq_by_cmp ue_cmp ue plan.ue) refl
  where
    by : (t : Bool) → eq_by_cmp ue_cmp ue plan.ue ≡ t → cond t (Some plan) (find ue_cmp ps ue) ≡ Some q
    by true tie =
        let same : ue ≡ plan.ue = ue_exact ue plan.ue ((Equal-is (ue_cmp ue plan.ue)).0 tie) in
        let there : find ue_cmp ps plan.ue ≡ Some q = subst (λ (u : UeId). find ue_cmp ps u ≡ Some q) same e in
        let taken : true ≡ false = sym (ap is_some there) ∙ free in
        absurd cc
    by false apart = e

-- a terminal and its plan are put together
together : (us : List (UeId × UeNode)) (ps : Plans) (ue : UeId) (n : UeNode)
    → ((u : UeId) (x : UeNode) → find ue_cmp us u ≡ Some x → find ue_cmp ps u ≡ Some x.plan)
    → (u : UeId) (x : UeNode) → find ue_cmp (put ue_cmp us ue n) u ≡ Some x → find ue_cmp (put ue_cmp ps ue n.plan) u ≡ Some x.plan
together us ps ue n all u x e =
    find-put ue_total ps ue n.plan u ∙ by (eq_by_cmp ue_cmp u ue) (sym (find-put ue_total us ue n u) ∙ e)
  where
    by : (t : Bool) → cond t (Some n) (find ue_cmp us u) ≡ Some x → cond t (Some n.plan) (find ue_cmp ps u) ≡ Some x.plan
    by true h = let those : n ≡ x = cc in ap (λ (y : UeNode). Some y.plan) those
    by false h = all u x h

cp_ues : {M C : Type 0} (u : Units M C) (gnb : Gnb) (r : CuCpRecord M C) → (with_cu_cp u gnb r).ues ≡ u.ues
cp_ues u A r = refl
cp_ues u B r = refl

module _ {M C L P : Type 0} (world : World M C L P) where
  -- ---- plans stay

  abbrev pub StaysFrom : {X : Type 0} → Plans → Ending X (State M C L P) → Type 0
  StaysFrom ps (goes told t) = PlansStay ps t.plans
  StaysFrom ps (stops told why) = Unit {0}

  pub joined : (p q r : Plans) → PlansStay p q → PlansStay q r → PlansStay p r
  joined p q r f g ue plan e = g ue plan (f ue plan e)

  by_plans : {X : Type 0} (ps qs : Plans) (e : Ending X (State M C L P)) → PlansStay ps qs → HasPlans world qs e → StaysFrom ps e
  by_plans ps qs (goes told t) f has = subst (λ (x : Plans). PlansStay ps x) (sym has) f
  by_plans ps qs (stops told why) f has = tt

  pub same : (ps : Plans) → PlansStay ps ps
  same ps ue plan e = e

  then_stays : (ps : Plans) (d : Outcome M C L P) (more : State M C L P → Outcome M C L P) → StaysFrom ps d
      → ((x : State M C L P) → StaysFrom x.plans (more x)) → StaysFrom ps (d next more)
  then_stays ps (goes told x) more p q = by (more x) (q x)
    where
      by : (e : Outcome M C L P) → StaysFrom x.plans e → StaysFrom ps (told_before told e)
      by (goes further s) h = joined ps x.plans s.plans p h
      by (stops further why) h = tt
  then_stays ps (stops told why) more p q = tt

  pub cause_stays : (event : Event) (s : State M C L P) (cause : Cause M L P) → Stands event s cause → PlansStay s.plans (plans_by world cause s.plans)
  cause_stays event s (by_attach plan) at = stay_put s.plans plan at.1
  cause_stays event s (by_order node order) at = same s.plans
  cause_stays event s (by_tick node) at = same s.plans
  cause_stays event s (by_octets from to octets) at = same s.plans
  cause_stays event s (by_octets_on end octets) at = same s.plans
  cause_stays event s (by_release gnb ue) at = same s.plans
  cause_stays event s (by_offer ue bearer p) at = same s.plans
  cause_stays event s (by_item end item rest) at = same s.plans
  cause_stays event s (by_air key home item) at = same s.plans
  cause_stays event s (by_ack key home item rest) at = same s.plans
  cause_stays event s (by_control_message number l to) at = same s.plans

  pub made_stays : (event : Event) (s : State M C L P) (e : Outcome M C L P) → IsOutcome world event s e → StaysFrom s.plans e
  made_stays event s e (stays t) = same t.plans
  made_stays event s e (ends t why) = tt
  made_stays event s e (then_made t d more p q) = then_stays t.plans d more (made_stays event t d p) (λ x. made_stays event x (more x) (q x))
  made_stays event s e (sets_up t plan is free room teids) = stay_put t.plans plan (or_parts (was_attached t plan.ue) _ free).0
  made_stays event s e (starts t d p) = made_stays event (record t { started = true }) d p
  made_stays event s e (acts t cause outputs units at is fine few) =
      by_plans t.plans (plans_by world cause t.plans) _ (cause_stays event t cause at)
      (as_step_plans world (plans_by world cause t.plans) (Some (node_of cause)) _ (act_plans world cause outputs units t))
  made_stays event s e (holds_item t end reason) = same t.plans
  made_stays event s e (holds_pdu t key home reason) = same t.plans
  made_stays event s e (offers t ue bearer p path is found) =
      by_plans t.plans t.plans _ (same t.plans)
      (as_step_plans world t.plans (Some Core) _ (then_plans world t.plans _ check_spans (keep_put_on_tunnel world _ _ _) (keep_checked world)))
  made_stays event s e (core_takes t number l outputs core found at is few) =
      by_plans t.plans t.plans _ (same t.plans)
      (as_step_plans world t.plans (Some Core) _
      (then_plans world t.plans (landed_as world number l (record t { core = core }) next put_out_all world Core None outputs) check_spans
      (then_plans world t.plans (landed_as world number l (record t { core = core })) (put_out_all world Core None outputs) refl (keep_put_all world Core None outputs))
      (keep_checked world)))
  made_stays event s e (core_reads t from octets outputs core is) =
      by_plans t.plans t.plans _ (same t.plans)
      (as_step_plans world t.plans (Some Core) _ (then_plans world t.plans _ check_spans (keep_put_all world Core None outputs _) (keep_checked world)))
  made_stays event s e (lands t number l to found at) = same t.plans
  made_stays event s e (loses_control_message t number) = same t.plans
  made_stays event s e (loses_item t end item rest found) = same t.plans
  made_stays event s e (remarks t lines plain) = same t.plans

  further_stays : (s t : State M C L P) (events : List Event) (e : Outcome M C L P) → StaysFrom s.plans e
      → ((after : State M C L P) → reached world events after ≡ Some t → PlansStay after.plans t.plans)
      → reached_by world (reached world events) e ≡ Some t → PlansStay s.plans t.plans
  further_stays s t events (goes steps after) p more at = joined s.plans after.plans t.plans p (more after at)
  further_stays s t events (stops steps why) p more at = absurd cc

  pub plans_stay_in_run : (events : List Event) (s t : State M C L P) → reached world events s ≡ Some t → PlansStay s.plans t.plans
  plans_stay_in_run [] s t is = let at : s ≡ t = cc in subst (λ (x : State M C L P). PlansStay s.plans x.plans) at (same s.plans)
  plans_stay_in_run (event ∷ events) s t is =
      further_stays s t events (happens world event s) (made_stays event s (happens world event s) (made_of_steps world event s))
      (λ after at. plans_stay_in_run events after t at) is

  -- ---- terminals have theirs, where units keep their terminals' plans and bring none

  abbrev TerminalsStay : Units M C → Units M C → Type 0
  TerminalsStay u v = (ue : UeId) (x : UeNode) → ue_of v ue ≡ Some x → (y : UeNode) × (ue_of u ue ≡ Some y) × (y.plan ≡ x.plan)

  abbrev AgreesAfter : {X : Type 0} → Ending X (State M C L P) → Type 0
  AgreesAfter (goes told t) = AreOfTheirPlans t.units t.plans
  AgreesAfter (stops told why) = Unit {0}

  by_both : {X : Type 0} (u : Units M C) (ps : Plans) (e : Ending X (State M C L P)) → AreOfTheirPlans u ps → HasUnits world u e → HasPlans world ps e
      → AgreesAfter e
  by_both u ps (goes told t) all units plans =
      subst (λ (qs : Plans). AreOfTheirPlans t.units qs) (sym plans) (subst (λ (v : Units M C). AreOfTheirPlans v ps) (sym units) all)
  by_both u ps (stops told why) all units plans = tt

  stepped_units : (u : Units M C) (actor : Option NodeId) (w : Ending _ (State M C L P)) → HasUnits world u w → HasUnits world u (as_step actor w)
  stepped_units u actor (goes lines t) p = p
  stepped_units u actor (stops lines why) p = tt

  then_agrees : (d : Outcome M C L P) (more : State M C L P → Outcome M C L P) → AgreesAfter d
      → ((x : State M C L P) → AreOfTheirPlans x.units x.plans → AgreesAfter (more x)) → AgreesAfter (d next more)
  then_agrees (goes told x) more p q = by (more x) (q x p)
    where
      by : (e : Outcome M C L P) → AgreesAfter e → AgreesAfter (told_before told e)
      by (goes further s) h = h
      by (stops further why) h = tt
  then_agrees (stops told why) more p q = tt

  came : (u : Units M C) (ps : Plans) (plan : Plan) → AreOfTheirPlans u ps → AreOfTheirPlans (with_ue u plan.ue (new_ue plan)) (put ue_cmp ps plan.ue plan)
  unfolding new_ue
  came u ps plan all = together u.ues ps plan.ue (new_ue plan) all

  cause_agrees : (cause : Cause M L P) (u : Units M C) (ps : Plans) → AreOfTheirPlans u ps → AreOfTheirPlans (units_by world cause u) (plans_by world cause ps)
  cause_agrees (by_attach plan) u ps all = came u ps plan all
  cause_agrees (by_order node order) u ps all = all
  cause_agrees (by_tick node) u ps all = all
  cause_agrees (by_octets from to octets) u ps all = all
  cause_agrees (by_octets_on end octets) u ps all = all
  cause_agrees (by_release gnb ue) u ps all = all
  cause_agrees (by_offer ue bearer p) u ps all = all
  cause_agrees (by_item end item rest) u ps all = all
  cause_agrees (by_air key home item) u ps all = all
  cause_agrees (by_ack key home item rest) u ps all = all
  cause_agrees (by_control_message number l to) u ps all = all

  set_up_agrees : (u : Units M C) (ps : Plans) (plan : Plan) → AreOfTheirPlans u ps → AreOfTheirPlans (all_set_up (units_placed plan u)) (put ue_cmp ps plan.ue plan)
  unfolding new_ue placed
  set_up_agrees u ps plan all =
      subst (λ (es : List (UeId × UeNode)). (ue : UeId) (x : UeNode) → find ue_cmp es ue ≡ Some x → find ue_cmp (put ue_cmp ps plan.ue plan) ue ≡ Some x.plan)
      (sym (cp_ues _ plan.gnb _)) (together u.ues ps plan.ue (placed (new_ue plan)) all)

  module _ (kept : (lengths : Lengths) (u v : Units M C) (node : NodeId) (given : Given M L P) (outputs : List (Put M L P))
      → world.answer lengths u node given ≡ stepped outputs v → TerminalsStay u v) where
    answered : (s : State M C L P) (v : Units M C) → TerminalsStay s.units v → AreOfTheirPlans s.units s.plans → AreOfTheirPlans v s.plans
    answered s v stay all ue x e =
        let old = stay ue x e in
        all ue old.0 old.1 ∙ ap (λ (p : Plan). Some p) old.2

    made_agrees : (event : Event) (s : State M C L P) (e : Outcome M C L P) → IsOutcome world event s e → AreOfTheirPlans s.units s.plans → AgreesAfter e
    made_agrees event s e (stays t) all = all
    made_agrees event s e (ends t why) all = tt
    made_agrees event s e (then_made t d more p q) all = then_agrees d more (made_agrees event t d p all) (λ x h. made_agrees event x (more x) (q x) h)
    made_agrees event s e (sets_up t plan is free room teids) all = set_up_agrees t.units t.plans plan all
    made_agrees event s e (starts t d p) all = made_agrees event (record t { started = true }) d p all
    made_agrees event s e (acts t cause outputs units at is fine few) all =
        by_both (units_by world cause units) (plans_by world cause t.plans) _
        (cause_agrees cause units t.plans (answered t units (kept (sn_of t) t.units units (node_of cause) (given_of cause) outputs is) all))
        (stepped_units (units_by world cause units) (Some (node_of cause)) _ (act_units world cause outputs units t))
        (as_step_plans world (plans_by world cause t.plans) (Some (node_of cause)) _ (act_plans world cause outputs units t))
    made_agrees event s e (holds_item t end reason) all = all
    made_agrees event s e (holds_pdu t key home reason) all = all
    made_agrees event s e (offers t ue bearer p path is found) all =
        by_both t.units t.plans _ all
        (stepped_units t.units (Some Core) _ (then_units world t.units _ check_spans (units_put world _ _ _) (units_checked world)))
        (as_step_plans world t.plans (Some Core) _ (then_plans world t.plans _ check_spans (keep_put_on_tunnel world _ _ _) (keep_checked world)))
    made_agrees event s e (core_takes t number l outputs core found at is few) all =
        by_both t.units t.plans _ all
        (stepped_units t.units (Some Core) _
        (then_units world t.units (landed_as world number l (record t { core = core }) next put_out_all world Core None outputs) check_spans
        (then_units world t.units (landed_as world number l (record t { core = core })) (put_out_all world Core None outputs) refl (units_put_all world Core None outputs)) (units_checked world)))
        (as_step_plans world t.plans (Some Core) _
        (then_plans world t.plans (landed_as world number l (record t { core = core }) next put_out_all world Core None outputs) check_spans
        (then_plans world t.plans (landed_as world number l (record t { core = core })) (put_out_all world Core None outputs) refl (keep_put_all world Core None outputs))
        (keep_checked world)))
    made_agrees event s e (core_reads t from octets outputs core is) all =
        by_both t.units t.plans _ all (stepped_units t.units (Some Core) _ (then_units world t.units _ check_spans (units_put_all world Core None outputs _) (units_checked world)))
        (as_step_plans world t.plans (Some Core) _ (then_plans world t.plans _ check_spans (keep_put_all world Core None outputs _) (keep_checked world)))
    made_agrees event s e (lands t number l to found at) all = all
    made_agrees event s e (loses_control_message t number) all = all
    made_agrees event s e (loses_item t end item rest found) all = all
    made_agrees event s e (remarks t lines plain) all = all

    further_agrees : (t : State M C L P) (events : List Event) (e : Outcome M C L P) → AgreesAfter e
        → ((after : State M C L P) → AreOfTheirPlans after.units after.plans → reached world events after ≡ Some t → AreOfTheirPlans t.units t.plans)
        → reached_by world (reached world events) e ≡ Some t → AreOfTheirPlans t.units t.plans
    further_agrees t events (goes steps after) p more at = more after p at
    further_agrees t events (stops steps why) p more at = absurd cc

    pub plans_agree : (events : List Event) (s t : State M C L P) → AreOfTheirPlans s.units s.plans → reached world events s ≡ Some t → AreOfTheirPlans t.units t.plans
    plans_agree [] s t all is = let at : s ≡ t = cc in subst (λ (x : State M C L P). AreOfTheirPlans x.units x.plans) at all
    plans_agree (event ∷ events) s t all is =
        further_agrees t events (happens world event s) (made_agrees event s (happens world event s) (made_of_steps world event s) all)
        (λ after h at. plans_agree events after t h at) is

-- ---- in `Run`

module _ (reading : Reading) where
  abbrev Records : Type 0
  Records = Units (Message Token) Token

  abbrev Stay : Records → Records → Type 0
  Stay u v = (ue : UeId) (x : UeNode) → ue_of v ue ≡ Some x → (y : UeNode) × (ue_of u ue ≡ Some y) × (y.plan ≡ x.plan)

  abbrev StayBy : Records → PlainStepped → Type 0
  StayBy u (stepped outputs v) = Stay u v
  StayBy u (step_spent counter) = Unit {0}

  abbrev StayWell : Records → WrittenStepped → Type 0
  StayWell u (stepped outputs v) = Stay u v
  StayWell u (step_spent counter) = Unit {0}

  as_they_are : (u : Records) → Stay u u
  as_they_are u ue x e = (x, e, refl)

  written : (lengths : Lengths) (u : Records) (s : PlainStepped) → StayBy u s → StayWell u (written_step lengths s)
  written lengths u (stepped outputs v) p = p
  written lengths u (step_spent counter) p = tt

  by_cp : (u : Records) (gnb : Gnb) (a : Plain (CuCpRecord (Message Token) Token)) → StayBy u (stepped_with reading (with_cu_cp u gnb) a)
  by_cp u gnb (gives outputs r) =
      subst (λ (es : List (UeId × UeNode)). (ue : UeId) (x : UeNode) → find ue_cmp es ue ≡ Some x → (y : UeNode) × (ue_of u ue ≡ Some y) × (y.plan ≡ x.plan))
      (sym (cp_ues u gnb r)) (as_they_are u)
  by_cp u gnb (spent counter) = tt

  by_up : (u : Records) (gnb : Gnb) (number : ℕ) (a : Plain (CuUp (Message Token) Token)) → StayBy u (stepped_with reading (with_cu_up u gnb number) a)
  by_up u gnb number (gives outputs r) = as_they_are u
  by_up u gnb number (spent counter) = tt

  by_du : (u : Records) (gnb : Gnb) (number : ℕ) (a : Plain (Du (Message Token) Token)) → StayBy u (stepped_with reading (with_du u gnb number) a)
  by_du u gnb number (gives outputs r) = as_they_are u
  by_du u gnb number (spent counter) = tt

  by_ue : (u : Records) (ue : UeId) (x : UeNode) → ue_of u ue ≡ Some x → (a : Plain UeNode) → HoldsAfter (λ (y : UeNode). x.plan ≡ y.plan) a
      → StayBy u (stepped_with reading (with_ue u ue) a)
  by_ue u ue x there (gives outputs n) keeps = λ v y e. by v y (eq_by_cmp ue_cmp v ue) refl (sym (find-put ue_total u.ues ue n v) ∙ e)
    where
      by : (v : UeId) (y : UeNode) (t : Bool) → eq_by_cmp ue_cmp v ue ≡ t → cond t (Some n) (find ue_cmp u.ues v) ≡ Some y → (z : UeNode) × (ue_of u v ≡ Some z) × (z.plan ≡ y.plan)
      by v y true tie h =
          let same : v ≡ ue = ue_exact v ue ((Equal-is (ue_cmp v ue)).0 tie) in
          let those : n ≡ y = cc in
          (x, subst (λ (w : UeId). ue_of u w ≡ Some x) (sym same) there, keeps ∙ ap (λ (z : UeNode). z.plan) those)
      by v y false apart h = (y, h, refl)
  by_ue u ue x there (spent counter) keeps = tt

  acted : (u : Records) (node : NodeId) (input : Input Token Pdu) → StayBy u (acts_on reading u node input)
  acted u (CuCp gnb) input = by_cp u gnb (cu_cp_acts plain_way (cu_cp_of u gnb) input)
  acted u (up_id gnb number) input = by_up u gnb number (cu_up_acts plain_way (cu_up_of u gnb number) input)
  acted u (du_id gnb number) input = by_du u gnb number (du_acts plain_way (du_of u gnb number) input)
  acted u (Ue ue) input = there (ue_of u (record { 0 = ue })) refl
    where
      there : (o : Option UeNode) → ue_of u (record { 0 = ue }) ≡ o → StayBy u (ue_stepped reading u ue input o)
      there None e = as_they_are u
      there (Some x) e =
          by_ue u (record { 0 = ue }) x e (ue_acts plain_way x input) (terminal_stays plain_way (λ (p : Plan). x.plan ≡ p) x input refl)
  acted u Core input = as_they_are u

  answered_by : (u : Records) (node : NodeId) (given : PlainGiven) (o : Option (Input Token Pdu)) → StayBy u (plain_by reading u node given o)
  answered_by u node given None = as_they_are u
  answered_by u node given (Some input) = acted u node input

  pub plans_are_had : (events : List Event) (t : State (Message Token) Token (Written (Load Pdu)) (Written Pdu))
      → reached (plain_world reading) events new_state ≡ Some t → AreOfTheirPlans t.units t.plans
  unfolding find
  plans_are_had events t is =
      plans_agree (plain_world reading)
      (λ lengths u v node given outputs e.
      subst (StayWell u) e (written lengths u (plain_by reading u node given (input_of reading given)) (answered_by u node given (input_of reading given)))) events
      new_state t (λ ue x e. absurd cc) is
