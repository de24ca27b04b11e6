-- In every run facts that speak of plans go on to hold.
use Rattle.std.proofs.Common.{◌≡◌, ◌≤◌, ℕ, ◌+◌, true, false, List, [], ◌∷◌, length, Option, Some, None, inl, inr, refl, sym, ap, ◌∙◌, subst}
use Rattle.std.proofs.lemmas.Bool.{or_parts}
use Rattle.std.specs.List.{AllByRecursion}
use Rattle.std.specs.Prelude.{is_some}
use Rattle.std.specs.Ordering.{nat_cmp}
use Rattle.gnb_types.specs.declared.names.NodeId.{NodeId}
use Rattle.gnb_types.specs.declared.names.NodeId.TheVariants.{Core}
use Rattle.gnb_types.specs.declared.names.Dir.{Dir}
use Rattle.gnb_types.specs.declared.names.Dir.TheVariants.{Dl, Ul}
use Rattle.gnb_types.specs.declared.keys.TunnelEnd.{TunnelEnd}
use Rattle.gnb_types.specs.declared.plans.Plan.{Plan}
use Rattle.gnb_types.specs.Orders.{ue_cmp}
use Rattle.tables.specs.Tables.{find}
use Rattle.scenario_text.specs.declared.event.Event.{Event}
use Rattle.unit_defs.specs.Ways.{Put}
use Rattle.unit_defs.specs.Messages.{teid_of}
use Rattle.unit_defs.specs.Ue.{new_ue}
use Rattle.transport_defs.specs.declared.Item.{Item}
use Rattle.transport_defs.specs.declared.ControlMessage.{ControlMessage}
use Rattle.transport_defs.specs.Links.{most_control_messages, control_message, landed}
use Rattle.run_defs.specs.Units.{Units, with_ue}
use Rattle.run_defs.specs.States.{State, World, control_message_for, octets_from, goes, stops, told_before, ◌next◌, stepped, Ending, Within, Outcome, as_step, entity, radio_of, sn_of, was_attached}
use Rattle.run_defs.specs.Steps.{check_spans, put_on_tunnel, put_out_all, count_control_messages, too_many_control_messages, carried_out}
use Rattle.run_defs.specs.Events.{landed_as, offered}
use Rattle.run_defs.specs.Runs.{happens}
use Rattle.proof_run_steps.specs.steps.Causes.{Cause, by_order, by_tick, by_octets, by_octets_on, by_attach, by_release, by_offer, by_item, by_air, by_ack, by_control_message, node_of, given_of, count_of, first_of, Stands}
use Rattle.proof_run_steps.specs.steps.IsOutcome.{IsOutcome, stays, ends, then_made, sets_up, starts, acts, holds_item, holds_pdu, offers, core_takes, core_reads, lands, loses_control_message, loses_item, remarks}
use Rattle.proof_run_steps.specs.steps.Reached.{reached_by, reached}
use Rattle.proof_run_steps.proofs.steps.Runs.{made_of_steps}
use Rattle.proof_run_steps.specs.plans.Plans.{Plans, PlansStay}
use Rattle.proof_run_steps.proofs.plans.Frames.{HasPlans, then_plans, keep_checked as plans_checked, keep_put_on_tunnel as plans_put, keep_put_all as plans_put_all, plans_by, act_plans}
use Rattle.proof_run_steps.proofs.plans.Runs.{stay_put, StaysFrom, cause_stays, made_stays}
use Rattle.proof_run_steps.specs.facts.Facts.{Facts, HoldWith, Hold, PutsFit}
use Rattle.proof_run_steps.proofs.facts.Within.{HoldsWith, then_holds, keep_checked, with_tunnels, keep_put_on_tunnel, keep_put_all, same_links}
use Rattle.proof_run_steps.proofs.facts.Steps.{few_after, found_has, taken_has, Came, act_holds}
use Rattle.proof_run_steps.proofs.facts.Runs.{statically_holds, core_ready}
use Rattle.proof_run_steps.specs.plan_facts.Along.{with_plan, IsNew, Allowed, IsAllowed, Brings, Grows, AreKeptAlong, HoldsNow}

each_grows : {X : Type 0} (Q R : X → Type 0) (xs : List X) → ((x : X) → Q x → R x) → AllByRecursion Q xs → AllByRecursion R xs
each_grows Q R [] f all = tt
each_grows Q R (x ∷ xs) f all = (f x all.0, each_grows Q R xs f all.1)

pub hold_grows : {M C L P : Type 0} (f g : Facts M C L P) (more : ℕ) (s : State M C L P) → Grows f g → HoldWith f more s → HoldWith g more s
hold_grows f g more s grows h = record {
  units = grows.units s.units h.units;
  core = grows.core s.core h.core;
  control_messages = each_grows (λ (e : ℕ × ControlMessage _). f.control_message e.1) (λ (e : ℕ × ControlMessage _). g.control_message e.1) s.bag.control_messages (λ e. grows.control_message e.1) h.control_messages;
  tunnels = λ end items found. each_grows (f.on_tunnel end) (g.on_tunnel end) items (grows.on_tunnel end) (h.tunnels end items found);
  radios = λ key. each_grows (f.on_radio key) (g.on_radio key) (radio_of s key).items (grows.on_radio key) (h.radios key);
  few = λ c. h.few (grows.counted c);
}

module _ {M C L P : Type 0} (world : World M C L P) (facts : Plans → Facts M C L P) (allowed : Allowed) (kept : AreKeptAlong world facts allowed) where
  abbrev Holds : State M C L P → Type 0
  Holds s = Hold (facts s.plans) s

  abbrev Now : {X : Type 0} → Ending X (State M C L P) → Type 0
  Now e = HoldsNow world facts e

  -- plans that stay
  pub may_later : (event : Event) (before after : Plans) → PlansStay before after → IsAllowed allowed event before → IsAllowed allowed event after
  may_later event before after stay may = (λ plan is new. may.0 plan is (by plan new (find ue_cmp before plan.ue) refl), may.1)
    where
      by : (plan : Plan) → IsNew after plan → (o : Option Plan) → find ue_cmp before plan.ue ≡ o → is_some (find ue_cmp before plan.ue) ≡ false
      by plan new None e = ap is_some e
      by plan new (Some q) e =
          let gone : true ≡ false = sym (ap is_some (stay plan.ue q e)) ∙ new in
          absurd cc

  -- of the plans that are there then
  in_step : (plans : Plans) (actor : Option NodeId) (w : Within M C L P) → HoldsWith world (facts plans) 0 w → HasPlans world plans w → Now (as_step actor w)
  in_step plans actor (goes lines t) h has = subst (λ (ps : Plans). Hold (facts ps) t) (sym has) h
  in_step plans actor (stops lines why) h has = tt

  -- ---- what a unit answers, with the plans afterwards

  module _ (event : Event) (s : State M C L P) (outputs : List (Put M L P)) (units : Units M C) (h : Holds s) where
    Answers : Cause M L P → Type 0
    Answers cause =
        ((facts (plans_by world cause s.plans)).units units × PutsFit (facts (plans_by world cause s.plans)) (node_of cause) (count_of cause) outputs)
        × Came world (facts (plans_by world cause s.plans)) cause units

    other : (cause : Cause M L P) → Stands event s cause → world.answer (sn_of s) s.units (node_of cause) (given_of cause) ≡ stepped outputs units
        → Brings allowed (given_of cause) → (facts s.plans).units units × PutsFit (facts s.plans) (node_of cause) (count_of cause) outputs
    other cause at is none =
        kept.answers s.plans s.units units (node_of cause) (count_of cause) (given_of cause) outputs none h.units (taken_has world (facts s.plans) event cause s h at) is

    pub answered : (cause : Cause M L P) → IsAllowed allowed event s.plans → Stands event s cause
        → world.answer (sn_of s) s.units (node_of cause) (given_of cause) ≡ stepped outputs units
        → ((facts (plans_by world cause s.plans)).units units × PutsFit (facts (plans_by world cause s.plans)) (node_of cause) (count_of cause) outputs)
        × Came world (facts (plans_by world cause s.plans)) cause units
    answered (by_attach plan) may at is =
        let fits : allowed.comes plan = may.0 plan (inl at.0) at.1 in
        let grown = (kept.grows s.plans (with_plan s.plans plan) (stay_put s.plans plan at.1)).units s.units h.units in
        let a = kept.attaches s.plans plan s.units units outputs fits at.1 grown is in
        (a, λ q is_it. comes_so q plan fits (ap plan_in is_it) a.0)
      where
        plan_in : Cause M L P → Option Plan
        plan_in (by_attach p) = Some p
        plan_in other_cause = None

        comes_so : (q p : Plan) → allowed.comes p → Some p ≡ Some q → (facts (with_plan s.plans p)).units units
            → (facts (with_plan s.plans p)).units (with_ue units q.ue (new_ue q))
        comes_so q p ok same_so u =
            let those : p ≡ q = cc in
            subst (λ (x : Plan). (facts (with_plan s.plans p)).units (with_ue units x.ue (new_ue x))) those (kept.comes s.plans p units ok u)
    answered (by_order node order) may at is = (other (by_order node order) at is at, λ q is_it. absurd cc)
    answered (by_tick node) may at is = (other (by_tick node) at is tt, λ q is_it. absurd cc)
    answered (by_octets from to octets) may at is = (other (by_octets from to octets) at is tt, λ q is_it. absurd cc)
    answered (by_octets_on end octets) may at is = (other (by_octets_on end octets) at is tt, λ q is_it. absurd cc)
    answered (by_release gnb ue) may at is = (other (by_release gnb ue) at is tt, λ q is_it. absurd cc)
    answered (by_offer ue bearer p) may at is = (other (by_offer ue bearer p) at is (may.1 ue bearer Ul p at.0), λ q is_it. absurd cc)
    answered (by_item end item rest) may at is = (other (by_item end item rest) at is tt, λ q is_it. absurd cc)
    answered (by_air key home item) may at is = (other (by_air key home item) at is tt, λ q is_it. absurd cc)
    answered (by_ack key home item rest) may at is = (other (by_ack key home item rest) at is tt, λ q is_it. absurd cc)
    answered (by_control_message number l to) may at is = (other (by_control_message number l to) at is tt, λ q is_it. absurd cc)

  act_along : (event : Event) (cause : Cause M L P) (outputs : List (Put M L P)) (units : Units M C) (s : State M C L P) → Holds s → IsAllowed allowed event s.plans
      → Stands event s cause → world.answer (sn_of s) s.units (node_of cause) (given_of cause) ≡ stepped outputs units
      → too_many_control_messages world outputs s ≡ false
      → Now (as_step (Some (node_of cause)) (carried_out world (node_of cause) (count_of cause) (first_of world cause) outputs units s))
  act_along event cause outputs units s h may at is few =
      let plans : Plans = plans_by world cause s.plans in
      let grown : Hold (facts plans) s = hold_grows (facts s.plans) (facts plans) 0 s (kept.grows s.plans plans (cause_stays world event s cause at)) h in
      let a = answered event s outputs units h cause may at is in
      in_step plans (Some (node_of cause)) _ (act_holds world (facts plans) event cause outputs units s a.1 grown at a.0 few) (act_plans world cause outputs units s)

  -- ---- an event

  then_along : (ps : Plans) (d : Outcome M C L P) (more : State M C L P → Outcome M C L P) → Now d → StaysFrom world ps d
      → ((x : State M C L P) → Holds x → PlansStay ps x.plans → Now (more x)) → Now (d next more)
  then_along ps (goes told x) more p stay q = by (more x) (q x p stay)
    where
      by : (e : Outcome M C L P) → Now e → Now (told_before told e)
      by (goes further s) h = h
      by (stops further why) h = tt
  then_along ps (stops told why) more p stay q = tt

  pub made_along : (event : Event) (s : State M C L P) (e : Outcome M C L P) → IsOutcome world event s e → Holds s → IsAllowed allowed event s.plans → Now e
  unfolding landed control_message
  made_along event s e (stays t) h may = h
  made_along event s e (ends t why) h may = tt
  made_along event s e (then_made t d more p q) h may =
      then_along t.plans d more (made_along event t d p h may) (made_stays world event t d p)
      (λ x k stay. made_along event x (more x) (q x) k (may_later event t.plans x.plans stay may))
  made_along event s e (sets_up t plan is free room teids) h may =
      let parts = or_parts (was_attached t plan.ue) _ free in
      let fits : allowed.comes plan = may.0 plan (inr is) parts.0 in
      let plans : Plans = with_plan t.plans plan in
      let grown : Hold (facts plans) t = hold_grows (facts t.plans) (facts plans) 0 t (kept.grows t.plans plans (stay_put t.plans plan parts.0)) h in
      statically_holds world (facts plans) plan t grown (kept.placed t.plans plan t.units fits (parts.1, room, teids) grown.units)
      (kept.core_placed t.plans plan t.units t.core fits (parts.1, room, teids) grown.core)
  made_along event s e (starts t d p) h may =
      made_along event (record t { started = true }) d p (same_links world (facts t.plans) 0 t (record t { started = true }) h refl refl refl refl refl) may
  made_along event s e (acts t cause outputs units at is fine few) h may = act_along event cause outputs units t h may at is few
  made_along event s e (holds_item t end reason) h may = h
  made_along event s e (holds_pdu t key home reason) h may = h
  made_along event s e (offers t ue bearer p path is found) h may =
      let f : Facts M C L P = facts t.plans in
      let end : TunnelEnd = record { node = path.up; teid = teid_of path.n3 bearer } in
      let item : Item L = record { key = entity ue bearer Dl; count = None; content = world.lay_n3 (teid_of path.n3 bearer) p } in
      in_step t.plans (Some Core) (put_on_tunnel world end item (offered world (entity ue bearer Dl) t) next check_spans)
      (then_holds world f 0 0 (put_on_tunnel world end item (offered world (entity ue bearer Dl) t)) check_spans
      (keep_put_on_tunnel world f end item (f.stands Core end item (kept.lays t.plans t.core ue bearer p path (may.1 ue bearer Dl p is) h.core found)) 0 (offered world (entity ue bearer Dl) t)
      (same_links world f 0 t (offered world (entity ue bearer Dl) t) h refl refl refl refl refl))
      (λ x k. keep_checked world f 0 x k))
      (then_plans world t.plans (put_on_tunnel world end item (offered world (entity ue bearer Dl) t)) check_spans
      (plans_put world end item (offered world (entity ue bearer Dl) t)) (plans_checked world))
  made_along event s e (core_takes t number l outputs core found at is few) h may =
      let f : Facts M C L P = facts t.plans in
      let a = kept.core_answers t.plans t.core core (control_message_for l.from l.message) outputs h.core (
        l.ue,
        subst (λ (n : NodeId). f.control_message (record { from = l.from; to = n; ue = l.ue; message = l.message })) at
            (found_has nat_cmp f.control_message t.bag.control_messages number l h.control_messages found),
      ) is in
      let ready : HoldWith f (count_control_messages world outputs) (record t { core = core }) =
      core_ready world f t core (count_control_messages world outputs) h a.0 (λ c. few_after (length t.bag.control_messages) (count_control_messages world outputs) few) in
      in_step t.plans (Some Core) _
      (then_holds world f 0 0 (landed_as world number l (record t { core = core }) next put_out_all world Core None outputs) check_spans
      (then_holds world f (count_control_messages world outputs) 0 (landed_as world number l (record t { core = core })) (put_out_all world Core None outputs)
      (record {
        units = ready.units;
        core = ready.core;
        control_messages = ready.control_messages;
        tunnels = ready.tunnels;
        radios = ready.radios;
        few = ready.few;
      }) (λ x k. keep_put_all world f Core None outputs a.1 x k)) (λ x k. keep_checked world f 0 x k))
      (then_plans world t.plans (landed_as world number l (record t { core = core }) next put_out_all world Core None outputs) check_spans
      (then_plans world t.plans (landed_as world number l (record t { core = core })) (put_out_all world Core None outputs) refl (plans_put_all world Core None outputs))
      (plans_checked world))
  made_along event s e (core_reads t from octets outputs core is) h may =
      let f : Facts M C L P = facts t.plans in
      let n : ℕ = count_control_messages world outputs in
      let a = kept.core_answers t.plans t.core core (octets_from from octets) outputs h.core tt is in
      in_step t.plans (Some Core) (put_out_all world Core None outputs (record t { core = core }) next check_spans)
      (then_holds world f 0 0 (put_out_all world Core None outputs (record t { core = core })) check_spans
      (keep_put_all world f Core None outputs a.1 (record t { core = core })
      (core_ready world f t core n h a.0
      (λ c. subst (λ (k : ℕ). length t.bag.control_messages + k ≤ most_control_messages) (sym (kept.silent t.plans c (sn_of t) t.core core from octets outputs is)) (h.few c))))
      (λ x k. keep_checked world f 0 x k))
      (then_plans world t.plans (put_out_all world Core None outputs (record t { core = core })) check_spans
      (plans_put_all world Core None outputs (record t { core = core })) (plans_checked world))
  made_along event s e (lands t number l to found at) h may = record {
    units = h.units;
    core = h.core;
    control_messages = h.control_messages;
    tunnels = h.tunnels;
    radios = h.radios;
    few = h.few;
  }
  made_along event s e (loses_control_message t number) h may = record {
    units = h.units;
    core = h.core;
    control_messages = h.control_messages;
    tunnels = h.tunnels;
    radios = h.radios;
    few = h.few;
  }
  made_along event s e (loses_item t end item rest found) h may = with_tunnels world (facts t.plans) 0 t end rest h (h.tunnels end (item ∷ rest) found).1
  made_along event s e (remarks t lines plain) h may = h

  -- ---- a run, where any terminal may come

  further_along : (t : State M C L P) (events : List Event) (e : Outcome M C L P) → Now e
      → ((after : State M C L P) → Holds after → reached world events after ≡ Some t → Holds t)
      → reached_by world (reached world events) e ≡ Some t → Holds t
  further_along t events (goes steps after) p more at = more after p at
  further_along t events (stops steps why) p more at = absurd cc

  pub holds_along : ((plan : Plan) → allowed.comes plan) → ((dir : Dir) (p : List ℕ) → allowed.offered dir p) → (events : List Event) (s t : State M C L P) → Holds s → reached world events s ≡ Some t → Holds t
  holds_along any all [] s t h is = let at : s ≡ t = cc in subst (λ (x : State M C L P). Hold (facts x.plans) x) at h
  holds_along any all (event ∷ events) s t h is =
      further_along t events (happens world event s) (made_along event s (happens world event s) (made_of_steps world event s) h
      ((λ plan is new. any plan), (λ ue bearer dir p is. all dir p)))
      (λ after p at. holds_along any all events after t p at) is
