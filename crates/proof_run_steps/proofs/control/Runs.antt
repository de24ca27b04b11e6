-- In every run what each step keeps goes on to hold.
use Rattle.std.proofs.Common.{◌≡◌, ℕ, true, false, Bool, cond, List, [], ◌∷◌, Some, None, refl, sym, subst}
use Rattle.std.proofs.lemmas.Bool.{or_parts}
use Rattle.std.proofs.lemmas.List.Elements.{Contains-append_left, Contains-append_right, Contains-push}
use Rattle.std.specs.Prelude.{map}
use Rattle.std.specs.List.{Contains}
use Rattle.std.specs.Map.{lookup}
use Rattle.std.specs.BTreeMap.{is_at}
use Rattle.std.specs.Ordering.{nat_cmp}
use Rattle.gnb_types.specs.declared.names.NodeId.{NodeId}
use Rattle.gnb_types.specs.declared.names.NodeId.TheVariants.{Core}
use Rattle.tables.specs.Tables.{find}
use Rattle.scenario_text.specs.declared.event.Event.{Event}
use Rattle.transport_defs.specs.declared.ControlMessage.{ControlMessage}
use Rattle.transport_defs.specs.Links.{control_message, landed}
use Rattle.run_defs.specs.Units.{cu_up_of}
use Rattle.run_defs.specs.States.{State, World, Given, control_message_for, octets_from, goes, stops, told_before, ◌next◌, Ending, Outcome, sn_of, was_attached}
use Rattle.run_defs.specs.Steps.{check_spans, put_out_all}
use Rattle.run_defs.specs.Conditions.{n3_from}
use Rattle.run_defs.specs.Events.{landed_as}
use Rattle.run_defs.specs.Runs.{happens}
use Rattle.proof_run_steps.specs.steps.Causes.{Cause, by_order, by_tick, by_octets, by_octets_on, by_attach, by_release, by_offer, by_item, by_air, by_ack, by_control_message, node_of, given_of, Stands}
use Rattle.proof_run_steps.specs.steps.IsOutcome.{IsOutcome, stays, ends, then_made, sets_up, starts, acts, holds_item, holds_pdu, offers, core_takes, core_reads, lands, loses_control_message, loses_item, remarks}
use Rattle.proof_run_steps.specs.steps.Reached.{reached_by, reached}
use Rattle.proof_run_steps.proofs.steps.Runs.{made_of_steps}
use Rattle.proof_run_steps.specs.control.Control.{Control, control_of, control_messages_in, with_control_messages, WasPut, IsKept}
use Rattle.proof_run_steps.proofs.control.Frames.{HasControl, then_has, then_control, keep_checked, keep_put_on_tunnel, add_put_all, first_control, act_has, step_has}

-- what a number finds was put
found_in : {M : Type 0} (es : List (ℕ × ControlMessage M)) (number : ℕ) (l : ControlMessage M) → find nat_cmp es number ≡ Some l → Contains (map (λ e. e.1) es) l
unfolding find
found_in [] number l is = absurd cc
found_in {M} (e ∷ es) number l is = by (found_in es number l) (is_at (nat_cmp number) e.0) is
  where
    by : (find nat_cmp es number ≡ Some l → Contains (map (λ (x : ℕ × ControlMessage M). x.1) es) l) → (t : Bool)
        → cond t (Some e.1) (lookup (is_at (nat_cmp number)) es) ≡ Some l → Contains (map (λ (x : ℕ × ControlMessage M). x.1) (e ∷ es)) l
    by later true h =
        let same : e.1 ≡ l = cc in
        Contains-append_left (e.1 ∷ []) (map (λ (x : ℕ × ControlMessage M). x.1) es) l (subst (Contains (e.1 ∷ [])) same (Contains-push [] e.1))
    by later false h = Contains-append_right (e.1 ∷ []) (map (λ (x : ℕ × ControlMessage M). x.1) es) l (later h)

module _ {M C L P : Type 0} (world : World M C L P) (H : Control M C → Type 0) (kept : IsKept world H) where
  abbrev Holds : {X : Type 0} → Ending X (State M C L P) → Type 0
  Holds (goes told t) = H (control_of t)
  Holds (stops told why) = Unit {0}

  by_control : {X : Type 0} (k : Control M C) (e : Ending X (State M C L P)) → H k → HasControl world k e → Holds e
  by_control k (goes told t) h is = subst H (sym is) h
  by_control k (stops told why) h is = tt

  then_holds : (e : Outcome M C L P) (more : State M C L P → Outcome M C L P) → Holds e
      → ((t : State M C L P) → H (control_of t) → Holds (more t)) → Holds (e next more)
  then_holds (goes told t) more p q = by (more t) (q t p)
    where
      by : (e : Outcome M C L P) → Holds e → Holds (told_before told e)
      by (goes further s) h = h
      by (stops further why) h = tt
  then_holds (stops told why) more p q = tt

  -- what a step takes was put to its node
  was_put : (event : Event) (s : State M C L P) (cause : Cause M L P) → Stands event s cause → WasPut (control_of s).control_messages (node_of cause) (given_of cause)
  unfolding control_message
  was_put event s (by_order node order) at = tt
  was_put event s (by_tick node) at = tt
  was_put event s (by_octets from to octets) at = tt
  was_put event s (by_octets_on end octets) at = tt
  was_put event s (by_attach plan) at = tt
  was_put event s (by_release gnb ue) at = tt
  was_put event s (by_offer ue bearer p) at = tt
  was_put event s (by_item end item rest) at = tt
  was_put event s (by_air key home item) at = tt
  was_put event s (by_ack key home item rest) at = tt
  was_put event s (by_control_message number l to) at = (
    l.ue,
    subst (λ (n : NodeId). Contains (map (λ (e : ℕ × ControlMessage M). e.1) s.bag.control_messages) (record { from = l.from; to = n; ue = l.ue; message = l.message })) at.1
        (found_in s.bag.control_messages number l at.0),
  )

  first_keeps : (cause : Cause M L P) (k : Control M C) (more : List (ControlMessage M)) → H (with_control_messages k more) → H (with_control_messages (first_control world cause k) more)
  first_keeps (by_attach plan) k more h = kept.comes (with_control_messages k more) plan h
  first_keeps (by_order node order) k more h = h
  first_keeps (by_tick node) k more h = h
  first_keeps (by_octets from to octets) k more h = h
  first_keeps (by_octets_on end octets) k more h = h
  first_keeps (by_release gnb ue) k more h = h
  first_keeps (by_offer ue bearer p) k more h = h
  first_keeps (by_item end item rest) k more h = h
  first_keeps (by_air key home item) k more h = h
  first_keeps (by_ack key home item rest) k more h = h
  first_keeps (by_control_message number l to) k more h = h

  pub made_holds : (event : Event) (s : State M C L P) (e : Outcome M C L P) → IsOutcome world event s e → H (control_of s) → Holds e
  unfolding landed control_message
  made_holds event s e (stays t) h = h
  made_holds event s e (ends t why) h = tt
  made_holds event s e (then_made t d more p q) h = then_holds d more (made_holds event t d p h) (λ x k. made_holds event x (more x) (q x) k)
  made_holds event s e (sets_up t plan is free room teids) h =
      kept.placed (control_of t) plan (n3_from 1 (cu_up_of t.units plan.gnb plan.up).next_teid plan.bearers) (or_parts (was_attached t plan.ue) _ free).1 room teids h
  made_holds event s e (starts t d p) h = made_holds event (record t { started = true }) d p h
  made_holds event s e (acts t cause outputs units at is fine few) h =
      by_control (with_control_messages (first_control world cause (record (control_of t) { units = units })) (control_messages_in (node_of cause) outputs)) _
      (first_keeps cause (record (control_of t) { units = units }) (control_messages_in (node_of cause) outputs)
      (kept.answers (sn_of t) (control_of t) units (node_of cause) (given_of cause) outputs h (was_put event t cause at) is))
      (step_has world _ (Some (node_of cause)) _ (act_has world cause outputs units t))
  made_holds event s e (holds_item t end reason) h = h
  made_holds event s e (holds_pdu t key home reason) h = h
  made_holds event s e (offers t ue bearer p path is found) h =
      by_control (control_of t) _ h (step_has world (control_of t) (Some Core) _
      (then_control world (control_of t) _ check_spans (keep_put_on_tunnel world _ _ _) (keep_checked world)))
  made_holds event s e (core_takes t number l outputs core found at is few) h =
      let k : Control M C = record (control_of t) { core = core } in
      let given : Given M L P = control_message_for l.from l.message in
      let put : WasPut (control_of t).control_messages Core given = (
        l.ue,
        subst (λ (n : NodeId). Contains (map (λ (e : ℕ × ControlMessage M). e.1) t.bag.control_messages) (record { from = l.from; to = n; ue = l.ue; message = l.message })) at
            (found_in t.bag.control_messages number l found),
      ) in
      by_control (with_control_messages k (control_messages_in Core outputs)) _ (kept.core_answers (sn_of t) (control_of t) core given outputs h put is)
      (step_has world (with_control_messages k (control_messages_in Core outputs)) (Some Core) _
      (then_control world (with_control_messages k (control_messages_in Core outputs))
      (landed_as world number l (record t { core = core }) next put_out_all world Core None outputs) check_spans
      (then_has world k (with_control_messages k (control_messages_in Core outputs)) (landed_as world number l (record t { core = core })) (put_out_all world Core None outputs) refl
      (λ x same. subst (λ (y : Control M C). HasControl world (with_control_messages y (control_messages_in Core outputs)) (put_out_all world Core None outputs x)) same
      (add_put_all world Core None outputs x)))
      (keep_checked world)))
  made_holds event s e (core_reads t from octets outputs core is) h =
      let k : Control M C = record (control_of t) { core = core } in
      by_control (with_control_messages k (control_messages_in Core outputs)) _ (kept.core_answers (sn_of t) (control_of t) core (octets_from from octets) outputs h tt is)
      (step_has world (with_control_messages k (control_messages_in Core outputs)) (Some Core) _
      (then_control world (with_control_messages k (control_messages_in Core outputs)) (put_out_all world Core None outputs (record t { core = core })) check_spans
      (add_put_all world Core None outputs (record t { core = core })) (keep_checked world)))
  made_holds event s e (lands t number l to found at) h = h
  made_holds event s e (loses_control_message t number) h = h
  made_holds event s e (loses_item t end item rest found) h = h
  made_holds event s e (remarks t lines plain) h = h

  further : (t : State M C L P) (events : List Event) (e : Outcome M C L P) → Holds e
      → ((after : State M C L P) → H (control_of after) → reached world events after ≡ Some t → H (control_of t))
      → reached_by world (reached world events) e ≡ Some t → H (control_of t)
  further t events (goes steps after) p more at = more after p at
  further t events (stops steps why) p more at = absurd cc

  pub kept_holds : (events : List Event) (s t : State M C L P) → H (control_of s) → reached world events s ≡ Some t → H (control_of t)
  kept_holds [] s t h is = let at : s ≡ t = cc in subst (λ (x : State M C L P). H (control_of x)) at h
  kept_holds (event ∷ events) s t h is =
      further t events (happens world event s) (made_holds event s (happens world event s) (made_of_steps world event s) h)
      (λ after p at. kept_holds events after t p at) is
