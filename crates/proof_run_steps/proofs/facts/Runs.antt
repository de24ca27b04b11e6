-- In every run the facts go on to hold.
use Rattle.std.proofs.Common.{◌≡◌, ◌≤◌, ℕ, ◌+◌, zero, suc, true, false, ◌&&◌, List, [], ◌∷◌, length, Option, Some, None, refl, sym, subst}
use Rattle.std.proofs.lemmas.Bool.{or_parts}
use Rattle.std.specs.Prelude.{◌*◌}
use Rattle.gnb_types.specs.declared.names.NodeId.{NodeId}
use Rattle.gnb_types.specs.declared.names.NodeId.TheVariants.{CuUp, Du, Core}
use Rattle.gnb_types.specs.declared.names.Dir.TheVariants.{Dl}
use Rattle.gnb_types.specs.declared.plans.Plan.{Plan}
use Rattle.tables.specs.Tables.{at}
use Rattle.scenario_text.specs.declared.event.Event.{Event}
use Rattle.unit_defs.specs.Ways.{Put}
use Rattle.unit_defs.specs.Messages.{teid_of}
use Rattle.unit_defs.specs.Core.{CoreRecord}
use Rattle.unit_defs.specs.Static.{cu_up_has_room, cu_up_has_teids, du_has_teids}
use Rattle.transport_defs.specs.declared.Item.{Item}
use Rattle.transport_defs.specs.Links.{most_control_messages, control_message, landed}
use Rattle.run_defs.specs.Units.{cu_up_of, du_of}
use Rattle.run_defs.specs.States.{State, World, control_message_for, octets_from, goes, stops, told_before, ◌next◌, Within, Outcome, as_step, entity, sn_of, was_attached}
use Rattle.gnb_types.specs.declared.keys.TunnelEnd.{TunnelEnd}
use Rattle.run_defs.specs.Steps.{check_spans, put_on_tunnel, put_out_all, count_control_messages, with_tunnel}
use Rattle.run_defs.specs.Conditions.{is_held_by_units, tunnels_from, n3_from, statically}
use Rattle.run_defs.specs.Events.{landed_as, offered}
use Rattle.run_defs.specs.Runs.{happens}
use Rattle.proof_run_steps.specs.steps.Causes.{node_of}
use Rattle.proof_run_steps.specs.steps.IsOutcome.{IsOutcome, stays, ends, then_made, sets_up, starts, acts, holds_item, holds_pdu, offers, core_takes, core_reads, lands, loses_control_message, loses_item, remarks}
use Rattle.proof_run_steps.specs.steps.Reached.{reached_by, reached}
use Rattle.proof_run_steps.proofs.steps.Runs.{made_of_steps}
use Rattle.proof_run_steps.specs.facts.Facts.{Facts, HoldWith, Hold, PutsFit, AreKept}
use Rattle.proof_run_steps.proofs.facts.Within.{HoldsWith, then_holds, keep_checked, with_tunnels, with_open, keep_put_on_tunnel, keep_put_all, same_links}
use Rattle.proof_run_steps.proofs.facts.Steps.{few_after, found_has, act_keeps}
use Rattle.std.specs.Ordering.{nat_cmp}

module _ {M C L P : Type 0} (world : World M C L P) (facts : Facts M C L P) where
  pub step_holds : (actor : Option NodeId) (w : Within M C L P) → HoldsWith world facts 0 w → HoldsWith world facts 0 (as_step actor w)
  step_holds actor (goes lines t) p = p
  step_holds actor (stops lines why) p = tt

  pub outcome_holds : (e : Outcome M C L P) (more : State M C L P → Outcome M C L P) → HoldsWith world facts 0 e
      → ((t : State M C L P) → Hold facts t → HoldsWith world facts 0 (more t)) → HoldsWith world facts 0 (e next more)
  outcome_holds (goes told t) more p h = by (more t) (h t p)
    where
      by : (e : Outcome M C L P) → HoldsWith world facts 0 e → HoldsWith world facts 0 (told_before told e)
      by (goes further s) r = r
      by (stops further why) r = tt
  outcome_holds (stops told why) more p h = tt

  -- ---- a terminal that is set up without messages: its tunnels are open, and empty where they weren't

  pub tunnels_open : (node : NodeId) (teid count : ℕ) (s : State M C L P) → Hold facts s
      → Hold facts (record s { tunnels = tunnels_from node teid count s.tunnels })
  tunnels_open node teid zero s h = h
  tunnels_open node teid (suc count) s h =
      tunnels_open node (teid + 1) count (record s { tunnels = with_tunnel (record { node = node; teid = teid }) s.tunnels })
      (with_open world facts 0 s (record { node = node; teid = teid }) h)

  pub statically_holds : (plan : Plan) (s : State M C L P) → Hold facts s → facts.units (statically plan s).units → facts.core (statically plan s).core
      → Hold facts (statically plan s)
  statically_holds plan s h units core =
      let up : ℕ = (cu_up_of s.units plan.gnb plan.up).next_teid in
      let du : ℕ = (du_of s.units plan.gnb plan.du).next_teid in
      let ups = tunnels_open (CuUp plan.gnb plan.up) up (2 * plan.bearers) s h in
      let all = tunnels_open (Du plan.gnb plan.du) du plan.bearers
      (record s { tunnels = tunnels_from (CuUp plan.gnb plan.up) up (2 * plan.bearers) s.tunnels }) ups in
      record { units = units; core = core; control_messages = h.control_messages; tunnels = all.tunnels; radios = h.radios; few = h.few }

  -- ---- the core

  pub core_holds : (s : State M C L P) (core : CoreRecord M C) (outputs : List (Put M L P)) (e : Within M C L P)
      → HoldsWith world facts (count_control_messages world outputs) e → PutsFit facts Core None outputs
      → HoldsWith world facts 0 (as_step (Some Core) (e next put_out_all world Core None outputs next check_spans))
  core_holds s core outputs e h fits =
      step_holds (Some Core) (e next put_out_all world Core None outputs next check_spans)
      (then_holds world facts 0 0 (e next put_out_all world Core None outputs) check_spans
      (then_holds world facts (count_control_messages world outputs) 0 e (put_out_all world Core None outputs) h (λ t k. keep_put_all world facts Core None outputs fits t k))
      (λ t k. keep_checked world facts 0 t k))

  pub core_ready : (s : State M C L P) (core : CoreRecord M C) (n : ℕ) → Hold facts s → facts.core core → (facts.counted → length s.bag.control_messages + n ≤ most_control_messages)
      → HoldWith facts n (record s { core = core })
  core_ready s core n h is few = record {
    units = h.units;
    core = is;
    control_messages = h.control_messages;
    tunnels = h.tunnels;
    radios = h.radios;
    few = few;
  }

module _ {M C L P : Type 0} (world : World M C L P) (facts : Facts M C L P) (kept : AreKept world facts) where
  placed_holds : (plan : Plan) (s : State M C L P) → is_held_by_units plan s.units ≡ false → cu_up_has_room (cu_up_of s.units plan.gnb plan.up) plan ≡ true
      → cu_up_has_teids (cu_up_of s.units plan.gnb plan.up) plan && du_has_teids (du_of s.units plan.gnb plan.du) plan ≡ true
      → Hold facts s → Hold facts (statically plan s)
  placed_holds plan s free room teids h =
      statically_holds world facts plan s h (kept.placed s.units plan free room teids h.units)
      (kept.core_placed s.core plan (n3_from 1 (cu_up_of s.units plan.gnb plan.up).next_teid plan.bearers) h.core)

  -- ---- an event

  pub made_holds : (event : Event) (s : State M C L P) (e : Outcome M C L P) → IsOutcome world event s e → Hold facts s → HoldsWith world facts 0 e
  unfolding landed control_message
  made_holds event s e (stays t) h = h
  made_holds event s e (ends t why) h = tt
  made_holds event s e (then_made t d more p q) h =
      outcome_holds world facts d more (made_holds event t d p h) (λ x k. made_holds event x (more x) (q x) k)
  made_holds event s e (sets_up t plan is free room teids) h = placed_holds plan t (or_parts (was_attached t plan.ue) _ free).1 room teids h
  made_holds event s e (starts t d p) h =
      made_holds event (record t { started = true }) d p (same_links world facts 0 t (record t { started = true }) h refl refl refl refl refl)
  made_holds event s e (acts t cause outputs units at is fine few) h =
      step_holds world facts (Some (node_of cause)) _ (act_keeps world facts kept event cause outputs units t h at is few)
  made_holds event s e (holds_item t end reason) h = h
  made_holds event s e (holds_pdu t key home reason) h = h
  made_holds event s e (offers t ue bearer p path is found) h =
      let end : TunnelEnd = record { node = path.up; teid = teid_of path.n3 bearer } in
      let item : Item L = record { key = entity ue bearer Dl; count = None; content = world.lay_n3 (teid_of path.n3 bearer) p } in
      step_holds world facts (Some Core) (put_on_tunnel world end item (offered world (entity ue bearer Dl) t) next check_spans)
      (then_holds world facts 0 0 (put_on_tunnel world end item (offered world (entity ue bearer Dl) t)) check_spans
      (keep_put_on_tunnel world facts end item (facts.stands Core end item (kept.lays t.core ue bearer p path h.core found)) 0 (offered world (entity ue bearer Dl) t)
      (same_links world facts 0 t (offered world (entity ue bearer Dl) t) h refl refl refl refl refl))
      (λ x k. keep_checked world facts 0 x k))
  made_holds event s e (core_takes t number l outputs core found at is few) h =
      let answered = kept.core_answers (sn_of t) t.core core (control_message_for l.from l.message) outputs h.core (
        l.ue,
        subst (λ (n : NodeId). facts.control_message (record { from = l.from; to = n; ue = l.ue; message = l.message })) at
            (found_has nat_cmp facts.control_message t.bag.control_messages number l h.control_messages found),
      ) is in
      let ready : HoldWith facts (count_control_messages world outputs) (record t { core = core }) =
      core_ready world facts t core (count_control_messages world outputs) h answered.0 (λ c. few_after (length t.bag.control_messages) (count_control_messages world outputs) few) in
      core_holds world facts t core outputs (landed_as world number l (record t { core = core })) (record {
        units = ready.units;
        core = ready.core;
        control_messages = ready.control_messages;
        tunnels = ready.tunnels;
        radios = ready.radios;
        few = ready.few;
      }) answered.1
  made_holds event s e (core_reads t from octets outputs core is) h =
      let n : ℕ = count_control_messages world outputs in
      let answered = kept.core_answers (sn_of t) t.core core (octets_from from octets) outputs h.core tt is in
      step_holds world facts (Some Core) (put_out_all world Core None outputs (record t { core = core }) next check_spans)
      (then_holds world facts 0 0 (put_out_all world Core None outputs (record t { core = core })) check_spans
      (keep_put_all world facts Core None outputs answered.1 (record t { core = core })
      (core_ready world facts t core n h answered.0
      (λ c. subst (λ (k : ℕ). length t.bag.control_messages + k ≤ most_control_messages) (sym (kept.silent c (sn_of t) t.core core from octets outputs is)) (h.few c))))
      (λ x k. keep_checked world facts 0 x k))
  made_holds event s e (lands t number l to found at) h = record {
    units = h.units;
    core = h.core;
    control_messages = h.control_messages;
    tunnels = h.tunnels;
    radios = h.radios;
    few = h.few;
  }
  made_holds event s e (loses_control_message t number) h = record {
    units = h.units;
    core = h.core;
    control_messages = h.control_messages;
    tunnels = h.tunnels;
    radios = h.radios;
    few = h.few;
  }
  made_holds event s e (loses_item t end item rest found) h =
      with_tunnels world facts 0 t end rest h (h.tunnels end (item ∷ rest) found).1
  made_holds event s e (remarks t lines plain) h = h

  further_holds : (t : State M C L P) (events : List Event) (e : Outcome M C L P) → HoldsWith world facts 0 e
      → ((after : State M C L P) → Hold facts after → reached world events after ≡ Some t → Hold facts t)
      → reached_by world (reached world events) e ≡ Some t → Hold facts t
  further_holds t events (goes steps after) p more at = more after p at
  further_holds t events (stops steps why) p more at = absurd cc

  pub facts_hold : (events : List Event) (s t : State M C L P) → Hold facts s → reached world events s ≡ Some t → Hold facts t
  facts_hold [] s t h is = let at : s ≡ t = cc in subst (λ (x : State M C L P). Hold facts x) at h
  facts_hold (event ∷ events) s t h is =
      further_holds t events (happens world event s) (made_holds event s (happens world event s) (made_of_steps world event s) h)
      (λ after p at. facts_hold events after t p at) is
