-- In every run that ends where it may, the facts go on to hold up to its end.
use Rattle.std.proofs.Common.{◌≡◌, ◌≤◌, ℕ, ◌+◌, true, false, ◌&&◌, List, [], ◌∷◌, length, Option, Some, None, refl, sym, subst}
use Rattle.std.proofs.lemmas.Bool.{or_parts}
use Rattle.std.specs.Ordering.{nat_cmp}
use Rattle.gnb_types.specs.declared.names.NodeId.{NodeId}
use Rattle.gnb_types.specs.declared.names.NodeId.TheVariants.{Core}
use Rattle.gnb_types.specs.declared.names.Dir.TheVariants.{Dl}
use Rattle.gnb_types.specs.declared.keys.TunnelEnd.{TunnelEnd}
use Rattle.gnb_types.specs.declared.plans.Plan.{Plan}
use Rattle.scenario_text.specs.declared.event.Event.{Event}
use Rattle.unit_defs.specs.Messages.{teid_of}
use Rattle.unit_defs.specs.Static.{cu_up_has_room, cu_up_has_teids, du_has_teids}
use Rattle.transport_defs.specs.declared.Item.{Item}
use Rattle.transport_defs.specs.Links.{most_control_messages, control_message, landed}
use Rattle.run_defs.specs.Units.{Units, cu_up_of, du_of}
use Rattle.run_defs.specs.States.{State, World, control_message_for, octets_from, goes, stops, told_before, ◌next◌, Ending, Within, Outcome, as_step, entity, sn_of, was_attached}
use Rattle.run_defs.specs.Steps.{check_spans, put_on_tunnel, put_out_all, count_control_messages, carried_out}
use Rattle.run_defs.specs.Conditions.{is_held_by_units, units_placed, all_set_up}
use Rattle.run_defs.specs.Events.{landed_as, offered}
use Rattle.run_defs.specs.Runs.{happens}
use Rattle.proof_run_steps.specs.steps.Causes.{Cause, by_order, by_tick, by_octets, by_octets_on, by_attach, by_release, by_offer, by_item, by_air, by_ack, by_control_message, node_of, given_of, count_of, first_of}
use Rattle.proof_run_steps.specs.steps.IsOutcome.{IsOutcome, stays, ends, then_made, sets_up, starts, acts, holds_item, holds_pdu, offers, core_takes, core_reads, lands, loses_control_message, loses_item, remarks}
use Rattle.proof_run_steps.specs.steps.Reached.{reached_by, reached}
use Rattle.proof_run_steps.proofs.steps.Frames.{HasUnits, units_by, act_units, Relates, made_relates, reached_relates}
use Rattle.proof_run_steps.proofs.steps.Runs.{made_of_steps}
use Rattle.proof_run_steps.specs.facts.Facts.{Facts, HoldWith, Hold}
use Rattle.proof_run_steps.specs.facts.Later.{MayPlace, AreKeptTo}
use Rattle.proof_run_steps.proofs.facts.Within.{HoldsWith, then_holds, keep_checked, with_tunnels, keep_put_on_tunnel, keep_put_all, same_links}
use Rattle.proof_run_steps.proofs.facts.Steps.{few_after, found_has, taken_has, act_holds}
use Rattle.proof_run_steps.proofs.facts.Runs.{step_holds, statically_holds, core_holds, core_ready}

module _ {M C L P : Type 0} (world : World M C L P) (facts : Facts M C L P) (later : Units M C → Type 0)
    (kept : AreKeptTo world facts later) where
  -- where it goes on, it ends where it may
  abbrev pub LaterAt : {X : Type 0} → Ending X (State M C L P) → Type 0
  LaterAt (goes told t) = later t.units
  LaterAt (stops told why) = Unit {0}

  abbrev Back : Units M C → Units M C → Type 0
  Back u v = later v → later u

  same : (u : Units M C) → Back u u
  same u l = l

  joined : (u v w : Units M C) → Back u v → Back v w → Back u w
  joined u v w p q l = p (q l)

  placing : (u : Units M C) (plan : Plan) → is_held_by_units plan u ≡ false → cu_up_has_room (cu_up_of u plan.gnb plan.up) plan ≡ true
      → cu_up_has_teids (cu_up_of u plan.gnb plan.up) plan && du_has_teids (du_of u plan.gnb plan.du) plan ≡ true → Back u (all_set_up (units_placed plan u))
  placing u plan free room teids = kept.before_placing u plan (free, room, teids)

  made_back : (event : Event) (s : State M C L P) (e : Outcome M C L P) → IsOutcome world event s e → Relates world Back same joined kept.before_answer kept.before_coming placing s.units e
  made_back event s e p = made_relates world Back same joined kept.before_answer kept.before_coming placing event s e p

  before_terminal : (cause : Cause M L P) (u : Units M C) → later (units_by world cause u) → later u
  before_terminal (by_attach plan) u l = kept.before_coming u plan l
  before_terminal (by_order node order) u l = l
  before_terminal (by_tick node) u l = l
  before_terminal (by_octets from to octets) u l = l
  before_terminal (by_octets_on end octets) u l = l
  before_terminal (by_release gnb ue) u l = l
  before_terminal (by_offer ue bearer p) u l = l
  before_terminal (by_item end item rest) u l = l
  before_terminal (by_air key home item) u l = l
  before_terminal (by_ack key home item rest) u l = l
  before_terminal (by_control_message number m to) u l = l

  -- a step, with these units afterwards
  step_later : (actor : Option NodeId) (v : Units M C) (w : Within M C L P) → HasUnits world v w → (later v → HoldsWith world facts 0 w)
      → LaterAt (as_step actor w) → HoldsWith world facts 0 (as_step actor w)
  step_later actor v (goes lines t) has h l = h (subst later has l)
  step_later actor v (stops lines why) has h l = tt

  -- one after another
  then_later : (d : Outcome M C L P) (more : State M C L P → Outcome M C L P) → (LaterAt d → HoldsWith world facts 0 d)
      → ((x : State M C L P) → Relates world Back same joined kept.before_answer kept.before_coming placing x.units (more x))
      → ((x : State M C L P) → Hold facts x → LaterAt (more x) → HoldsWith world facts 0 (more x))
      → LaterAt (d next more) → HoldsWith world facts 0 (d next more)
  then_later (goes told x) more p back q l = by (more x) (back x) (q x) l
    where
      by : (e : Outcome M C L P) → Relates world Back same joined kept.before_answer kept.before_coming placing x.units e
          → (Hold facts x → LaterAt e → HoldsWith world facts 0 e) → LaterAt (told_before told e) → HoldsWith world facts 0 (told_before told e)
      by (goes further s) b r l = r (p (b l)) l
      by (stops further why) b r l = tt
  then_later (stops told why) more p back q l = tt

  pub made_later : (event : Event) (s : State M C L P) (e : Outcome M C L P) → IsOutcome world event s e → Hold facts s → LaterAt e → HoldsWith world facts 0 e
  unfolding landed control_message
  made_later event s e (stays t) h l = h
  made_later event s e (ends t why) h l = tt
  made_later event s e (then_made t d more p q) h l =
      then_later d more (made_later event t d p h) (λ x. made_back event x (more x) (q x)) (λ x k. made_later event x (more x) (q x) k) l
  made_later event s e (sets_up t plan is free room teids) h l =
      let may : MayPlace world facts later t.units plan = ((or_parts (was_attached t plan.ue) _ free).1, room, teids) in
      statically_holds world facts plan t h (kept.placed t.units plan may l h.units) (kept.core_placed t.units t.core plan may l h.units h.core)
  made_later event s e (starts t d p) h l =
      made_later event (record t { started = true }) d p (same_links world facts 0 t (record t { started = true }) h refl refl refl refl refl) l
  made_later event s e (acts t cause outputs units at is fine few) h l =
      step_later (Some (node_of cause)) (units_by world cause units)
      (carried_out world (node_of cause) (count_of cause) (first_of world cause) outputs units t) (act_units world cause outputs units t)
      (λ k. let answered = kept.answers (sn_of t) t.units units (node_of cause) (count_of cause) (given_of cause) outputs h.units (taken_has world facts event cause t h at) is
      (before_terminal cause units k) in
      act_holds world facts event cause outputs units t (λ plan by. kept.comes units plan answered.0) h at answered few) l
  made_later event s e (holds_item t end reason) h l = h
  made_later event s e (holds_pdu t key home reason) h l = h
  made_later event s e (offers t ue bearer p path is found) h l =
      let end : TunnelEnd = record { node = path.up; teid = teid_of path.n3 bearer } in
      let item : Item L = record { key = entity ue bearer Dl; count = None; content = world.lay_n3 (teid_of path.n3 bearer) p } in
      step_holds world facts (Some Core) (put_on_tunnel world end item (offered world (entity ue bearer Dl) t) next check_spans)
      (then_holds world facts 0 0 (put_on_tunnel world end item (offered world (entity ue bearer Dl) t)) check_spans
      (keep_put_on_tunnel world facts end item (facts.stands Core end item (kept.lays t.core ue bearer p path h.core found)) 0 (offered world (entity ue bearer Dl) t)
      (same_links world facts 0 t (offered world (entity ue bearer Dl) t) h refl refl refl refl refl))
      (λ x k. keep_checked world facts 0 x k))
  made_later event s e (core_takes t number m outputs core found at is few) h l =
      let answered = kept.core_answers (sn_of t) t.core core (control_message_for m.from m.message) outputs h.core (
        m.ue,
        subst (λ (n : NodeId). facts.control_message (record { from = m.from; to = n; ue = m.ue; message = m.message })) at
            (found_has nat_cmp facts.control_message t.bag.control_messages number m h.control_messages found),
      ) is in
      let ready : HoldWith facts (count_control_messages world outputs) (record t { core = core }) =
      core_ready world facts t core (count_control_messages world outputs) h answered.0 (λ c. few_after (length t.bag.control_messages) (count_control_messages world outputs) few) in
      core_holds world facts t core outputs (landed_as world number m (record t { core = core })) (record {
        units = ready.units;
        core = ready.core;
        control_messages = ready.control_messages;
        tunnels = ready.tunnels;
        radios = ready.radios;
        few = ready.few;
      }) answered.1
  made_later event s e (core_reads t from octets outputs core is) h l =
      let n : ℕ = count_control_messages world outputs in
      let answered = kept.core_answers (sn_of t) t.core core (octets_from from octets) outputs h.core tt is in
      step_holds world facts (Some Core) (put_out_all world Core None outputs (record t { core = core }) next check_spans)
      (then_holds world facts 0 0 (put_out_all world Core None outputs (record t { core = core })) check_spans
      (keep_put_all world facts Core None outputs answered.1 (record t { core = core })
      (core_ready world facts t core n h answered.0
      (λ c. subst (λ (k : ℕ). length t.bag.control_messages + k ≤ most_control_messages) (sym (kept.silent c (sn_of t) t.core core from octets outputs is)) (h.few c))))
      (λ x k. keep_checked world facts 0 x k))
  made_later event s e (lands t number m to found at) h l = record {
    units = h.units;
    core = h.core;
    control_messages = h.control_messages;
    tunnels = h.tunnels;
    radios = h.radios;
    few = h.few;
  }
  made_later event s e (loses_control_message t number) h l = record {
    units = h.units;
    core = h.core;
    control_messages = h.control_messages;
    tunnels = h.tunnels;
    radios = h.radios;
    few = h.few;
  }
  made_later event s e (loses_item t end item rest found) h l = with_tunnels world facts 0 t end rest h (h.tunnels end (item ∷ rest) found).1
  made_later event s e (remarks t lines plain) h l = h

  further_later : (t : State M C L P) (events : List Event) (e : Outcome M C L P) → (LaterAt e → HoldsWith world facts 0 e) → later t.units
      → ((after : State M C L P) → Hold facts after → reached world events after ≡ Some t → Hold facts t)
      → reached_by world (reached world events) e ≡ Some t → Hold facts t
  further_later t events (goes steps after) p l more at =
      more after (p (reached_relates world Back same joined kept.before_answer kept.before_coming placing events after t at l)) at
  further_later t events (stops steps why) p l more at = absurd cc

  pub facts_hold_to : (events : List Event) (s t : State M C L P) → Hold facts s → reached world events s ≡ Some t → later t.units → Hold facts t
  facts_hold_to [] s t h is l = let at : s ≡ t = cc in subst (λ (x : State M C L P). Hold facts x) at h
  facts_hold_to (event ∷ events) s t h is l =
      further_later t events (happens world event s) (made_later event s (happens world event s) (made_of_steps world event s) h) l
      (λ after p at. facts_hold_to events after t p at l) is
