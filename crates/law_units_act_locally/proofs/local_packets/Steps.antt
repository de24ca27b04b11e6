-- Each step of an event puts and delivers what was offered or got in it or before, and so units go on to know where their packets are from.
use Rattle.std.proofs.Common.{◌≡◌, ℕ, Bool, true, List, [], ◌∷◌, ◌++◌, map, Option, Some, None, inl, inr, refl, sym, ap, ◌∙◌, subst}
use Rattle.std.specs.List.{AllByRecursion}
use Rattle.std.specs.Ordering.{nat_cmp}
use Rattle.gnb_types.specs.declared.names.NodeId.{NodeId}
use Rattle.gnb_types.specs.declared.names.NodeId.TheVariants.{Core}
use Rattle.gnb_types.specs.declared.names.Dir.{Dir}
use Rattle.gnb_types.specs.declared.names.Dir.TheVariants.{Dl, Ul}
use Rattle.gnb_types.specs.declared.keys.EntityKey.{EntityKey}
use Rattle.gnb_types.specs.declared.keys.TunnelEnd.{TunnelEnd}
use Rattle.gnb_types.specs.Orders.{tunnel_cmp}
use Rattle.tables.specs.Tables.{put}
use Rattle.message_types.specs.declared.rrc.Token.{Token}
use Rattle.scenario_text.specs.declared.event.Event.{Event}
use Rattle.unit_defs.specs.Ways.{Message, Pdu, Load, Put, control, packet, radio, deliver, dropped, held, opened, closed, failed, no}
use Rattle.unit_defs.specs.Messages.{teid_of}
use Rattle.transport_defs.specs.declared.Item.{Item}
use Rattle.transport_defs.specs.Links.{control_message, landed}
use Rattle.run_defs.specs.Lines.{RunLine, put_item, got_message, delivers, lost_items, lost_message, held_at, was_refused, tunnel_link, radio_link, shown}
use Rattle.run_defs.specs.Local.{Act}
use Rattle.run_defs.specs.Units.{Units}
use Rattle.run_defs.specs.Written.{Written}
use Rattle.run_defs.specs.States.{State, radio_of, World, RunStep, step_of, goes, stops, told_before, ◌next◌, Within, Outcome, as_step, entity, sn_of, stepped, control_message_for, octets_from}
use Rattle.run_defs.specs.Steps.{check_spans, count_beside, put_on_tunnel, put_out_all, carried_out}
use Rattle.run_defs.specs.Conditions.{receiver_by, receiver_of, epoch_of}
use Rattle.run_defs.specs.Events.{landed_as, offered}
use Rattle.run_defs.specs.Runs.{Reading}
use Rattle.proof_run_steps.specs.steps.Causes.{Cause, by_order, by_tick, by_octets, by_octets_on, by_attach, by_release, by_offer, by_item, by_air, by_ack, by_control_message, node_of, given_of, count_of, first_of, Stands}
use Rattle.proof_run_steps.specs.steps.IsOutcome.{IsOutcome, stays, ends, then_made, sets_up, starts, acts, holds_item, holds_pdu, offers, core_takes, core_reads, lands, loses_control_message, loses_item, remarks}
use Rattle.proof_run_steps.proofs.steps.Frames.{HasUnits, then_units, keep_checked, keep_put_on_tunnel, keep_put_all, units_by, act_units}
use Rattle.proof_run_steps.specs.plans.Plans.{Plans, PlansStay}
use Rattle.proof_run_steps.proofs.plans.Frames.{plans_by}
use Rattle.proof_run_steps.proofs.plans.Runs.{StaysFrom, made_stays}
use Rattle.proof_run_steps.specs.facts.Facts.{Facts, Hold, PutFits, PutsFit}
use Rattle.proof_run_steps.proofs.facts.Within.{same_links}
use Rattle.proof_run_steps.proofs.facts.Steps.{nth_has, found_has}
use Rattle.proof_run_steps.specs.plan_facts.Along.{Allowed, IsAllowed, AreKeptAlong, HoldsNow}
use Rattle.proof_run_steps.proofs.plan_facts.Along.{answered, may_later, made_along}
use Rattle.law_units_act_locally.specs.local_packets.Says.{packet_of_pdu, packet_of_load, Saying, showing}
use Rattle.law_units_act_locally.specs.local_packets.Local.{OneOf, IfAny, IsOffered, IsGotWith, WasAt, IsLocalLine, IsLocalBy, LocalFrom}
use Rattle.law_units_act_locally.proofs.local_packets.Lines.{IsOther, lines_of, then_lines, checked_lines, tunnel_lines, PutShows, puts_lines, step_lines, first_has}
use Rattle.law_units_act_locally.proofs.local_packets.Settled.{Settled, settled_own, settled_radios, settled_started, OutcomeSettled, made_settled}
use Rattle.law_units_act_locally.proofs.local_packets.Known.{Known, known_later, GivenHas, IsFor, GivenOwn, PutHas, units_answer, comes_known, placed_known, the_core_answers}

abbrev Line : Type 0
Line = RunLine (Message Token)

abbrev pub Told : Type 0
Told = Act (Message Token)

-- ---- steps, one after another

abbrev pub act_of : Event → Bool → RunStep (Message Token) → Told
act_of event refused step = record { event = event; refused = refused; step = step }

abbrev pub after : Event → Bool → List Told → List (RunStep (Message Token)) → List Told
after event refused past [] = past
after event refused past (step ∷ steps) = after event refused (act_of event refused step ∷ past) steps

after_both : (event : Event) (refused : Bool) (past : List Told) (steps more : List (RunStep (Message Token)))
    → after event refused past (steps ++ more) ≡ after event refused (after event refused past steps) more
after_both event refused past [] more = refl
after_both event refused past (step ∷ steps) more = after_both event refused (act_of event refused step ∷ past) steps more

module _ (reading : Reading) (show_item : Written (Load Pdu) → List ℕ) (show_pdu : Written Pdu → List ℕ) (Says : Saying) (Puts : NodeId → Saying) where
  abbrev pub TheWorld : World (Message Token) Token (Written (Load Pdu)) (Written Pdu)
  TheWorld = showing reading show_item show_pdu

  abbrev pub TheFacts : Type 1
  TheFacts = Facts (Message Token) Token (Written (Load Pdu)) (Written Pdu)

  -- what stands on a link says its packet; so does what is put there
  pub record Tells (facts : TheFacts) : Type 0 where
    pub tunnel : (end : TunnelEnd) (item : Item (Written (Load Pdu))) → facts.on_tunnel end item
        → Says (tunnel_link end) (shown item.key item.count (show_item item.content)) (packet_of_load item.content.says)
    pub radio : (key on : EntityKey) (epoch : ℕ) (item : Item (Written Pdu)) → facts.on_radio key item
        → Says (radio_link on epoch) (shown item.key item.count (show_pdu item.content)) (packet_of_pdu item.content.says)
    pub puts : (node : NodeId) (end : TunnelEnd) (item : Item (Written (Load Pdu))) → facts.puts_on node end item
        → Puts node (tunnel_link end) (shown item.key item.count (show_item item.content)) (packet_of_load item.content.says)
    pub airs : (node : NodeId) (key : EntityKey) (epoch : ℕ) (item : Item (Written Pdu)) → facts.puts_on_air node key item → item.key ≡ key
        → Puts node (radio_link key epoch) (shown item.key item.count (show_pdu item.content)) (packet_of_pdu item.content.says)

  pub local_both : (event : Event) (refused : Bool) (past : List Told) (steps : List (RunStep (Message Token))) (seen : List Told)
      → LocalFrom Says Puts past (map (act_of event refused) steps) → LocalFrom Says Puts (after event refused past steps) seen
      → LocalFrom Says Puts past (map (act_of event refused) steps ++ seen)
  local_both event refused past [] seen p q = q
  local_both event refused past (step ∷ steps) seen p q = (p.0, local_both event refused (act_of event refused step ∷ past) steps seen p.1 q)

  steps_both : (event : Event) (refused : Bool) (past : List Told) (steps more : List (RunStep (Message Token)))
      → LocalFrom Says Puts past (map (act_of event refused) steps) → LocalFrom Says Puts (after event refused past steps) (map (act_of event refused) more)
      → LocalFrom Says Puts past (map (act_of event refused) (steps ++ more))
  steps_both event refused past [] more p q = q
  steps_both event refused past (step ∷ steps) more p q = (p.0, steps_both event refused (act_of event refused step ∷ past) steps more p.1 q)

  abbrev Here : Type 0
  Here = State (Message Token) Token (Written (Load Pdu)) (Written Pdu)

  abbrev Inside : Type 0
  Inside = Within (Message Token) Token (Written (Load Pdu)) (Written Pdu)

  abbrev Happens : Type 0
  Happens = Outcome (Message Token) Token (Written (Load Pdu)) (Written Pdu)

  abbrev Outputs : Type 0
  Outputs = List (Put (Message Token) (Written (Load Pdu)) (Written Pdu))

  module _ (event : Event) (refused : Bool) where
    abbrev pub OutcomeLocal : List Told → Happens → Type 0
    OutcomeLocal past (goes steps t) =
        LocalFrom Says Puts past (map (act_of event refused) steps) × Known (WasAt Says (after event refused past steps)) t.units
    OutcomeLocal past (stops steps why) = LocalFrom Says Puts past (map (act_of event refused) steps)

    -- with the act of these lines
    abbrev With : NodeId → Inside → List Told → List Told
    With node w past = act_of event refused (step_of (Some node) (lines_of w)) ∷ past

    as_local : (past : List Told) (node : NodeId) (w : Inside) (u : Units (Message Token) Token)
        → AllByRecursion (IsLocalLine Says Puts (With node w past) node) (lines_of w) → HasUnits TheWorld u w → Known (WasAt Says (With node w past)) u
        → OutcomeLocal past (as_step (Some node) w)
    as_local past node (goes lines t) u all has p =
        ((all, tt), subst (λ (v : Units (Message Token) Token). Known (WasAt Says (With node (goes lines t) past)) v) (sym has) p)
    as_local past node (stops lines why) u all has p = (all, tt)

    more_known : (past : List Told) (act : Told) (u : Units (Message Token) Token) → Known (WasAt Says past) u → Known (WasAt Says (act ∷ past)) u
    more_known past act u p = known_later (WasAt Says past) (WasAt Says (act ∷ past)) (λ node key x h. inr h) u p

    -- a step whose lines say nothing of packets
    pub quiet : (past : List Told) (actor : Option NodeId) (lines : List Line) (t : Here) → IsLocalBy Says Puts (act_of event refused (step_of actor lines) ∷ past) actor lines
        → Known (WasAt Says past) t.units → OutcomeLocal past (goes (step_of actor lines ∷ []) t)
    quiet past actor lines t all p = ((all, tt), more_known past (act_of event refused (step_of actor lines)) t.units p)

    module _ (facts : Plans → TheFacts) (allowed : Allowed) (kept : AreKeptAlong TheWorld facts allowed) (tells : (plans : Plans) → Tells (facts plans)) where
      -- ---- what is put says its packet, and its packet was there

      other_local : (seen : List Told) (node : NodeId) (line : Line) → IsOther line → IsLocalLine Says Puts seen node line
      other_local seen node (put_item link item) h = absurd h
      other_local seen node (delivers key count x) h = absurd h
      other_local seen node (was_refused reason) h = tt
      other_local seen node line h = tt

      put_local : (plans : Plans) (seen : List Told) (node : NodeId) (taken : Option ℕ) (output : Put (Message Token) (Written (Load Pdu)) (Written Pdu)) → PutFits (facts plans) node taken output
          → PutHas (WasAt Says seen node) output → PutShows TheWorld (IsLocalLine Says Puts seen node) (other_local seen node) taken output
      put_local plans seen node taken (control to ue message) fits h = tt
      put_local plans seen node taken (packet to teid ue bearer dir tag item) fits h =
          let end : TunnelEnd = record { node = to; teid = teid } in
          let stood : Item (Written (Load Pdu)) = record { key = entity ue bearer dir; count = count_beside tag taken; content = item } in
          (packet_of_load item.says, (tells plans).puts node end stood fits, h)
      put_local plans seen node taken (radio ue bearer dir epoch tag pdu) fits h =
          let key : EntityKey = entity ue bearer dir in
          let stood : Item (Written Pdu) = record { key = key; count = count_beside tag taken; content = pdu } in
          (packet_of_pdu pdu.says, (tells plans).airs node key epoch stood fits refl, h)
      put_local plans seen node taken (deliver ue bearer dir count x) fits h = h
      put_local plans seen node taken (dropped reason) fits h = tt
      put_local plans seen node taken (held reason) fits h = tt
      put_local plans seen node taken (opened teid) fits h = tt
      put_local plans seen node taken (closed teid) fits h = tt
      put_local plans seen node taken (failed ue cause) fits h = tt
      put_local plans seen node taken (no reason) fits h = tt

      all_local : (plans : Plans) (seen : List Told) (node : NodeId) (taken : Option ℕ) (outputs : Outputs) → PutsFit (facts plans) node taken outputs
          → AllByRecursion (PutHas (WasAt Says seen node)) outputs
          → AllByRecursion (PutShows TheWorld (IsLocalLine Says Puts seen node) (other_local seen node) taken) outputs
      all_local plans seen node taken [] fits all = tt
      all_local plans seen node taken (output ∷ outputs) fits all = (put_local plans seen node taken output fits.0 all.0, all_local plans seen node taken outputs fits.1 all.1)

      -- ---- what a step takes is in its lines

      if_any : (G : List ℕ → Type 0) (said : Option (List ℕ)) → ((p : List ℕ) → said ≡ Some p → G p) → IfAny G said
      if_any G None each = tt
      if_any G (Some p) each = each p refl

      module _ (past : List Told) (cause : Cause (Message Token) (Written (Load Pdu)) (Written Pdu)) (outputs : Outputs) (u : Units (Message Token) Token) (s : Here) where
        abbrev Step : Inside
        Step = carried_out TheWorld (node_of cause) (count_of cause) (first_of TheWorld cause) outputs u s

      got : (past : List Told) (cause : Cause (Message Token) (Written (Load Pdu)) (Written Pdu)) (outputs : Outputs) (u : Units (Message Token) Token) (s : Here)
          (key : EntityKey) (p : List ℕ) → OneOf (IsGotWith Says key p) (lines_of (first_of TheWorld cause (record s { units = u })))
          → WasAt Says (With (node_of cause) (Step past cause outputs u s) past) (node_of cause) key p
      got past cause outputs u s key p is =
          inl (inr (refl, first_has TheWorld (IsLocalLine Says Puts [] Core) (other_local [] Core) (IsGotWith Says key p) cause outputs (record s { units = u }) is))

      given_there : (past : List Told) (cause : Cause (Message Token) (Written (Load Pdu)) (Written Pdu)) (outputs : Outputs) (u : Units (Message Token) Token) (s : Here)
          → Hold (facts s.plans) s → Stands event s cause → GivenHas (WasAt Says (With (node_of cause) (Step past cause outputs u s) past) (node_of cause)) (given_of cause)
      given_there past (by_order node order) outputs u s h at = tt
      given_there past (by_tick node) outputs u s h at = tt
      given_there past (by_octets from to octets) outputs u s h at = tt
      given_there past (by_octets_on end octets) outputs u s h at = tt
      given_there past (by_attach plan) outputs u s h at = tt
      given_there past (by_release gnb ue) outputs u s h at = tt
      given_there past (by_offer ue bearer p) outputs u s h at = inl (inl (refl, subst (IsOffered (entity ue bearer Ul) p) (sym at.0) (refl, refl)))
      given_there past (by_item end item rest) outputs u s h at =
          if_any _ (packet_of_load item.content.says)
          (λ p is. got past (by_item end item rest) outputs u s item.key p
          (inl (refl, subst (Says (tunnel_link end) (shown item.key item.count (show_item item.content))) is ((tells s.plans).tunnel end item (h.tunnels end (item ∷ rest) at).0))))
      given_there past (by_air key home item) outputs u s h at =
          if_any _ (packet_of_pdu item.content.says)
          (λ p is. got past (by_air key home item) outputs u s item.key p
          (inl (
            refl,
            subst (Says _ (shown item.key item.count (show_pdu item.content))) is
                ((tells s.plans).radio key key _ item (nth_has ((facts s.plans).on_radio key) (radio_of s key).items (radio_of s key).carried item (h.radios key) at.1)),
          )))
      given_there past (by_ack key home item rest) outputs u s h at = tt
      given_there past (by_control_message number l to) outputs u s h at = tt

      -- and it is the unit's own
      air_own : (key : EntityKey) (home : NodeId) (item : Item (Written Pdu)) → item.key ≡ key → item.key.dir ≡ Dl → IsFor (receiver_of key home) item.key.ue
      air_own key home item same down = by key.dir (sym (ap (λ (k : EntityKey). k.dir) same) ∙ down)
        where
          by : (dir : Dir) → dir ≡ Dl → IsFor (receiver_by dir key.ue home) item.key.ue
          by Dl is = ap (λ (k : EntityKey). k.ue) same
          by Ul is = absurd cc

      given_own : (cause : Cause (Message Token) (Written (Load Pdu)) (Written Pdu)) (s : Here) → Settled s → Stands event s cause
          → GivenOwn s.units (node_of cause) (given_of cause)
      given_own (by_order node order) s o at = tt
      given_own (by_tick node) s o at = tt
      given_own (by_octets from to octets) s o at = tt
      given_own (by_octets_on end octets) s o at = tt
      given_own (by_attach plan) s o at = tt
      given_own (by_release gnb ue) s o at = tt
      given_own (by_offer ue bearer p) s o at = refl
      given_own (by_item end item rest) s o at = (settled_own s o end (item ∷ rest) at).0
      given_own (by_air key home item) s o at =
          air_own key home item (nth_has (λ (x : Item (Written Pdu)). x.key ≡ key) (radio_of s key).items (radio_of s key).carried item (settled_radios s o key) at.1)
      given_own (by_ack key home item rest) s o at = tt
      given_own (by_control_message number l to) s o at = tt

      units_known : (K : NodeId → EntityKey → List ℕ → Type 0) (cause : Cause (Message Token) (Written (Load Pdu)) (Written Pdu)) (u : Units (Message Token) Token) → Known K u
          → Known K (units_by TheWorld cause u)
      units_known K (by_attach plan) u p = comes_known K reading u plan p
      units_known K (by_order node order) u p = p
      units_known K (by_tick node) u p = p
      units_known K (by_octets from to octets) u p = p
      units_known K (by_octets_on end octets) u p = p
      units_known K (by_release gnb ue) u p = p
      units_known K (by_offer ue bearer x) u p = p
      units_known K (by_item end item rest) u p = p
      units_known K (by_air key home item) u p = p
      units_known K (by_ack key home item rest) u p = p
      units_known K (by_control_message number l to) u p = p

      act_local : (past : List Told) (cause : Cause (Message Token) (Written (Load Pdu)) (Written Pdu)) (outputs : Outputs) (u : Units (Message Token) Token) (s : Here)
          → Hold (facts s.plans) s → IsAllowed allowed event s.plans → Settled s → Stands event s cause
          → TheWorld.answer (sn_of s) s.units (node_of cause) (given_of cause) ≡ stepped outputs u
          → Known (WasAt Says past) s.units → OutcomeLocal past (as_step (Some (node_of cause)) (Step past cause outputs u s))
      act_local past cause outputs u s h may o at is p =
          let node : NodeId = node_of cause in
          let w : Inside = Step past cause outputs u s in
          let now : List Told = With node w past in
          let plans : Plans = plans_by TheWorld cause s.plans in
          let fit = answered TheWorld facts allowed kept event s outputs u h cause may at is in
          let answer = units_answer (WasAt Says now) reading (sn_of s) s.units u node (given_of cause) outputs
          (more_known past (act_of event refused (step_of (Some node) (lines_of w))) s.units p) (given_there past cause outputs u s h at) (given_own cause s o at) is in
          as_local past node w (units_by TheWorld cause u)
          (step_lines TheWorld (IsLocalLine Says Puts now node) (other_local now node) cause outputs (record s { units = u })
          (all_local plans now node (count_of cause) outputs fit.0.1 answer.1))
          (act_units TheWorld cause outputs u s) (units_known (WasAt Says now) cause u answer.0)

      -- ---- the core

      core_local : (past : List Told) (e : Inside) (outputs : Outputs) (t : Here) → HasUnits TheWorld t.units e → PutsFit (facts t.plans) Core None outputs
          → ((seen : List Told) → AllByRecursion (IsLocalLine Says Puts seen Core) (lines_of e))
          → ((G : EntityKey → List ℕ → Type 0) → AllByRecursion (PutHas G) outputs) → Known (WasAt Says past) t.units
          → OutcomeLocal past (as_step (Some Core) (e next put_out_all TheWorld Core None outputs next check_spans))
      core_local past e outputs t has fits first all p =
          let w : Inside = e next put_out_all TheWorld Core None outputs next check_spans in
          let now : List Told = With Core w past in
          let Q = IsLocalLine Says Puts now Core in
          as_local past Core w t.units
          (then_lines TheWorld Q (other_local now Core) (e next put_out_all TheWorld Core None outputs) check_spans
          (then_lines TheWorld Q (other_local now Core) e (put_out_all TheWorld Core None outputs) (first now)
          (puts_lines TheWorld Q (other_local now Core) Core None outputs (all_local t.plans now Core None outputs fits (all (WasAt Says now Core)))))
          (checked_lines TheWorld Q (other_local now Core)))
          (then_units TheWorld t.units (e next put_out_all TheWorld Core None outputs) check_spans
          (then_units TheWorld t.units e (put_out_all TheWorld Core None outputs) has (keep_put_all TheWorld Core None outputs)) (keep_checked TheWorld))
          (more_known past (act_of event refused (step_of (Some Core) (lines_of w))) t.units p)

      -- ---- an event

      then_local : (past : List Told) (ps : Plans) (e : Happens) (more : Here → Happens) → OutcomeLocal past e → HoldsNow TheWorld facts e → StaysFrom TheWorld ps e
          → OutcomeSettled reading show_item show_pdu e
          → ((seen : List Told) (t : Here) → Hold (facts t.plans) t → PlansStay ps t.plans → Settled t → Known (WasAt Says seen) t.units → OutcomeLocal seen (more t))
          → OutcomeLocal past (e next more)
      then_local past ps (goes steps t) more p h stay o q = by (more t) (q (after event refused past steps) t h stay o p.1)
        where
          by : (e : Happens) → OutcomeLocal (after event refused past steps) e → OutcomeLocal past (told_before steps e)
          by (goes further s) r = (
            steps_both event refused past steps further p.0 r.0,
            subst (λ (seen : List Told). Known (WasAt Says seen) s.units) (sym (after_both event refused past steps further)) r.1,
          )
          by (stops further why) r = steps_both event refused past steps further p.0 r
      then_local past ps (stops steps why) more p h stay o q = p

      pub made_local : (past : List Told) (s : Here) (e : Happens) → IsOutcome TheWorld event s e → Hold (facts s.plans) s → IsAllowed allowed event s.plans → Settled s
          → Known (WasAt Says past) s.units → OutcomeLocal past e
      unfolding control_message
      made_local past s e (stays t) h may o p = (tt, p)
      made_local past s e (ends t why) h may o p = tt
      made_local past s e (then_made t d more a b) h may o p =
          then_local past t.plans d more (made_local past t d a h may o p) (made_along TheWorld facts allowed kept event t d a h may) (made_stays TheWorld event t d a)
          (made_settled reading show_item show_pdu event t d a o)
          (λ seen x k stay l q. made_local seen x (more x) (b x) k (may_later TheWorld facts allowed kept event t.plans x.plans stay may) l q)
      made_local past s e (sets_up t plan is free room teids) h may o p = (tt, placed_known (WasAt Says past) reading t.units plan p)
      made_local past s e (starts t d a) h may o p =
          made_local past (record t { started = true }) d a (same_links TheWorld (facts t.plans) 0 t (record t { started = true }) h refl refl refl refl refl) may
          (settled_started reading show_item show_pdu t o) p
      made_local past s e (acts t cause outputs units at is fine few) h may o p = act_local past cause outputs units t h may o at is p
      made_local past s e (holds_item t end reason) h may o p = quiet past (Some end.node) (held_at (tunnel_link end) reason ∷ []) t (tt, tt) p
      made_local past s e (holds_pdu t key home reason) h may o p = quiet past (Some (receiver_of key home)) (held_at (radio_link key (epoch_of t key.ue)) reason ∷ []) t (tt, tt) p
      made_local past s e (offers t ue bearer x path is found) h may o p =
          let end : TunnelEnd = record { node = path.up; teid = teid_of path.n3 bearer } in
          let item : Item (Written (Load Pdu)) = record { key = entity ue bearer Dl; count = None; content = TheWorld.lay_n3 (teid_of path.n3 bearer) x } in
          let w : Inside = put_on_tunnel TheWorld end item (offered TheWorld (entity ue bearer Dl) t) next check_spans in
          let now : List Told = With Core w past in
          let Q = IsLocalLine Says Puts now Core in
          as_local past Core w t.units
          (then_lines TheWorld Q (other_local now Core) (put_on_tunnel TheWorld end item (offered TheWorld (entity ue bearer Dl) t)) check_spans
          (tunnel_lines TheWorld Q (other_local now Core) end item
          (Some x, (tells t.plans).puts Core end item (kept.lays t.plans t.core ue bearer x path (may.1 ue bearer Dl x is) h.core found), inl (inl (refl, subst (IsOffered (entity ue bearer Dl) x) (sym is) (refl, refl))))
          (offered TheWorld (entity ue bearer Dl) t)) (checked_lines TheWorld Q (other_local now Core)))
          (then_units TheWorld t.units (put_on_tunnel TheWorld end item (offered TheWorld (entity ue bearer Dl) t)) check_spans
          (keep_put_on_tunnel TheWorld end item (offered TheWorld (entity ue bearer Dl) t)) (keep_checked TheWorld))
          (more_known past (act_of event refused (step_of (Some Core) (lines_of w))) t.units p)
      made_local past s e (core_takes t number l outputs core found at is few) h may o p =
          let told = kept.core_answers t.plans t.core core (control_message_for l.from l.message) outputs h.core (
            l.ue,
            subst (λ (n : NodeId). (facts t.plans).control_message (record { from = l.from; to = n; ue = l.ue; message = l.message })) at
                (found_has nat_cmp (facts t.plans).control_message t.bag.control_messages number l h.control_messages found),
          ) is in
          core_local past (landed_as TheWorld number l (record t { core = core })) outputs t refl told.1 (λ seen. (tt, tt))
          (λ G. the_core_answers G reading (sn_of t) t.core core (control_message_for l.from l.message) outputs is) p
      made_local past s e (core_reads t from octets outputs core is) h may o p =
          let told = kept.core_answers t.plans t.core core (octets_from from octets) outputs h.core tt is in
          let w : Inside = put_out_all TheWorld Core None outputs (record t { core = core }) next check_spans in
          let now : List Told = With Core w past in
          let Q = IsLocalLine Says Puts now Core in
          as_local past Core w t.units
          (then_lines TheWorld Q (other_local now Core) (put_out_all TheWorld Core None outputs (record t { core = core })) check_spans
          (puts_lines TheWorld Q (other_local now Core) Core None outputs
          (all_local t.plans now Core None outputs told.1 (the_core_answers (WasAt Says now Core) reading (sn_of t) t.core core (octets_from from octets) outputs is))
          (record t { core = core })) (checked_lines TheWorld Q (other_local now Core)))
          (then_units TheWorld t.units (put_out_all TheWorld Core None outputs (record t { core = core })) check_spans
          (keep_put_all TheWorld Core None outputs (record t { core = core })) (keep_checked TheWorld))
          (more_known past (act_of event refused (step_of (Some Core) (lines_of w))) t.units p)
      made_local past s e (lands t number l to found at) h may o p = quiet past (Some to) (got_message number l ∷ []) (record t { bag = landed t.bag number }) (tt, tt) p
      made_local past s e (loses_control_message t number) h may o p = quiet past None (lost_message number ∷ []) (record t { bag = landed t.bag number }) tt p
      made_local past s e (loses_item t end item rest found) h may o p =
          quiet past None (lost_items (tunnel_link end) 1 ∷ []) (record t { tunnels = put tunnel_cmp t.tunnels end rest }) tt p
      made_local past s e (remarks t lines plain) h may o p = quiet past None lines t tt p
