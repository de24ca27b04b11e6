-- In every run the frames of a tunnel are numbered.
use Rattle.std.proofs.Common.{◌≡◌, ℕ, Bool, true, false, cond, ◌&&◌, inl, inr, ◌||◌, List, [], ◌∷◌, ◌++◌, map, Option, Some, None, refl, sym, ap, subst}
use Rattle.std.specs.Prelude.{unwrap_or}
use Rattle.std.specs.List.{AllByRecursion}
use Rattle.std.specs.Map.{lookup}
use Rattle.std.specs.Ordering.{nat_cmp}
use Rattle.std.specs.Cmp.{Equal-is}
use Rattle.std.specs.BTreeMap.{is_at}
use Rattle.std.proofs.lemmas.Bool.{and_parts, or_parts}
use Rattle.std.proofs.lemmas.Grind.{flat_map-append}
use Rattle.std.proofs.lemmas.List.{append-nil}
use Rattle.gnb_types.specs.declared.names.Gnb.{Gnb}
use Rattle.gnb_types.specs.declared.names.Gnb.TheVariants.{A, B}
use Rattle.gnb_types.specs.declared.names.NodeId.{NodeId}
use Rattle.gnb_types.specs.declared.names.NodeId.TheVariants.{CuCp, CuUp as up_id, Du as du_id, Core, Ue}
use Rattle.gnb_types.specs.declared.keys.TunnelEnd.{TunnelEnd}
use Rattle.gnb_types.specs.declared.plans.Plan.{Plan}
use Rattle.gnb_types.specs.Orders.{node_cmp}
use Rattle.gnb_types.proofs.OrderLemmas.{node_exact}
use Rattle.tables.specs.Tables.{find, at}
use Rattle.message_types.specs.declared.rrc.Token.{Token}
use Rattle.scenario_text.specs.declared.event.Event.{Event}
use Rattle.unit_defs.specs.Ways.{Message, Pdu, Load, Put, Output}
use Rattle.unit_defs.specs.CuUp.{new_cu_up}
use Rattle.unit_defs.specs.Static.{cu_up_has_room, cu_up_has_teids, du_has_teids}
use Rattle.transport_defs.specs.Links.{control_message, landed}
use Rattle.run_defs.specs.Lines.{RunLine, got_message, held_at, tunnel_link, radio_link}
use Rattle.run_defs.specs.Units.{new_units, cu_up_of, du_of}
use Rattle.run_defs.specs.Written.{Written, written_put, written_step}
use Rattle.run_defs.specs.States.{State, new_state, stepped, goes, stops, told_before, ◌next◌, Within, Outcome, RunStep, as_step, sn_of, was_attached}
use Rattle.run_defs.specs.Steps.{check_spans, put_out_all, carried_out}
use Rattle.run_defs.specs.Conditions.{is_held_by_units, units_placed, all_set_up, statically, n3_from, epoch_of, receiver_of}
use Rattle.run_defs.specs.Events.{landed_as}
use Rattle.run_defs.specs.Runs.{Reading, Happened, plain_world, plain_by, input_of, happens, run_on, run_from, run, Run}
use Rattle.proof_run_steps.specs.steps.Causes.{Cause, by_order, by_tick, by_octets, by_octets_on, by_attach, by_release, by_offer, by_item, by_air, by_ack, by_control_message, node_of, given_of, count_of, first_of, Stands}
use Rattle.proof_run_steps.specs.steps.IsOutcome.{IsOutcome, stays, ends, then_made, sets_up, starts, acts, holds_item, holds_pdu, offers, core_takes, core_reads, lands, loses_control_message, loses_item, remarks}
use Rattle.proof_run_steps.proofs.steps.Runs.{made_of_steps}
use Rattle.proof_run_steps.proofs.steps.Frames.{HasUnits, then_units, keep_checked, keep_put_on_tunnel, keep_put_all, units_by, act_units}
use Rattle.law_tunnels_are_owned.specs.owner_facts.Owned.{AreOwned}
use Rattle.law_tunnels_are_owned.proofs.tunnel_owners.Placed.{placed_owned, first_owned}
use Rattle.proof_unit_steps.specs.tunnel_frames.OneTunnel.{CuUpCounts}
use Rattle.proof_run_steps.specs.control.Control.{control_of}
use Rattle.proof_run_steps.proofs.control.Runs.{made_holds}
use Rattle.proof_unit_steps.specs.downlink_names.Places.{DownlinkTeid, Story, SwitchIs}
use Rattle.proof_unit_steps.specs.downlink_grants.Grants.{IsLeft}
use Rattle.law_frames_are_numbered.proofs.run_switches.Steps.{PlainControlMessage, ControlMessageIs}
use Rattle.law_frames_are_numbered.proofs.run_switches.Runs.{IsGood, all_kept, good_placed, good_from_here, unnamed, first_good}
use Rattle.law_frames_are_numbered.specs.tunnel_numbers.Tunnels.{AreNumbered, put_on, puts_by, puts_in, put_there}
use Rattle.law_frames_are_numbered.proofs.tunnel_numbers.Lines.{numbered_then, Tells, act_tells}
use Rattle.law_frames_are_numbered.proofs.number_facts.Units.{Records, Phase, seen_at, Ups}
use Rattle.law_frames_are_numbered.proofs.number_facts.Links.{Keeps, Linked, linked_kept, linked_goes, linked_away, IsEnd, end_of, choose}
use Rattle.law_frames_are_numbered.proofs.number_facts.Acts.{CountBy, InputIs, TakenBy, AnsweredWell, answered_well}
use Rattle.law_frames_are_numbered.proofs.number_facts.Placed.{keeps_placed, PlacedUps, places}

-- what holds of all letters holds of one that is found
found_control_message : (Q : PlainControlMessage → Type 0) (es : List (ℕ × PlainControlMessage)) (number : ℕ) (l : PlainControlMessage) → AllByRecursion Q (map (λ e. e.1) es)
    → find nat_cmp es number ≡ Some l → Q l
unfolding find
found_control_message Q [] number l all is = absurd cc
found_control_message Q (e ∷ es) number l all is = by (found_control_message Q es number l all.1) (is_at (nat_cmp number) e.0) is
  where
    by : (find nat_cmp es number ≡ Some l → Q l) → (b : Bool) → cond b (Some e.1) (lookup (is_at (nat_cmp number)) es) ≡ Some l → Q l
    by later true h = let same : e.1 ≡ l = cc in subst Q same all.0
    by later false h = later h

module _ (end : TunnelEnd) (t : DownlinkTeid) (same : IsEnd end t) (reading : Reading) where
  abbrev PlainState : Type 0
  PlainState = State (Message Token) Token (Written (Load Pdu)) (Written Pdu)

  abbrev PlainOutcome : Type 0
  PlainOutcome = Outcome (Message Token) Token (Written (Load Pdu)) (Written Pdu)

  abbrev PlainWithin : Type 0
  PlainWithin = Within (Message Token) Token (Written (Load Pdu)) (Written Pdu)

  abbrev PlainCause : Type 0
  PlainCause = Cause (Message Token) (Written (Load Pdu)) (Written Pdu)

  -- so many frames were put on the tunnel, by the CU-UP of the one bearer that was switched there, if any was
  record IsCounted (k : ℕ) (s : State (Message Token) Token (Written (Load Pdu)) (Written Pdu)) : Type 0 where
    phase : Phase
    story : Story
    owned : AreOwned s.units
    ups : Ups end phase k s.units
    linked : Linked story phase s.units
    good : IsGood t reading story (control_of s)

  abbrev GoodAfter : Story → Outcome (Message Token) Token (Written (Load Pdu)) (Written Pdu) → Type 0
  GoodAfter story (goes steps s) = IsGood t reading story (control_of s)
  GoodAfter story (stops steps why) = Unit {0}

  good_after : (story : Story) (event : Event) (s : PlainState) (e : PlainOutcome) → IsOutcome (plain_world reading) event s e → IsGood t reading story (control_of s)
      → GoodAfter story e
  good_after story event s (goes steps x) made h =
      made_holds (plain_world reading) (IsGood t reading story) (all_kept t reading story) event s (goes steps x) made h
  good_after story event s (stops steps why) made h = tt

  abbrev Numbers : ℕ → Outcome (Message Token) Token (Written (Load Pdu)) (Written Pdu) → Type 0
  Numbers k (goes steps s) = (j : ℕ) × AreNumbered end.teid k (puts_in end steps) j × IsCounted j s
  Numbers k (stops steps why) = (j : ℕ) × AreNumbered end.teid k (puts_in end steps) j

  puts_both : (k j i : ℕ) (xs ys : List (RunStep (Message Token))) → AreNumbered end.teid k (puts_in end xs) j → AreNumbered end.teid j (puts_in end ys) i
      → AreNumbered end.teid k (puts_in end (xs ++ ys)) i
  puts_both k j i xs ys p q =
      subst (λ (os : List (List ℕ)). AreNumbered end.teid k os i) (sym (flat_map-append (λ (step : RunStep (Message Token)). puts_by end step.actor step.lines) xs ys))
      (numbered_then end.teid k (puts_in end xs) j (puts_in end ys) i p q)

  then_numbers : (k : ℕ) (e : PlainOutcome) (more : PlainState → PlainOutcome) → Numbers k e → ((j : ℕ) (s : PlainState) → IsCounted j s → Numbers j (more s))
      → Numbers k (e next more)
  then_numbers k (goes steps s) more p rest = by (more s) (rest p.0 s p.2)
    where
      by : (e : PlainOutcome) → Numbers p.0 e → Numbers k (told_before steps e)
      by (goes further x) h = (h.0, puts_both k p.0 h.0 steps further p.1 h.1, h.2)
      by (stops further why) h = (h.0, puts_both k p.0 h.0 steps further p.1 h.1)
  then_numbers k (stops steps why) more p rest = p

  -- ---- a step

  abbrev TellsBy : Option NodeId → ℕ → ℕ → Within (Message Token) Token (Written (Load Pdu)) (Written Pdu) → Type 0
  TellsBy actor k j (goes lines s) = AreNumbered end.teid k (puts_by end actor lines) j
  TellsBy actor k j (stops lines why) = (i : ℕ) × AreNumbered end.teid k (puts_by end actor lines) i

  tells_none : (actor : Option NodeId) (k : ℕ) (w : PlainWithin) → ((lines : List (RunLine (Message Token))) → puts_by end actor lines ≡ []) → TellsBy actor k k w
  tells_none actor k (goes lines s) none = subst (λ (os : List (List ℕ)). AreNumbered end.teid k os k) (sym (none lines)) refl
  tells_none actor k (stops lines why) none = (k, subst (λ (os : List (List ℕ)). AreNumbered end.teid k os k) (sym (none lines)) refl)

  tells_up : (g : Gnb) (n k j : ℕ) (w : PlainWithin) → Tells end k j w → TellsBy (Some (up_id g n)) k j w
  tells_up g n k j (goes lines s) h = h
  tells_up g n k j (stops lines why) h = h

  step_numbers : (actor : Option NodeId) (story : Story) (q : Phase) (k j : ℕ) (u : Records) (w : PlainWithin) → TellsBy actor k j w
      → HasUnits (plain_world reading) u w → AreOwned u → Ups end q j u → Linked story q u → GoodAfter story (as_step actor w) → Numbers k (as_step actor w)
  step_numbers actor story q k j u (goes lines s) tells has owned ups linked good = (
    j,
    subst (λ (os : List (List ℕ)). AreNumbered end.teid k os j) (sym (append-nil (puts_by end actor lines))) tells,
    record {
      phase = q;
      story = story;
      owned = subst AreOwned (sym has) owned;
      ups = subst (Ups end q j) (sym has) ups;
      linked = subst (Linked story q) (sym has) linked;
      good = good;
    },
  )
  step_numbers actor story q k j u (stops lines why) tells has owned ups linked good =
      (tells.0, subst (λ (os : List (List ℕ)). AreNumbered end.teid k os tells.0) (sym (append-nil (puts_by end actor lines))) tells.1)

  -- a step that changes no unit, and puts nothing there
  other_step : (k : ℕ) (s : PlainState) (actor : Option NodeId) (w : PlainWithin) → IsCounted k s
      → ((lines : List (RunLine (Message Token))) → puts_by end actor lines ≡ []) → HasUnits (plain_world reading) s.units w
      → ((story : Story) → IsGood t reading story (control_of s) → GoodAfter story (as_step actor w)) → Numbers k (as_step actor w)
  other_step k s actor w c none has good =
      step_numbers actor c.story c.phase k k s.units w (tells_none actor k w none) has c.owned c.ups c.linked (good c.story c.good)

  -- a step whose only line puts nothing there
  idle_step : (k : ℕ) (s : PlainState) (actor : Option NodeId) (line : RunLine (Message Token)) → IsCounted k s → puts_by end actor (line ∷ []) ≡ []
      → Numbers k (as_step actor (goes (line ∷ []) s))
  idle_step k s actor line c none =
      step_numbers actor c.story c.phase k k s.units (goes (line ∷ []) s)
      (subst (λ (os : List (List ℕ)). AreNumbered end.teid k os k) (sym none) refl) refl c.owned c.ups c.linked c.good

  module _ (k : ℕ) (s : State (Message Token) Token (Written (Load Pdu)) (Written Pdu)) (c : IsCounted k s) where
    linked_now : Linked c.good.story c.phase s.units
    linked_now = linked_goes c.story c.good.story c.phase s.units c.good.goes c.linked

    good_now : IsGood t reading c.good.story (control_of s)
    good_now = good_from_here t reading c.story (control_of s) c.good

    -- ---- a unit acts

    abbrev ChosenFor : Cause (Message Token) (Written (Load Pdu)) (Written Pdu) → NodeId → Type 0
    ChosenFor cause node =
        (r : Phase) × Ups end r k s.units × InputIs end r k s.units (input_of reading (given_of cause)) node
        × ((v : Records) → Keeps s.units v → TakenBy end node (input_of reading (given_of cause)) v → Linked c.good.story r v)

    as_it_is : (cause : PlainCause) (node : NodeId) → InputIs end c.phase k s.units (input_of reading (given_of cause)) node → ChosenFor cause node
    as_it_is cause node is = (c.phase, c.ups, is, λ v keep taken. linked_kept c.good.story c.phase s.units v keep linked_now)

    not_moved : (cause : PlainCause) → InputIs end c.phase k s.units (input_of reading (given_of cause)) (node_of cause) → ChosenFor cause (node_of cause)
    not_moved cause is = as_it_is cause (node_of cause) is

    chosen_for : (event : Event) (cause : PlainCause) → Stands event s cause → ChosenFor cause (node_of cause)
    unfolding control_message
    chosen_for event (by_control_message number l to) at = by to at.1
      where
        by : (node : NodeId) → l.to ≡ node → ChosenFor (by_control_message number l to) node
        by (up_id g n) is =
            choose end t same c.good.story c.phase k s.units g n l.from l.message c.ups linked_now
            (λ own. subst (λ (node : NodeId). SwitchIs t c.good.story.place node l.message) is
            ((found_control_message (ControlMessageIs t c.good.story) s.bag.control_messages number l c.good.has.control_messages at.0).0 own))
        by (CuCp g) is = as_it_is (by_control_message number l to) (CuCp g) tt
        by (du_id g n) is = as_it_is (by_control_message number l to) (du_id g n) tt
        by (Ue ue) is = as_it_is (by_control_message number l to) (Ue ue) tt
        by Core is = as_it_is (by_control_message number l to) Core tt
    chosen_for event (by_order node order) at = not_moved (by_order node order) tt
    chosen_for event (by_tick node) at = not_moved (by_tick node) tt
    chosen_for event (by_octets from to octets) at = not_moved (by_octets from to octets) tt
    chosen_for event (by_octets_on on octets) at = not_moved (by_octets_on on octets) tt
    chosen_for event (by_attach plan) at = not_moved (by_attach plan) tt
    chosen_for event (by_release g ue) at = not_moved (by_release g ue) tt
    chosen_for event (by_offer ue bearer x) at = not_moved (by_offer ue bearer x) tt
    chosen_for event (by_item on item rest) at = not_moved (by_item on item rest) tt
    chosen_for event (by_air key home item) at = not_moved (by_air key home item) tt
    chosen_for event (by_ack key home item rest) at = not_moved (by_ack key home item rest) tt

    owned_by : (cause : PlainCause) (v : Records) → AreOwned v → AreOwned (units_by (plain_world reading) cause v)
    owned_by (by_attach plan) v p = p
    owned_by cause v p = p

    ups_by : (q : Phase) (j : ℕ) (cause : PlainCause) (v : Records) → Ups end q j v → Ups end q j (units_by (plain_world reading) cause v)
    ups_by q j (by_attach plan) v p = p
    ups_by q j cause v p = p

    keeps_by : (cause : PlainCause) (v : Records) → Keeps v (units_by (plain_world reading) cause v)
    keeps_by (by_attach plan) v g n ch i was = was
    keeps_by cause v g n ch i was = was

    module _ (event : Event) (cause : PlainCause) (outputs : List (Put (Message Token) (Written (Load Pdu)) (Written Pdu))) (v : Records) where
      tell_step : (node : NodeId) (j : ℕ) (os : List (Output (Message Token) Pdu)) → outputs ≡ map (written_put (sn_of s)) os → CountBy end node k os j
          → TellsBy (Some node) k j
          (carried_out (plain_world reading) (node_of cause) (count_of cause) (first_of (plain_world reading) cause) outputs v s)
      tell_step (up_id g n) j os is count =
          tells_up g n k j (carried_out (plain_world reading) (node_of cause) (count_of cause) (first_of (plain_world reading) cause) outputs v s)
          (subst (λ (puts : List (Put (Message Token) (Written (Load Pdu)) (Written Pdu))). Tells end k j
          (carried_out (plain_world reading) (node_of cause) (count_of cause) (first_of (plain_world reading) cause) puts v s)) (sym is)
          (act_tells end reading (sn_of s) cause os v k j s count))
      tell_step (CuCp g) j os is count =
          subst (λ (i : ℕ). TellsBy (Some (CuCp g)) k i
          (carried_out (plain_world reading) (node_of cause) (count_of cause) (first_of (plain_world reading) cause) outputs v s)) (sym count)
          (tells_none (Some (CuCp g)) k _ (λ lines. refl))
      tell_step (du_id g n) j os is count =
          subst (λ (i : ℕ). TellsBy (Some (du_id g n)) k i
          (carried_out (plain_world reading) (node_of cause) (count_of cause) (first_of (plain_world reading) cause) outputs v s)) (sym count)
          (tells_none (Some (du_id g n)) k _ (λ lines. refl))
      tell_step (Ue ue) j os is count =
          subst (λ (i : ℕ). TellsBy (Some (Ue ue)) k i
          (carried_out (plain_world reading) (node_of cause) (count_of cause) (first_of (plain_world reading) cause) outputs v s)) (sym count)
          (tells_none (Some (Ue ue)) k _ (λ lines. refl))
      tell_step Core j os is count =
          subst (λ (i : ℕ). TellsBy (Some Core) k i
          (carried_out (plain_world reading) (node_of cause) (count_of cause) (first_of (plain_world reading) cause) outputs v s)) (sym count)
          (tells_none (Some Core) k _ (λ lines. refl))

      act_numbers : Stands event s cause
          → written_step (sn_of s) (plain_by reading s.units (node_of cause) (given_of cause) (input_of reading (given_of cause))) ≡ stepped outputs v
          → GoodAfter c.good.story (as_step (Some (node_of cause))
          (carried_out (plain_world reading) (node_of cause) (count_of cause) (first_of (plain_world reading) cause) outputs v s))
          → Numbers k (as_step (Some (node_of cause))
          (carried_out (plain_world reading) (node_of cause) (count_of cause) (first_of (plain_world reading) cause) outputs v s))
      act_numbers at is good =
          let r = chosen_for event cause at in
          let a = subst (AnsweredWell end reading r.0 k s.units c.owned r.1 (sn_of s) (node_of cause) (input_of reading (given_of cause))) is
          (answered_well end reading r.0 k s.units c.owned r.1 (sn_of s) (node_of cause) (given_of cause) r.2) in
          step_numbers (Some (node_of cause)) c.good.story r.0 k a.3.0 (units_by (plain_world reading) cause v)
          (carried_out (plain_world reading) (node_of cause) (count_of cause) (first_of (plain_world reading) cause) outputs v s)
          (tell_step (node_of cause) a.3.0 a.0 a.1 a.3.1) (act_units (plain_world reading) cause outputs v s)
          (owned_by cause v a.2) (ups_by r.0 a.3.0 cause v a.3.2)
          (linked_kept c.good.story r.0 v (units_by (plain_world reading) cause v) (keeps_by cause v) (r.3 v a.4.0 a.4.1)) good

    -- ---- a terminal is set up without messages

    placed_counted : (plan : Plan) → was_attached s plan.ue || is_held_by_units plan s.units ≡ false
        → cu_up_has_room (cu_up_of s.units plan.gnb plan.up) plan ≡ true
        → cu_up_has_teids (cu_up_of s.units plan.gnb plan.up) plan && du_has_teids (du_of s.units plan.gnb plan.du) plan ≡ true → IsCounted k (statically plan s)
    placed_counted plan is_free room teids =
        by (places end t same c.phase k s.units plan (and_parts (cu_up_has_teids (cu_up_of s.units plan.gnb plan.up) plan) (du_has_teids (du_of s.units plan.gnb plan.du) plan) teids).1 c.ups)
      where
        owned : AreOwned (all_set_up (units_placed plan s.units))
        owned = placed_owned s.units plan (or_parts (was_attached s plan.ue) (is_held_by_units plan s.units) is_free).1 teids c.owned

        by : PlacedUps end t same c.phase k s.units plan → IsCounted k (statically plan s)
        by (inl ups) =
            let p = good_placed t reading c.good.story (control_of s) plan (n3_from 1 (cu_up_of s.units plan.gnb plan.up).next_teid plan.bearers) room teids good_now in
            record {
              phase = c.phase;
              story = c.good.story;
              owned = owned;
              ups = ups;
              linked = linked_kept c.good.story c.phase s.units (all_set_up (units_placed plan s.units)) (keeps_placed s.units plan) linked_now;
              good = p.0;
            }
        by (inr h) =
            let p = good_placed t reading c.good.story (control_of s) plan (n3_from 1 (cu_up_of s.units plan.gnb plan.up).next_teid plan.bearers) room teids good_now in
            let off = (c.good.has.du.left (subst (λ (x : Gnb × ℕ). IsLeft (du_of s.units x.0 x.1).next_teid t.teid) h.0.0 h.0.1.0)).1 in
            let none : c.phase ≡ None = linked_away c.good.story c.phase s.units off linked_now in
            record {
              phase = Some (up_id plan.gnb plan.up, (plan.ue, h.1.0));
              story = p.0.story;
              owned = owned;
              ups = h.1.1 (subst (λ (q : Phase). Ups end q k s.units) none c.ups);
              linked = inl (p.1 h.0);
              good = good_from_here t reading c.good.story (control_of (statically plan s)) p.0;
            }

  -- ---- each event, and a run

  nothing : (lines : List (RunLine (Message Token))) → puts_by end (Some Core) lines ≡ []
  nothing lines = refl

  idle_line : (node : NodeId) (line : RunLine (Message Token)) → put_on end line ≡ [] → puts_by end (Some node) (line ∷ []) ≡ []
  idle_line (up_id g n) line none = ap (λ (os : List (List ℕ)). os ++ []) none
  idle_line (CuCp g) line none = refl
  idle_line (du_id g n) line none = refl
  idle_line (Ue ue) line none = refl
  idle_line Core line none = refl

  made_numbers : (event : Event) (s : PlainState) (e : PlainOutcome) → IsOutcome (plain_world reading) event s e → (k : ℕ) → IsCounted k s → Numbers k e
  unfolding landed
  made_numbers event s e (stays x) k c = (k, refl, c)
  made_numbers event s e (ends x why) k c = (k, refl)
  made_numbers event s e (then_made x d more p r) k c = then_numbers k d more (made_numbers event x d p k c) (λ j y h. made_numbers event y (more y) (r y) j h)
  made_numbers event s e (sets_up x plan is is_free room teids) k c = (k, refl, placed_counted k x c plan is_free room teids)
  made_numbers event s e (starts x d p) k c =
      made_numbers event (record x { started = true }) d p k
      (record { phase = c.phase; story = c.story; owned = c.owned; ups = c.ups; linked = c.linked; good = c.good })
  made_numbers event s e (acts x cause outputs units at is fine few) k c =
      act_numbers k x c event cause outputs units at is
      (good_after c.good.story event x _ (acts x cause outputs units at is fine few) (good_now k x c))
  made_numbers event s e (holds_item x on reason) k c = idle_step k x (Some on.node) (held_at (tunnel_link on) reason) c (idle_line on.node (held_at (tunnel_link on) reason) refl)
  made_numbers event s e (holds_pdu x key home reason) k c =
      idle_step k x (Some (receiver_of key home)) (held_at (radio_link key (epoch_of x key.ue)) reason) c (idle_line (receiver_of key home) (held_at (radio_link key (epoch_of x key.ue)) reason) refl)
  made_numbers event s e (offers x ue bearer p path is found) k c =
      other_step k x (Some Core) _ c nothing
      (then_units (plain_world reading) x.units _ check_spans (keep_put_on_tunnel (plain_world reading) _ _ _) (keep_checked (plain_world reading)))
      (λ story h. good_after story event x _ (offers x ue bearer p path is found) h)
  made_numbers event s e (core_takes x number l outputs core found at is few) k c =
      other_step k x (Some Core) _ c nothing
      (then_units (plain_world reading) x.units
      (landed_as (plain_world reading) number l (record x { core = core }) next put_out_all (plain_world reading) Core None outputs) check_spans
      (then_units (plain_world reading) x.units (landed_as (plain_world reading) number l (record x { core = core }))
      (put_out_all (plain_world reading) Core None outputs) refl (keep_put_all (plain_world reading) Core None outputs)) (keep_checked (plain_world reading)))
      (λ story h. good_after story event x _ (core_takes x number l outputs core found at is few) h)
  made_numbers event s e (core_reads x from octets outputs core is) k c =
      other_step k x (Some Core) _ c nothing
      (then_units (plain_world reading) x.units _ check_spans (keep_put_all (plain_world reading) Core None outputs _) (keep_checked (plain_world reading)))
      (λ story h. good_after story event x _ (core_reads x from octets outputs core is) h)
  made_numbers event s e (lands x number l to found at) k c =
      idle_step k (record x { bag = landed x.bag number }) (Some to) (got_message number l)
      (record { phase = c.phase; story = c.story; owned = c.owned; ups = c.ups; linked = c.linked; good = c.good }) (idle_line to (got_message number l) refl)
  made_numbers event s e (loses_control_message x number) k c =
      (k, refl, record { phase = c.phase; story = c.story; owned = c.owned; ups = c.ups; linked = c.linked; good = c.good })
  made_numbers event s e (loses_item x on item rest found) k c =
      (k, refl, record { phase = c.phase; story = c.story; owned = c.owned; ups = c.ups; linked = c.linked; good = c.good })
  made_numbers event s e (remarks x lines plain) k c = (k, refl, c)

  Numbered : ℕ → List (Happened (Message Token)) → Type 0
  Numbered k happened = (j : ℕ) × AreNumbered end.teid k (put_there end happened) j

  run_numbers : (list : List Event) (k : ℕ) (s : PlainState) → IsCounted k s → Numbered k (run_from (plain_world reading) list s).events
  unfolding run_from Numbered
  run_numbers [] k s c = (k, refl)
  run_numbers (event ∷ list) k s c =
      by (happens (plain_world reading) event s)
      (made_numbers event s (happens (plain_world reading) event s) (made_of_steps (plain_world reading) event s) k c) (run_numbers list)
    where
      by : (e : PlainOutcome) → Numbers k e → ((j : ℕ) (x : PlainState) → IsCounted j x → Numbered j (run_from (plain_world reading) list x).events)
          → Numbered k (run_on (plain_world reading) event (run_from (plain_world reading) list) e).events
      by (goes steps after) p more =
          let b = more p.0 after p.2 in
          (b.0, numbered_then end.teid k (puts_in end steps) p.0 (put_there end (run_from (plain_world reading) list after).events) b.0 p.1 b.1)
      by (stops steps why) p more =
          (p.0, subst (λ (os : List (List ℕ)). AreNumbered end.teid k os p.0) (sym (append-nil (puts_in end steps))) p.1)

  -- ---- the first state

  new_counts : (g h : Gnb) (n m : ℕ) → h ≡ g → CuUpCounts (seen_at end None g n) 0 (new_cu_up {M = Message Token} {C = Token} h m)
  unfolding find
  new_counts g h n m is = (is, λ ue c b x at found. absurd cc)

  first_ups : (g : Gnb) (n : ℕ) → CuUpCounts (seen_at end None g n) 0 (cu_up_of (new_units {M = Message Token} {C = Token}) g n)
  unfolding at find
  first_ups g n =
      by (is_at (node_cmp (up_id g n)) (up_id A 1)) (is_at (node_cmp (up_id g n)) (up_id A 2)) (is_at (node_cmp (up_id g n)) (up_id B 1))
      (is_at (node_cmp (up_id g n)) (up_id B 2)) (reached A 1) (reached A 2) (reached B 1) (reached B 2)
    where
      reached : (h : Gnb) (m : ℕ) → is_at (node_cmp (up_id g n)) (up_id h m) ≡ true → h ≡ g
      reached h m tie =
          let both : up_id g n ≡ up_id h m = node_exact (up_id g n) (up_id h m) ((Equal-is (node_cmp (up_id g n) (up_id h m))).0 tie) in
          let gnbs : h ≡ g = cc in gnbs

      by : (a b c d : Bool) → (a ≡ true → A ≡ g) → (b ≡ true → A ≡ g) → (c ≡ true → B ≡ g) → (d ≡ true → B ≡ g)
          → CuUpCounts (seen_at end None g n) 0 (unwrap_or (cond a (Some (new_cu_up {M = Message Token} {C = Token} A 1)) (cond b (Some (new_cu_up A 2)) (cond c (Some (new_cu_up B 1))
          (cond d (Some (new_cu_up B 2)) None)))) (new_cu_up g n))
      by true b c d p q r t = new_counts g A n 1 (p refl)
      by false true c d p q r t = new_counts g A n 2 (q refl)
      by false false true d p q r t = new_counts g B n 1 (r refl)
      by false false false true p q r t = new_counts g B n 2 (t refl)
      by false false false false p q r t = new_counts g g n n refl

  pub run_is_counted : (list : List Event) → (last : ℕ) × AreNumbered end.teid 0 (put_there end (Run reading list).events) last
  unfolding Run run Numbered
  run_is_counted list =
      run_numbers list 0 new_state
      (record { phase = None; story = unnamed; owned = first_owned (Message Token) Token; ups = (refl, first_ups); linked = tt; good = first_good t reading })

pub run_is_numbered : (reading : Reading) (list : List Event) (end : TunnelEnd) → (last : ℕ) × AreNumbered end.teid 0 (put_there end (Run reading list).events) last
run_is_numbered reading list end = let t = end_of end in run_is_counted end t.0 t.1 reading list
