-- In every run of such a script each bearer delivers in order.
use Rattle.std.proofs.Common.{◌≡◌, ℕ, zero, suc, ◌+◌, Bool, true, false, List, [], ◌∷◌, ◌++◌, length, Some, None, refl, sym, ap, ◌∙◌, subst, arith, append_assoc, length-append}
use Rattle.std.specs.Prelude.{if◌then◌else◌}
use Rattle.std.specs.List.{range_with_len, AllByRecursion}
use Rattle.std.proofs.lemmas.List.{append-nil}
use Rattle.std.proofs.lemmas.Grind.{flat_map-append}
use Rattle.gnb_types.specs.declared.names.UeId.{UeId}
use Rattle.gnb_types.specs.declared.names.BearerId.{BearerId}
use Rattle.gnb_types.specs.declared.reasons.RefuseReason.TheVariants.{NoBearer}
use Rattle.gnb_types.specs.declared.names.Dir.TheVariants.{Dl, Ul}
use Rattle.message_types.specs.declared.rrc.Token.{Token}
use Rattle.scenario_text.specs.declared.event.Event.{Event}
use Rattle.scenario_text.specs.declared.event.Event.TheVariants as events
use Rattle.unit_defs.specs.Ways.{Message, Pdu, Load}
use Rattle.run_defs.specs.Lines.{is_quiet, is_busy, was_refused}
use Rattle.run_defs.specs.Written.{Written}
use Rattle.run_defs.specs.States.{new_state, goes, stops, prints, refused, entity, has_bearer, book_of}
use Rattle.run_defs.specs.Conditions.{rests, ask_line}
use Rattle.run_defs.specs.Events.{ask}
use Rattle.run_defs.specs.Said.{lines_in, packets_of, counts_of, all_lines, Offered, Delivered, Counts}
use Rattle.run_defs.specs.Runs.{Reading, Happened, plain_world, happens, run_on, run_from, run, Run}
use Rattle.proof_run_steps.specs.steps.Reached.{reached_by, reached}
use Rattle.law_tunnels_are_owned.specs.open_tunnels.Open.{StandWhereOpen}
use Rattle.law_tunnels_are_owned.proofs.open_tunnels.Runs.{stand_where_open, first_stands}
use Rattle.law_tunnels_are_owned.specs.owner_facts.Owned.{AreOwned}
use Rattle.law_tunnels_are_owned.proofs.tunnel_owners.Placed.{first_owned}
use Rattle.law_tunnels_are_owned.proofs.tunnel_owners.Runs.{owned_later}
use Rattle.law_tunnels_are_owned.specs.link_items.Items.{ItemsShow}
use Rattle.law_tunnels_are_owned.proofs.link_items.Links.{items_in_run}
use Rattle.law_downlink_scripts.specs.downlink_only_runs.Scripts.{IsDownlinkOnly, DeliversInOrder}
use Rattle.law_downlink_scripts.proofs.downlink_only_facts.Views.{PlainState, AllStand}
use Rattle.law_downlink_scripts.proofs.downlink_only_facts.Moves.{PlainStep, PlainOutcome, packets_in, counts_in, Moves, offered_here, Fares}
use Rattle.law_downlink_scripts.proofs.downlink_only_facts.Does as steps
use Rattle.law_downlink_scripts.proofs.downlink_only_runs.First.{at_first}
use Rattle.law_downlink_scripts.proofs.downlink_only_events.Offers.{offer_fares}
use Rattle.law_downlink_scripts.proofs.downlink_only_events.Gets.{get_fares}
use Rattle.law_downlink_scripts.proofs.downlink_only_events.Airs.{air_fares, air_up_fares}
use Rattle.law_downlink_scripts.proofs.downlink_only_events.Acks.{ack_fares, ack_up_fares}
use Rattle.law_downlink_scripts.proofs.downlink_only_runs.Statics.{static_fares}

-- ---- the states of the run

pub reached_more : (reading : Reading) (past : List Event) (event : Event) (s t u : PlainState) → reached (plain_world reading) past s ≡ Some t
    → reached_by (plain_world reading) (λ x. Some x) (happens (plain_world reading) event t) ≡ Some u
    → reached (plain_world reading) (past ++ event ∷ []) s ≡ Some u
reached_more reading [] event s t u is next =
    let same : s ≡ t = one s t is in subst (λ (x : PlainState). reached_by (plain_world reading) (λ y. Some y) (happens (plain_world reading) event x) ≡ Some u) (sym same) next
  where
    one : (x y : PlainState) → Some x ≡ Some y → x ≡ y
    one x y e = cc
reached_more reading (first ∷ past) event s t u is next =
    by (happens (plain_world reading) first s) (λ x there. reached_more reading past event x t u there next) is
  where
    by : (e : PlainOutcome) → ((x : PlainState) → reached (plain_world reading) past x ≡ Some t → reached (plain_world reading) (past ++ event ∷ []) x ≡ Some u)
        → reached_by (plain_world reading) (reached (plain_world reading) past) e ≡ Some t
        → reached_by (plain_world reading) (reached (plain_world reading) (past ++ event ∷ [])) e ≡ Some u
    by (goes steps after) more there = more after there
    by (stops steps why) more there = absurd cc

-- ---- what is told, one event after another

abbrev HappenedPlain : Type 0
HappenedPlain = Happened (Message Token)

pub record DeliversFrom (ue : UeId) (bearer : BearerId) (n : ℕ) (left : List (List ℕ)) (happened : List HappenedPlain) : Type 0 where
  pub rest : List (List ℕ)
  pub prefix : Delivered (entity ue bearer Dl) happened ++ rest ≡ left ++ Offered (entity ue bearer Dl) happened
  pub numbered : Counts (entity ue bearer Dl) happened ≡ range_with_len n (length (Delivered (entity ue bearer Dl) happened))

range_more : (n a b : ℕ) → range_with_len n a ++ range_with_len (n + a) b ≡ range_with_len n (a + b)
range_more n zero b =
    let e : n + 0 ≡ n = omega arith in
    let f : b ≡ 0 + b = omega arith in
    ap (λ (k : ℕ). range_with_len k b) e ∙ ap (range_with_len n) f
range_more n (suc a) b =
    let e : n + suc a ≡ n + 1 + a = omega arith in
    let f : suc a + b ≡ suc (a + b) = omega arith in
    ap (λ (xs : List ℕ). n ∷ xs) (ap (λ (k : ℕ). range_with_len (n + 1) a ++ range_with_len k b) e ∙ range_more (n + 1) a b) ∙ ap (range_with_len n) (sym f)

module _ (ue : UeId) (bearer : BearerId) where
  one_more : (event : Event) (steps_of : List PlainStep) (more : List HappenedPlain) (n m : ℕ) (left then_left : List (List ℕ))
      → Moves ue bearer n left (offered_here ue bearer event steps_of) (lines_in steps_of) m then_left → DeliversFrom ue bearer m then_left more
      → DeliversFrom ue bearer n left (record { event = event; steps = steps_of } ∷ more)
  one_more event steps_of more n m left then_left moves d = record {
    rest = d.rest;
    prefix = ap (λ (ps : List (List ℕ)). ps ++ d.rest) packets_are
        ∙ append_assoc (packets_in ue bearer (lines_in steps_of)) (Delivered (entity ue bearer Dl) more) d.rest
        ∙ ap (λ (ps : List (List ℕ)). packets_in ue bearer (lines_in steps_of) ++ ps) d.prefix
        ∙ sym (append_assoc (packets_in ue bearer (lines_in steps_of)) then_left (Offered (entity ue bearer Dl) more))
        ∙ ap (λ (ps : List (List ℕ)). ps ++ Offered (entity ue bearer Dl) more) moves.packets
        ∙ append_assoc left (offered_here ue bearer event steps_of) (Offered (entity ue bearer Dl) more);
    numbered = counts_are
        ∙ (λ i. moves.counts i ++ d.numbered i)
        ∙ ap (λ (k : ℕ). range_with_len n (length (packets_in ue bearer (lines_in steps_of))) ++ range_with_len k (length (Delivered (entity ue bearer Dl) more))) moves.further
        ∙ range_more n (length (packets_in ue bearer (lines_in steps_of))) (length (Delivered (entity ue bearer Dl) more))
        ∙ ap (range_with_len n) (sym (length-append (packets_in ue bearer (lines_in steps_of)) (Delivered (entity ue bearer Dl) more)))
        ∙ ap (λ (ps : List (List ℕ)). range_with_len n (length ps)) (sym packets_are);
  }
    where
      packets_are : Delivered (entity ue bearer Dl) (record { event = event; steps = steps_of } ∷ more)
          ≡ packets_in ue bearer (lines_in steps_of) ++ Delivered (entity ue bearer Dl) more
      packets_are = flat_map-append (packets_of (entity ue bearer Dl)) (lines_in steps_of) (all_lines more)

      counts_are : Counts (entity ue bearer Dl) (record { event = event; steps = steps_of } ∷ more)
          ≡ counts_in ue bearer (lines_in steps_of) ++ Counts (entity ue bearer Dl) more
      counts_are = flat_map-append (counts_of (entity ue bearer Dl)) (lines_in steps_of) (all_lines more)

  nothing_told : (n : ℕ) (left : List (List ℕ)) → DeliversFrom ue bearer n left []
  nothing_told n left = record { rest = left; prefix = sym (append-nil left); numbered = refl }

-- ---- events

module _ (reading : Reading) where
  abbrev All : Event → (s : PlainState) → AllStand s → Type 0
  All event s all = (who : UeId) (q : BearerId) → Fares who q event (all who q).delivered (all who q).left (happens (plain_world reading) event s)

  asked : (s : PlainState) (all : AllStand s) (ue : UeId) (bearer : BearerId) (who : UeId) (q : BearerId)
      → Fares who q (events.Ask ue bearer) (all who q).delivered (all who q).left (ask (plain_world reading) ue bearer s)
  unfolding ask
  asked s all ue bearer who q = by (has_bearer s ue bearer)
    where
      quiet : (t : Bool) (a b : ℕ)
          → Fares who q (events.Ask ue bearer) (all who q).delivered (all who q).left (prints ((if t then is_quiet ue bearer a b else is_busy ue bearer) ∷ []) s)
      quiet true a b =
          steps.told reading who q (events.Ask ue bearer) refl s (all who q).delivered (all who q).left (all who q).stage None (is_quiet ue bearer a b ∷ []) (tt, tt)
      quiet false a b =
          steps.told reading who q (events.Ask ue bearer) refl s (all who q).delivered (all who q).left (all who q).stage None (is_busy ue bearer ∷ []) (tt, tt)

      by : (t : Bool) → Fares who q (events.Ask ue bearer) (all who q).delivered (all who q).left (if t then prints (ask_line s ue bearer ∷ []) s else refused NoBearer s)
      by true = quiet (rests s ue bearer) (book_of s (entity ue bearer Dl)).delivered (book_of s (entity ue bearer Ul)).delivered
      by false = steps.told reading who q (events.Ask ue bearer) refl s (all who q).delivered (all who q).left (all who q).stage None (was_refused NoBearer ∷ []) (tt, tt)

  pub event_fares : (event : Event) → IsDownlinkOnly event → (s : PlainState) → AreOwned s.units → StandWhereOpen s → ItemsShow s → (all : AllStand s) → All event s all
  unfolding happens
  event_fares (events.Static plan) is s owned where_open shows all who q = static_fares reading plan s owned where_open all who q
  event_fares (events.Offer ue bearer Dl packet) is s owned where_open shows all who q = offer_fares reading s owned all ue bearer packet who q
  event_fares (events.Get end teid) is s owned where_open shows all who q = get_fares reading s owned where_open shows all end teid who q
  event_fares (events.Air ue bearer Dl) is s owned where_open shows all who q = air_fares reading s owned all ue bearer who q
  event_fares (events.Air ue bearer Ul) is s owned where_open shows all who q = air_up_fares reading s all ue bearer who q
  event_fares (events.Ack ue bearer Ul) is s owned where_open shows all who q = ack_up_fares reading s all ue bearer who q
  event_fares (events.Ack ue bearer Dl) is s owned where_open shows all who q = ack_fares reading s owned all ue bearer who q
  event_fares (events.Ask ue bearer) is s owned where_open shows all who q = asked s all ue bearer who q
  event_fares event is s owned where_open shows all who q = absurd is

  -- ---- the run

  run_delivers : (events : List Event) → AllByRecursion IsDownlinkOnly events → (past : List Event) (s : PlainState) → reached (plain_world reading) past new_state ≡ Some s
      → (all : AllStand s) (ue : UeId) (bearer : BearerId)
      → DeliversFrom ue bearer (all ue bearer).delivered (all ue bearer).left (run_from (plain_world reading) events s).events
  unfolding run_from
  run_delivers [] are past s is all ue bearer = nothing_told ue bearer (all ue bearer).delivered (all ue bearer).left
  run_delivers (event ∷ events) are past s is all ue bearer =
      by (happens (plain_world reading) event s)
      (event_fares event are.0 s (owned_later reading past new_state s is (first_owned (Message Token) Token))
      (stand_where_open reading past new_state s (first_stands (Message Token) Token (Written (Load Pdu)) (Written Pdu)) is)
      (items_in_run reading past s is) all)
      (λ t next. reached_more reading past event new_state s t is next)
      (λ t there standing. run_delivers events are.1 (past ++ event ∷ []) t there standing ue bearer)
    where
      by : (e : PlainOutcome)
          → ((who : UeId) (q : BearerId) → Fares who q event (all who q).delivered (all who q).left e)
          → ((t : PlainState) → reached_by (plain_world reading) (λ x. Some x) e ≡ Some t → reached (plain_world reading) (past ++ event ∷ []) new_state ≡ Some t)
          → ((t : PlainState) → reached (plain_world reading) (past ++ event ∷ []) new_state ≡ Some t → (standing : AllStand t)
          → DeliversFrom ue bearer (standing ue bearer).delivered (standing ue bearer).left (run_from (plain_world reading) events t).events)
          → DeliversFrom ue bearer (all ue bearer).delivered (all ue bearer).left
          (run_on (plain_world reading) event (run_from (plain_world reading) events) e).events
      by (goes steps_of t) fares later more =
          one_more ue bearer event steps_of (run_from (plain_world reading) events t).events (all ue bearer).delivered (fares ue bearer).further (all ue bearer).left
          (fares ue bearer).then_left (fares ue bearer).moves
          (more t (later t refl) (λ who q. record { delivered = (fares who q).further; left = (fares who q).then_left; stage = (fares who q).stage }))
      by (stops steps_of why) fares later more =
          one_more ue bearer event steps_of [] (all ue bearer).delivered (fares ue bearer).further (all ue bearer).left (fares ue bearer).then_left (fares ue bearer).moves
          (nothing_told ue bearer (fares ue bearer).further (fares ue bearer).then_left)

  pub runs_deliver : (events : List Event) → AllByRecursion IsDownlinkOnly events → (ue : UeId) (bearer : BearerId)
      → DeliversInOrder (entity ue bearer Dl) (Run reading events).events
  unfolding Run run
  runs_deliver events are ue bearer =
      let d = run_delivers events are [] new_state refl at_first ue bearer in record { rest = d.rest; prefix = d.prefix; numbered = d.numbered }
