-- In every run of such a script the COUNTs that are shown are places.
use Rattle.std.proofs.Common.{◌≡◌, ℕ, ◌+◌, List, [], ◌∷◌, ◌++◌, length, Some, inl, inr, ◌⊎◌, refl, sym, ap, ◌∙◌, subst, arith, append_assoc, length-append}
use Rattle.std.specs.Prelude.{if◌then◌else◌, slice_get}
use Rattle.std.specs.List.{AllByRecursion, flat_map, list_any}
use Rattle.std.proofs.lemmas.List.{append-nil}
use Rattle.std.proofs.lemmas.Grind.{flat_map-append}
use Rattle.gnb_types.specs.declared.names.Dir.{Dir}
use Rattle.gnb_types.specs.declared.names.Dir.TheVariants.{Dl}
use Rattle.gnb_types.specs.declared.names.SnBits.{SnBits}
use Rattle.gnb_types.specs.declared.names.UeId.{UeId}
use Rattle.gnb_types.specs.declared.names.BearerId.{BearerId}
use Rattle.gnb_types.specs.declared.keys.EntityKey.{EntityKey}
use Rattle.gnb_types.specs.Orders.{ue_cmp}
use Rattle.gnb_types.proofs.OrderLemmas.{ue_exact}
use Rattle.message_types.specs.declared.rrc.Token.{Token}
use Rattle.scenario_text.specs.declared.event.Event.{Event}
use Rattle.unit_defs.specs.Ways.{Message, Pdu, Load}
use Rattle.unit_defs.specs.CuUpRecords.{CuUpContext}
use Rattle.unit_defs.specs.Du.{DuContext}
use Rattle.run_defs.specs.Local.{sn_in, CountMeansFrom, IsPlaceLine, CountMeans}
use Rattle.run_defs.specs.Said.{is_refusal, lines_in, offered_by, packets_of, all_lines, Offered, Delivered, OnLinks, no_items, WiresFrom}
use Rattle.run_defs.specs.Units.{cu_up_of, du_of}
use Rattle.run_defs.specs.Written.{Written}
use Rattle.run_defs.specs.States.{Lengths, new_state, goes, stops, entity, sn_of}
use Rattle.run_defs.specs.Runs.{Reading, Happened, plain_world, happens, run_on, run_from, run, Run}
use Rattle.proof_run_steps.specs.steps.Reached.{reached_by, reached}
use Rattle.proof_run_steps.proofs.steps.Runs.{made_of_steps}
use Rattle.law_tunnels_are_owned.proofs.open_tunnels.Runs.{stand_where_open, first_stands}
use Rattle.law_tunnels_are_owned.proofs.tunnel_owners.Placed.{first_owned}
use Rattle.law_tunnels_are_owned.proofs.tunnel_owners.Runs.{owned_later}
use Rattle.law_tunnels_are_owned.proofs.link_items.Links.{items_in_run}
use Rattle.proof_unit_steps.proofs.packets.Keyed.{keyed_found}
use Rattle.law_downlink_scripts.proofs.wires.Endings.{after_lines}
use Rattle.law_downlink_scripts.proofs.wires.Runs.{wires}
use Rattle.proof_run_steps.specs.facts.Facts.{Hold}
use Rattle.proof_run_steps.specs.plan_facts.Along.{IsAllowed, HoldsNow}
use Rattle.proof_run_steps.proofs.plan_facts.Along.{made_along}
use Rattle.law_tunnels_are_owned.proofs.run_lengths.Known.{Owns, length_is}
use Rattle.law_units_act_locally.proofs.local_packets.Runs.{IsRefused, ComeSo}
use Rattle.law_units_act_locally.proofs.local_lengths.Comes.{Lengthened, come_so}
use Rattle.law_units_act_locally.proofs.local_lengths.Tells.{LongFacts}
use Rattle.law_units_act_locally.proofs.local_lengths.Runs.{kept, first}
use Rattle.law_units_act_locally.proofs.local.Whole.{all_of}
use Rattle.law_downlink_scripts.proofs.downlink_only_facts.Views.{PlainState, AllStand}
use Rattle.law_downlink_scripts.proofs.downlink_only_facts.Moves.{PlainStep, PlainOutcome, packets_in, offered_here, Fares}
use Rattle.law_downlink_scripts.specs.downlink_only_runs.Scripts.{IsDownlinkOnly}
use Rattle.law_downlink_scripts.proofs.downlink_only_runs.First.{at_first}
use Rattle.law_downlink_scripts.proofs.downlink_only_runs.Runs.{reached_more, event_fares}
use Rattle.law_downlink_scripts.proofs.downlink_only_lines.Lines.{AreLong, IsAtPlace, AtPlaces}
use Rattle.law_downlink_scripts.proofs.downlink_only_lines.Units.{Stood}
use Rattle.law_downlink_scripts.proofs.downlink_only_lines.Events.{event_at}
use Rattle.law_downlink_scripts.proofs.downlink_only_lines.Wires.{still_at, wires_parts, OnPlaces, places_later, lines_later, lines_at}

abbrev Told : Type 0
Told = List (Happened (Message Token))

-- nothing is asked of what is offered
abbrev Anything : Dir → List ℕ → Type 0
Anything dir packet = Unit {0}

abbrev so : Event → List PlainStep → Happened (Message Token)
so event steps = record { event = event; steps = steps }

abbrev offered_in : Told → EntityKey → List (List ℕ)
offered_in past key = Offered key past

module _ (event : Event) (steps : List PlainStep) (past : Told) where
  module _ (key : EntityKey) where
    abbrev offers : Happened (Message Token) → List (List ℕ)
    offers h = if list_any is_refusal (lines_in h.steps) then [] else offered_by key h.event

    offered_more : Offered key (past ++ so event steps ∷ []) ≡ Offered key past ++ offers (so event steps)
    offered_more =
        flat_map-append offers past (so event steps ∷ []) ∙ ap (λ (ps : List (List ℕ)). Offered key past ++ ps) (append-nil (offers (so event steps)))

    delivered_more : Delivered key (past ++ so event steps ∷ []) ≡ Delivered key past ++ flat_map (packets_of key) (lines_in steps)
    delivered_more =
        ap (flat_map (packets_of key)) (flat_map-append (λ (h : Happened (Message Token)). lines_in h.steps) past (so event steps ∷ []))
        ∙ flat_map-append (packets_of key) (all_lines past) (lines_in steps ++ [])
        ∙ ap (λ ls. Delivered key past ++ flat_map (packets_of key) ls) (append-nil (lines_in steps))

  grows : (key : EntityKey) (k : ℕ) (x : List ℕ) → slice_get (Offered key past) k ≡ Some x → slice_get (Offered key (past ++ so event steps ∷ [])) k ≡ Some x
  grows key k x e =
      ap (λ (ps : List (List ℕ)). slice_get ps k) (offered_more key) ∙ still_at (Offered key past) (offers key (so event steps)) k x e

module _ (reading : Reading) (L : Lengths) where
  abbrev IsLength : UeId → SnBits → Type 0
  IsLength ue sn = L ue ≡ sn

  long_in : (s : PlainState) → Hold (LongFacts reading L s.plans) s → AreLong L s
  long_in s h = record {
    ups = λ g n ue c there.
        known ue c.sn
        (keyed_found ue_cmp ue_exact (λ (who : UeId) (d : CuUpContext). (Owns IsLength s.plans).length who d.sn) (cu_up_of s.units g n).contexts ue c (h.units.1.0 g n).lengths there);
    dus = λ g n ue c there.
        known ue c.sn
        (keyed_found ue_cmp ue_exact (λ (who : UeId) (d : DuContext). (Owns IsLength s.plans).length who d.sn) (du_of s.units g n).contexts ue c (h.units.1.1 g n).lengths there);
  }
    where
      known : (ue : UeId) (sn : SnBits) → (Owns IsLength s.plans).length ue sn → sn_of s ue ≡ L ue
      known ue sn k = length_is s.plans ue sn k.0 ∙ sym k.1

  -- ---- what was told, and what stands

  record Here (s : PlainState) (all : AllStand s) (past : Told) (on : OnLinks (Message Token)) : Type 0 where
    pub facts : Hold (LongFacts reading L s.plans) s
    pub packets : (ue : UeId) (bearer : BearerId) → Delivered (entity ue bearer Dl) past ++ (all ue bearer).left ≡ Offered (entity ue bearer Dl) past
    pub many : (ue : UeId) (bearer : BearerId) → (all ue bearer).delivered ≡ length (Delivered (entity ue bearer Dl) past)
    pub places : OnPlaces L (offered_in past) on

  module _ (event : Event) (s : PlainState) (all : AllStand s) (past : Told) (on : OnLinks (Message Token)) (here : Here s all past on) where
    stood : Stood (offered_in past) s all
    stood = record { told = λ ue bearer. Delivered (entity ue bearer Dl) past; packets = here.packets; many = here.many }

    lines_here : (steps : List PlainStep) → AllByRecursion (IsAtPlace L (offered_in past)) (lines_in steps) → WiresFrom on (lines_in steps)
        → AllByRecursion (IsPlaceLine L (past ++ so event steps ∷ [])) (lines_in steps)
        × OnPlaces L (offered_in (past ++ so event steps ∷ [])) (after_lines on (lines_in steps))
    lines_here steps at w =
        let later : Told = past ++ so event steps ∷ [] in
        lines_at L later on (lines_in steps) w (places_later L (offered_in past) (offered_in later) (grows event steps past) on here.places)
        (lines_later L (offered_in past) (offered_in later) (grows event steps past) (lines_in steps) at)

    abbrev AllFare : PlainOutcome → Type 0
    AllFare e = (who : UeId) (q : BearerId) → Fares who q event (all who q).delivered (all who q).left e

    abbrev standing : (steps : List PlainStep) (t : PlainState) → AllFare (goes steps t) → AllStand t
    standing steps t fares who q = record { delivered = (fares who q).further; left = (fares who q).then_left; stage = (fares who q).stage }

    next_here : (steps : List PlainStep) (t : PlainState) (fares : AllFare (goes steps t)) → Hold (LongFacts reading L t.plans) t
        → OnPlaces L (offered_in (past ++ so event steps ∷ [])) (after_lines on (lines_in steps))
        → Here t (standing steps t fares) (past ++ so event steps ∷ []) (after_lines on (lines_in steps))
    next_here steps t fares facts places = record {
      facts = facts;
      packets = λ ue bearer.
          let key : EntityKey = entity ue bearer Dl in
          let told : List (List ℕ) = packets_in ue bearer (lines_in steps) in
          let offers_here : List (List ℕ) = offered_here ue bearer event steps in
          ap (λ (ps : List (List ℕ)). ps ++ (fares ue bearer).then_left) (delivered_more event steps past key)
          ∙ append_assoc (Delivered key past) told (fares ue bearer).then_left
          ∙ ap (λ (ps : List (List ℕ)). Delivered key past ++ ps) (fares ue bearer).moves.packets
          ∙ sym (append_assoc (Delivered key past) (all ue bearer).left offers_here)
          ∙ ap (λ (ps : List (List ℕ)). ps ++ offers_here) (here.packets ue bearer)
          ∙ sym (offered_more event steps past key);
      many = λ ue bearer.
          let key : EntityKey = entity ue bearer Dl in
          let told : List (List ℕ) = packets_in ue bearer (lines_in steps) in
          let sum : length (Delivered key (past ++ so event steps ∷ [])) ≡ length (Delivered key past) + length told =
          ap length (delivered_more event steps past key) ∙ length-append (Delivered key past) told in
          omega (arith, sum, here.many ue bearer, (fares ue bearer).moves.further);
      places = places;
    }

    holds_next : IsAllowed (Lengthened reading L Anything) event s.plans ⊎ IsRefused (plain_world reading) (Lengthened reading L Anything) event s
        → HoldsNow (plain_world reading) (LongFacts reading L) (happens (plain_world reading) event s)
    holds_next (inl may) =
        made_along (plain_world reading) (LongFacts reading L) (Lengthened reading L Anything) (kept reading L Anything) event s (happens (plain_world reading) event s)
        (made_of_steps (plain_world reading) event s) here.facts may
    holds_next (inr refusal) = subst (HoldsNow (plain_world reading) (LongFacts reading L)) (sym refusal.1) here.facts

  -- ---- the run

  abbrev Comes : List Event → PlainState → Type 0
  Comes events s = ComeSo (plain_world reading) (Lengthened reading L Anything) events s

  counts_from : (events : List Event) → AllByRecursion IsDownlinkOnly events → (script : List Event) (s : PlainState) → reached (plain_world reading) script new_state ≡ Some s
      → (all : AllStand s) (past : Told) (on : OnLinks (Message Token)) → Here s all past on → Comes events s
      → WiresFrom on (all_lines (run_from (plain_world reading) events s).events) → CountMeansFrom L past (run_from (plain_world reading) events s).events
  unfolding run_from
  counts_from [] are script s is all past on here come w = tt
  counts_from (event ∷ events) are script s is all past on here come w =
      let owned = owned_later reading script new_state s is (first_owned (Message Token) Token) in
      let where_open = stand_where_open reading script new_state s (first_stands (Message Token) Token (Written (Load Pdu)) (Written Pdu)) is in
      let shows = items_in_run reading script s is in
      by (happens (plain_world reading) event s) refl (event_fares reading event are.0 s owned where_open shows all)
      (event_at L (offered_in past) reading s owned (long_in s here.facts) where_open shows all (stood event s all past on here) event are.0)
      (holds_next event s all past on here come.0) (λ t next. reached_more reading script event new_state s t is next)
      (λ t there standing_then past_then on_then here_then come_then w_then.
      counts_from events are.1 (script ++ event ∷ []) t there standing_then past_then on_then here_then come_then w_then) w
    where
      by : (e : PlainOutcome) → happens (plain_world reading) event s ≡ e → AllFare event s all past on here e → AtPlaces L (offered_in past) e
          → HoldsNow (plain_world reading) (LongFacts reading L) e
          → ((t : PlainState) → reached_by (plain_world reading) (λ x. Some x) e ≡ Some t → reached (plain_world reading) (script ++ event ∷ []) new_state ≡ Some t)
          → ((t : PlainState) → reached (plain_world reading) (script ++ event ∷ []) new_state ≡ Some t → (standing_then : AllStand t) (past_then : Told)
          (on_then : OnLinks (Message Token)) → Here t standing_then past_then on_then → Comes events t
          → WiresFrom on_then (all_lines (run_from (plain_world reading) events t).events) → CountMeansFrom L past_then (run_from (plain_world reading) events t).events)
          → WiresFrom on (all_lines (run_on (plain_world reading) event (run_from (plain_world reading) events) e).events)
          → CountMeansFrom L past (run_on (plain_world reading) event (run_from (plain_world reading) events) e).events
      by (goes steps t) same fares at facts later more wires_on =
          let parts = wires_parts on (lines_in steps) (all_lines (run_from (plain_world reading) events t).events) wires_on in
          let told = lines_here event s all past on here steps at parts.0 in (
            all_of (IsPlaceLine L (past ++ so event steps ∷ [])) (lines_in steps) told.0,
            more t (later t refl) (standing event s all past on here steps t fares) (past ++ so event steps ∷ []) (after_lines on (lines_in steps))
                (next_here event s all past on here steps t fares facts told.1) (come.1 steps t same) parts.1,
          )
      by (stops steps why) same fares at facts later more wires_on =
          let parts = wires_parts on (lines_in steps) [] wires_on in
          (all_of (IsPlaceLine L (past ++ so event steps ∷ [])) (lines_in steps) (lines_here event s all past on here steps at parts.0).0, tt)

pub counts_mean : (reading : Reading) (events : List Event) → AllByRecursion IsDownlinkOnly events → CountMeans (Run reading events).events
unfolding Run run
counts_mean reading events are =
    let L : Lengths = sn_in (Run reading events).events in
    counts_from reading L events are [] new_state refl at_first [] no_items (record {
      facts = first reading L;
      packets = λ ue bearer. refl;
      many = λ ue bearer. refl;
      places = λ link. tt;
    }) (come_so reading L Anything IsDownlinkOnly (λ event s ok. inl (λ ue bearer dir packet is. tt)) events new_state are (λ ue none. refl))
    (wires (plain_world reading) events)
