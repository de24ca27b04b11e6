-- In every run, however items are shown: from what is shown of an item its packet is read.
use Rattle.std.proofs.Common.{◌≡◌, ℕ, Bool, List, [], ◌∷◌, Option, None, ◌⊎◌, inl, inr, refl, sym, subst}
use Rattle.std.specs.List.{list_any}
use Rattle.message_types.specs.declared.rrc.Token.{Token}
use Rattle.scenario_text.specs.declared.event.Event.{Event}
use Rattle.gnb_types.specs.declared.names.NodeId.{NodeId}
use Rattle.gnb_types.specs.declared.names.NodeId.TheVariants.{Core}
use Rattle.gnb_types.specs.declared.reasons.RefuseReason.{RefuseReason}
use Rattle.tables.specs.Tables.{find, at}
use Rattle.unit_defs.specs.Ways.{Message, Pdu, Load, Put, control, packet, radio, deliver, dropped, held, opened, closed, failed, no}
use Rattle.run_defs.specs.Local.{acts_of}
use Rattle.run_defs.specs.Said.{is_refusal, lines_in}
use Rattle.run_defs.specs.Written.{Written}
use Rattle.run_defs.specs.Lines.{was_refused}
use Rattle.run_defs.specs.Units.{new_units}
use Rattle.run_defs.specs.States.{State, new_state, RunStep, goes, stops, Outcome, refused, World as WorldOf}
use Rattle.run_defs.specs.Runs.{Reading, happens, run_on, run_from, run, Run}
use Rattle.proof_run_steps.proofs.steps.Runs.{made_of_steps}
use Rattle.proof_run_steps.specs.facts.Facts.{Facts, Hold, PutFits, PutsFit, AreKept}
use Rattle.proof_run_steps.specs.facts.UnitFacts.{written_facts}
use Rattle.proof_run_steps.proofs.facts.Plain.{plain_kept, first_holds}
use Rattle.proof_run_steps.specs.plans.Plans.{Plans}
use Rattle.proof_run_steps.specs.plan_facts.Along.{Allowed, anything, IsAllowed, AreKeptAlong, HoldsNow}
use Rattle.proof_run_steps.proofs.plan_facts.Along.{made_along}
use Rattle.proof_run_steps.proofs.plan_facts.Constant.{always_along}
use Rattle.law_tunnels_are_owned.proofs.link_items.Names.{link_items}
use Rattle.law_tunnels_are_owned.proofs.link_items.Links.{items_keep}
use Rattle.law_units_act_locally.specs.local_packets.Says.{packet_of_pdu, packet_of_load, Saying, SaysInOctets, shown_alone, SaysAlone, showing_packets}
use Rattle.law_units_act_locally.specs.local_packets.Local.{WasAt, LocalFrom}
use Rattle.law_units_act_locally.proofs.local_packets.Settled.{Settled, first_settled, OutcomeSettled, made_settled}
use Rattle.law_units_act_locally.proofs.local_packets.Known.{Known, first_known}
use Rattle.law_units_act_locally.proofs.local_packets.Steps.{Told, after, TheWorld, TheFacts, Tells, local_both, OutcomeLocal, quiet, made_local}

abbrev Here : Type 0
Here = State (Message Token) Token (Written (Load Pdu)) (Written Pdu)

abbrev RunWorld : Type 0
RunWorld = WorldOf (Message Token) Token (Written (Load Pdu)) (Written Pdu)

-- what an event of the run brings is allowed, or it is refused
module _ (world : RunWorld) (allowed : Allowed) where
  abbrev pub IsRefused : Event → Here → Type 0
  IsRefused event s = (reason : RefuseReason) × (happens world event s ≡ refused reason s)

  abbrev pub ComeSo : List Event → Here → Type 0
  ComeSo [] s = Unit {0}
  ComeSo (event ∷ events) s =
      (IsAllowed allowed event s.plans ⊎ IsRefused event s)
      × ((steps : List (RunStep (Message Token))) (t : Here) → happens world event s ≡ goes steps t → ComeSo events t)

module _ (reading : Reading) (show_item : Written (Load Pdu) → List ℕ) (show_pdu : Written Pdu → List ℕ) (Says : Saying) (Puts : NodeId → Saying)
    (facts : Plans → TheFacts reading show_item show_pdu Says Puts) (allowed : Allowed)
    (kept : AreKeptAlong (TheWorld reading show_item show_pdu Says Puts) facts allowed)
    (tells : (plans : Plans) → Tells reading show_item show_pdu Says Puts (facts plans)) where
  abbrev World : RunWorld
  World = TheWorld reading show_item show_pdu Says Puts

  abbrev Goal : Event → List Event → List Told → Outcome (Message Token) Token (Written (Load Pdu)) (Written Pdu) → Type 0
  Goal event events past e = LocalFrom Says Puts past (acts_of (run_on World event (run_from World events) e).events)

  abbrev Later : List Event → Type 0
  Later events =
      (acts : List Told) (t : Here) → Hold (facts t.plans) t → ComeSo World allowed events t → Settled t → Known (WasAt Says acts) t.units
      → LocalFrom Says Puts acts (acts_of (run_from World events t).events)

  pub run_local : (events : List Event) (past : List Told) (s : Here) → Hold (facts s.plans) s → ComeSo World allowed events s → Settled s
      → Known (WasAt Says past) s.units → LocalFrom Says Puts past (acts_of (run_from World events s).events)
  unfolding run_from
  run_local [] past s h come o p = tt
  run_local (event ∷ events) past s h come o p = each (run_local events) come.0
    where
      by : Later events → (e : Outcome (Message Token) Token (Written (Load Pdu)) (Written Pdu)) → happens World event s ≡ e
          → ((was : Bool) → OutcomeLocal reading show_item show_pdu Says Puts event was past e) → HoldsNow World facts e
          → OutcomeSettled reading show_item show_pdu e → Goal event events past e
      by more (goes steps t) is q k o =
          let was = list_any is_refusal (lines_in steps) in
          local_both reading show_item show_pdu Says Puts event was past steps _ (q was).0
          (more (after event was past steps) t k (come.1 steps t is) o (q was).1)
      by more (stops steps why) is q k o =
          let was = list_any is_refusal (lines_in steps) in
          local_both reading show_item show_pdu Says Puts event was past steps [] (q was) tt

      each : Later events → IsAllowed allowed event s.plans ⊎ IsRefused World allowed event s → Goal event events past (happens World event s)
      each more (inl may) =
          let e = happens World event s in
          by more e refl (λ was. made_local reading show_item show_pdu Says Puts event was facts allowed kept tells past s e (made_of_steps World event s) h may o p)
          (made_along World facts allowed kept event s e (made_of_steps World event s) h may)
          (made_settled reading show_item show_pdu event s e (made_of_steps World event s) o)
      each more (inr refusal) =
          subst (Goal event events past) (sym refusal.1)
          (by more (refused refusal.0 s) refusal.1 (λ was. quiet reading show_item show_pdu Says Puts event was past None (was_refused refusal.0 ∷ []) s tt p) h o)

-- where facts speak of no plans, any may come
module _ (reading : Reading) (show_item : Written (Load Pdu) → List ℕ) (show_pdu : Written Pdu → List ℕ) (Says : Saying)
    (facts : TheFacts reading show_item show_pdu Says (λ node. Says)) (kept : AreKept (TheWorld reading show_item show_pdu Says (λ node. Says)) facts)
    (tells : Tells reading show_item show_pdu Says (λ node. Says) facts) where
  abbrev ItsWorld : RunWorld
  ItsWorld = TheWorld reading show_item show_pdu Says (λ node. Says)

  abbrev Along : AreKeptAlong ItsWorld (λ plans. facts) anything
  Along = always_along ItsWorld anything facts kept

  all_come : (events : List Event) (s : Here) → ComeSo ItsWorld anything events s
  all_come [] s = tt
  all_come (event ∷ events) s = (inl ((λ plan is new. tt), (λ ue bearer dir x is. tt)), λ steps t is. all_come events t)

  always_local : (events : List Event) → Hold facts new_state → Known (WasAt Says {M = Message Token} []) new_units
      → LocalFrom Says (λ node. Says) [] (acts_of (run_from ItsWorld events new_state).events)
  always_local events h p =
      run_local reading show_item show_pdu Says (λ node. Says) (λ plans. facts) anything Along (λ plans. tells) events [] new_state h
      (all_come events new_state) first_settled p

-- ---- with packets in place of octets: nothing is asked of what stands on links

abbrev Nothing : Facts (Message Token) Token (Written (Load Pdu)) (Written Pdu)
Nothing = record {
  units = λ u. Unit {0};
  core = λ r. Unit {0};
  control_message = λ l. Unit {0};
  puts_on = λ node end item. Unit {0};
  puts_on_air = λ node key item. Unit {0};
  on_tunnel = λ end item. Unit {0};
  on_radio = λ key item. Unit {0};
  stands = λ node end item p. tt;
  stands_on_air = λ node key item p. tt;
  counted = ⊥;
}

put_fits : (node : NodeId) (taken : Option ℕ) (output : Put (Message Token) (Written (Load Pdu)) (Written Pdu)) → PutFits Nothing node taken output
put_fits node taken (control to ue message) = tt
put_fits node taken (packet to teid ue bearer dir tag item) = tt
put_fits node taken (radio ue bearer dir epoch tag pdu) = tt
put_fits node taken (deliver ue bearer dir count x) = tt
put_fits node taken (dropped reason) = tt
put_fits node taken (held reason) = tt
put_fits node taken (opened teid) = tt
put_fits node taken (closed teid) = tt
put_fits node taken (failed ue cause) = tt
put_fits node taken (no reason) = tt

all_fit : (node : NodeId) (taken : Option ℕ) (outputs : List (Put (Message Token) (Written (Load Pdu)) (Written Pdu))) → PutsFit Nothing node taken outputs
all_fit node taken [] = tt
all_fit node taken (output ∷ outputs) = (put_fits node taken output, all_fit node taken outputs)

nothing_kept : (reading : Reading) → AreKept (showing_packets reading) Nothing
nothing_kept reading = record {
  answers = λ lengths u v node taken given outputs p fits is. (tt, all_fit node taken outputs);
  comes = λ u plan p. tt;
  placed = λ u plan free room teids p. tt;
  core_answers = λ lengths r q given outputs p fits is. (tt, all_fit Core None outputs);
  core_placed = λ r plan n3 p. tt;
  lays = λ r ue bearer x path p found. tt;
  silent = λ counted. absurd counted;
}

nothing_first : Hold Nothing new_state
unfolding at find
nothing_first = record {
  units = tt;
  core = tt;
  control_messages = tt;
  tunnels = λ end items found. absurd cc;
  radios = λ key. tt;
  few = λ counted. absurd counted;
}

pub packets_local : (reading : Reading) (events : List Event) → LocalFrom SaysAlone (λ node. SaysAlone) [] (acts_of (run (showing_packets reading) events).events)
unfolding run
packets_local reading events =
    always_local reading (λ item. shown_alone (packet_of_load item.says)) (λ pdu. shown_alone (packet_of_pdu pdu.says)) SaysAlone Nothing (nothing_kept reading)
    (record {
      tunnel = λ end item h. refl;
      radio = λ key on epoch item h. refl;
      puts = λ node end item h. refl;
      airs = λ node key epoch item h same. refl;
    }) events nothing_first (first_known (WasAt SaysAlone {M = Message Token} []) reading)

-- ---- by octets

pub octets_local : (reading : Reading) (events : List Event) → LocalFrom SaysInOctets (λ node. SaysInOctets) [] (acts_of (Run reading events).events)
unfolding Run run
octets_local reading events =
    let facts = written_facts link_items in
    always_local reading (λ item. item.octets) (λ pdu. pdu.octets) SaysInOctets facts (plain_kept link_items items_keep reading)
    (record {
      tunnel = λ end item h. (item.content.says, refl, h.0.1, h.0.0, h.1);
      radio = λ key on epoch item h. (item.content.says, refl, h.0, h.1);
      puts = λ node end item h. let on = facts.stands node end item h in (item.content.says, refl, on.0.1, on.0.0, on.1);
      airs = λ node key epoch item h same. let on = facts.stands_on_air node key item h in (item.content.says, refl, on.0, on.1);
    }) events (first_holds link_items items_keep) (first_known (WasAt SaysInOctets {M = Message Token} []) reading)
