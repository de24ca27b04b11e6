-- In every run control messages are of the interfaces between their ends.
use Rattle.std.proofs.Common.{◌≡◌, ℕ, false, List, [], ◌∷◌, Option, Some, None, refl}
use Rattle.std.specs.List.{AllByRecursion, list_any}
use Rattle.gnb_types.specs.declared.names.NodeId.{NodeId}
use Rattle.gnb_types.specs.declared.names.NodeId.TheVariants.{CuCp, CuUp as up_id, Du as du_id, Core, Ue}
use Rattle.message_types.specs.declared.rrc.Token.{Token}
use Rattle.scenario_text.specs.declared.event.Event.{Event}
use Rattle.transport_defs.specs.declared.ControlMessage.{ControlMessage}
use Rattle.unit_defs.specs.Ways.{Message, Pdu, Load, Put, control, packet, radio, deliver, dropped, held, opened, closed, failed, no, Input, control_input, packet_input, radio_input, confirm_input, offer_input, tick_input, order_input, Answer, gives, spent}
use Rattle.unit_defs.specs.Ue.{UeNode, new_ue, placed, ue_acts}
use Rattle.unit_defs.specs.CuUp.{cu_up_acts}
use Rattle.unit_defs.specs.Du.{du_acts}
use Rattle.unit_defs.specs.CuCp.{cu_cp_acts}
use Rattle.unit_defs.specs.Core.{core_acts}
use Rattle.unit_defs.specs.Static.{cu_up_placed, du_placed, cu_cp_placed}
use Rattle.run_defs.specs.Lines.{RunLine, put_item, got_item, put_message, got_message, delivers, lost_items, lost_message, drops_input, held_at, procedure_failed, is_quiet, is_busy, has_settled, has_not_settled, was_refused}
use Rattle.run_defs.specs.Written.{Written}
use Rattle.run_defs.specs.States.{State, new_state, World}
use Rattle.run_defs.specs.Runs.{Reading, Happened, plain_way, plain_world, run, Run}
use Rattle.run_defs.specs.Local.{puts_something}
use Rattle.law_requests_act_once.specs.channel.Moves.{sent_by}
use Rattle.proof_run_steps.specs.steps.Reached.{reached}
use Rattle.proof_run_steps.specs.facts.Facts.{Facts, PutsFit}
use Rattle.proof_run_steps.specs.facts.UnitFacts.{UnitFacts, as_facts, written_facts, InputFits, AnswerFits, UnitsKeep}
use Rattle.proof_run_steps.specs.facts.TellFacts.{Tells, TellsBy, StepTells}
use Rattle.proof_run_steps.proofs.facts.Plain.{plain_kept, first_holds, plain_run_holds}
use Rattle.proof_run_steps.proofs.facts.Tells.{EventTells, run_tells}
use Rattle.proof_unit_steps.specs.tunnel_names.Names.{Names}
use Rattle.proof_unit_steps.specs.tunnel_names.CuCps.{CuCpNames, CoreNames}
use Rattle.proof_unit_steps.specs.tunnels.Units.{CuUpNames, DuNames}
use Rattle.proof_run_steps.proofs.answerers.Runs.{any, Any, AnyNames, any_kept}
use Rattle.law_units_act_locally.specs.cu_cp_interfaces.Ledgers.{SentOf, Keeps, Gives, GivenOf}
use Rattle.law_units_act_locally.proofs.cu_cp_interfaces.CuCps.{Invariant, cu_cp_does}
use Rattle.law_units_act_locally.specs.run_interfaces.Lines.{IsControlMessageOf, IsLineOf, IsStepOf, IsEventOf, AreOf}
use Rattle.law_units_act_locally.proofs.run_interfaces.Units.{du_does, cu_up_does, core_does}
use Rattle.law_units_act_locally.proofs.run_interfaces.Terminals.{IsHome, terminal_does}

-- ---- beside what units name of tunnels, which tells that each stays the unit of its gNB

abbrev pub Joined : UnitFacts
Joined = record {
  up = λ g n r. CuUpNames Any g n r × Keeps (up_id g n) r.transactions;
  du = λ g n r. DuNames Any g n r × Keeps (du_id g n) r.transactions;
  cp = λ g r. CuCpNames Any g r × Invariant g r;
  ue = λ ue x. IsHome x;
  core = λ r. CoreNames Any r × Keeps Core r.transactions;
  control_message = λ l. Names any l.from l.message × IsControlMessageOf l;
  puts_on = λ node end item. Unit {0};
  puts_on_air = λ node key item. Unit {0};
  on_tunnel = λ end item. Unit {0};
  on_radio = λ key item. Unit {0};
  stands = λ node end item p. tt;
  stands_on_air = λ node key item p. tt;
}

-- ---- what is given

given_any : (node : NodeId) (taken : Option ℕ) (input : Input Token Pdu) → InputFits Joined node taken input
    → InputFits AnyNames node taken input
given_any node taken (control_input from m) p = (p.0, p.1.0)
given_any node taken (packet_input teid item) p = p
given_any node taken (radio_input ue bearer dir pdu content) p = p
given_any node taken (confirm_input ue bearer dir pdu content) p = p
given_any node taken (offer_input ue bearer x) p = tt
given_any node taken tick_input p = tt
given_any node taken (order_input order) p = tt

given_of : (node : NodeId) (taken : Option ℕ) (input : Input Token Pdu) → InputFits Joined node taken input → GivenOf node input
given_of node taken (control_input from m) p = p.1.1
given_of node taken (packet_input teid item) p = tt
given_of node taken (radio_input ue bearer dir pdu content) p = tt
given_of node taken (confirm_input ue bearer dir pdu content) p = tt
given_of node taken (offer_input ue bearer x) p = tt
given_of node taken tick_input p = tt
given_of node taken (order_input order) p = tt

-- ---- what is put

both_put : (node : NodeId) (taken : Option ℕ) (os : List (Put (Message Token) (Load Pdu) Pdu)) → PutsFit (as_facts AnyNames) node taken os
    → SentOf (sent_by node os) → PutsFit (as_facts Joined) node taken os
both_put node taken [] p q = tt
both_put node taken (control to ue m ∷ os) p q = ((p.0, q.0), both_put node taken os p.1 q.1)
both_put node taken (packet to teid ue bearer dir tag load ∷ os) p q = (tt, both_put node taken os p.1 q)
both_put node taken (radio ue bearer dir epoch tag pdu ∷ os) p q = (tt, both_put node taken os p.1 q)
both_put node taken (deliver ue bearer dir count x ∷ os) p q = (tt, both_put node taken os p.1 q)
both_put node taken (dropped reason ∷ os) p q = (tt, both_put node taken os p.1 q)
both_put node taken (held reason ∷ os) p q = (tt, both_put node taken os p.1 q)
both_put node taken (opened teid ∷ os) p q = (tt, both_put node taken os p.1 q)
both_put node taken (closed teid ∷ os) p q = (tt, both_put node taken os p.1 q)
both_put node taken (failed ue cause ∷ os) p q = (tt, both_put node taken os p.1 q)
both_put node taken (no reason ∷ os) p q = (tt, both_put node taken os p.1 q)

both_fit : {R : Type 0} (Q S : R → Type 0) (node : NodeId) (taken : Option ℕ) (a : Answer (Message Token) Pdu R)
    → AnswerFits AnyNames Q node taken a
    → Gives node S a → AnswerFits Joined (λ r. Q r × S r) node taken a
both_fit Q S node taken (gives os r) p q = ((p.0, q.0), both_put node taken os p.1 q.1)
both_fit Q S node taken (spent counter) p q = tt

one_fits : {R : Type 0} (Q S : R → Type 0) (node : NodeId) (taken : Option ℕ) (a : Answer (Message Token) Pdu R)
    → AnswerFits AnyNames Q node taken a
    → Gives node S a → AnswerFits Joined S node taken a
one_fits Q S node taken (gives os r) p q = (q.0, both_put node taken os p.1 q.1)
one_fits Q S node taken (spent counter) p q = tt

-- ---- all that is asked

pub joined_kept : UnitsKeep Joined
unfolding cu_up_placed du_placed cu_cp_placed new_ue placed
joined_kept = record {
  ups_act =
      λ g n r taken input p fits. both_fit (CuUpNames Any g n) (λ s. Keeps (up_id g n) s.transactions) (up_id g n) taken
      (cu_up_acts plain_way r input)
      (any_kept.ups_act g n r taken input p.0 (given_any (up_id g n) taken input fits))
      (cu_up_does g n r p.0.own p.1 input (given_of (up_id g n) taken input fits));
  dus_act =
      λ g n r taken input p fits. both_fit (DuNames Any g n) (λ s. Keeps (du_id g n) s.transactions) (du_id g n) taken
      (du_acts plain_way r input)
      (any_kept.dus_act g n r taken input p.0 (given_any (du_id g n) taken input fits))
      (du_does g n r p.0.own p.1 input (given_of (du_id g n) taken input fits));
  cps_act = λ g r taken input p fits. both_fit (CuCpNames Any g) (Invariant g) (CuCp g) taken (cu_cp_acts plain_way r input)
      (any_kept.cps_act g r taken input p.0 (given_any (CuCp g) taken input fits))
      (cu_cp_does g r input (given_of (CuCp g) taken input fits) p.1);
  ues_act = λ ue x taken input p fits. one_fits (λ (y : UeNode). Unit {0}) IsHome (Ue ue.0) taken (ue_acts plain_way x input)
      (any_kept.ues_act ue x taken input tt (given_any (Ue ue.0) taken input fits)) (terminal_does ue.0 x input p);
  core_acts =
      λ r from message p fits. both_fit (CoreNames Any) (λ s. Keeps Core s.transactions) Core None (core_acts plain_way r from message)
      (any_kept.core_acts r from message p.0 (fits.0, fits.1.0)) (core_does r from message p.1);
  lays = λ r ue bearer x path h found. tt;
  comes = λ plan. (tt, tt);
  places_ue = λ plan. (tt, tt);
  places_up = λ r plan downlink room teids p. (any_kept.places_up r plan downlink room teids p.0, p.1);
  places_du = λ r plan uplink teids p. (any_kept.places_du r plan uplink teids p.0, p.1);
  places_cp = λ r plan p. (any_kept.places_cp r plan p.0, p.1);
  places_path = λ r plan ts p. (any_kept.places_path r plan ts p.0, p.1);
  sets_up = λ g n r p. (any_kept.sets_up g n r p.0, p.1);
  sets_du = λ g n r p. (any_kept.sets_du g n r p.0, p.1);
  sets_cp = λ g r p. (any_kept.sets_cp g r p.0, p.1);
  first_up = λ g n. (any_kept.first_up g n, record { opened = tt; waiting = tt; replies = tt });
  first_du = λ g n. (any_kept.first_du g n, record { opened = tt; waiting = tt; replies = tt });
  first_cp = λ g. (any_kept.first_cp g, (refl, record { opened = tt; waiting = tt; replies = tt }));
  first_core = (any_kept.first_core, record { opened = tt; waiting = tt; replies = tt });
}

-- ---- lines, steps and events

map_all : {X : Type 0} (Q S : X → Type 0) (xs : List X) → ((x : X) → Q x → S x) → AllByRecursion Q xs → AllByRecursion S xs
map_all Q S [] each all = tt
map_all Q S (x ∷ xs) each all = (each x all.0, map_all Q S xs each all.1)

module _ (reading : Reading) where
  abbrev PlainWorld : World (Message Token) Token (Written (Load Pdu)) (Written Pdu)
  PlainWorld = plain_world reading

  abbrev PlainFacts : Facts (Message Token) Token (Written (Load Pdu)) (Written Pdu)
  PlainFacts = written_facts Joined

  line_of : (actor : NodeId) (line : RunLine (Message Token)) → Tells PlainWorld PlainFacts actor line → IsLineOf line
  line_of actor (put_message number l) p = p.1.1
  line_of actor line p = tt

  silent_of : (lines : List (RunLine (Message Token))) → list_any puts_something lines ≡ false → AllByRecursion IsLineOf lines
  silent_of [] e = tt
  silent_of (put_message number l ∷ lines) e = absurd cc
  silent_of (put_item link item ∷ lines) e = absurd cc
  silent_of (delivers key count x ∷ lines) e = absurd cc
  silent_of (got_item link item ∷ lines) e = (tt, silent_of lines e)
  silent_of (got_message number l ∷ lines) e = (tt, silent_of lines e)
  silent_of (lost_items link items ∷ lines) e = (tt, silent_of lines e)
  silent_of (lost_message number ∷ lines) e = (tt, silent_of lines e)
  silent_of (drops_input node reason ∷ lines) e = (tt, silent_of lines e)
  silent_of (held_at link reason ∷ lines) e = (tt, silent_of lines e)
  silent_of (procedure_failed node ue cause ∷ lines) e = (tt, silent_of lines e)
  silent_of (is_quiet ue bearer down up ∷ lines) e = (tt, silent_of lines e)
  silent_of (is_busy ue bearer ∷ lines) e = (tt, silent_of lines e)
  silent_of (has_settled rounds ∷ lines) e = (tt, silent_of lines e)
  silent_of (has_not_settled rounds ∷ lines) e = (tt, silent_of lines e)
  silent_of (was_refused reason ∷ lines) e = (tt, silent_of lines e)

  lines_of : (actor : Option NodeId) (lines : List (RunLine (Message Token))) → TellsBy PlainWorld PlainFacts actor lines
      → AllByRecursion IsLineOf lines
  lines_of None lines p = silent_of lines p
  lines_of (Some actor) lines p = map_all (Tells PlainWorld PlainFacts actor) IsLineOf lines (line_of actor) p

  event_of : (h : Happened (Message Token)) → EventTells PlainWorld PlainFacts (plain_kept Joined joined_kept reading) h → IsEventOf h
  event_of h p = map_all (StepTells PlainWorld PlainFacts) IsStepOf h.steps (λ step q. lines_of step.actor step.lines q) p

  pub run_is_of : (events : List Event) → AreOf (Run reading events).events
  unfolding Run run
  run_is_of events =
      map_all (EventTells PlainWorld PlainFacts (plain_kept Joined joined_kept reading)) IsEventOf (Run reading events).events event_of
      (run_tells PlainWorld PlainFacts (plain_kept Joined joined_kept reading) events new_state (first_holds Joined joined_kept))

-- all that were put, in each state that a run reaches
pub all_are_of : (reading : Reading) (events : List Event) (t : State (Message Token) Token (Written (Load Pdu)) (Written Pdu))
    → reached (plain_world reading) events new_state ≡ Some t
    → AllByRecursion (λ (e : ℕ × ControlMessage (Message Token)). IsControlMessageOf e.1) t.bag.control_messages
all_are_of reading events t is =
    map_all (λ (e : ℕ × ControlMessage (Message Token)). Names any e.1.from e.1.message × IsControlMessageOf e.1)
    (λ (e : ℕ × ControlMessage (Message Token)). IsControlMessageOf e.1) t.bag.control_messages
    (λ e p. p.1) (plain_run_holds Joined joined_kept reading events t is).control_messages
