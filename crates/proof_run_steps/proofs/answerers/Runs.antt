-- In every run messages name tunnels of their sender's kind, whichever these are.
use Rattle.std.proofs.Common.{◌≡◌, ℕ, ◌+◌, Bool, true, false, cond, List, [], ◌∷◌, Option, Some, None, refl, sym, ◌∙◌, subst}
use Rattle.std.specs.List.{AllByRecursion}
use Rattle.std.specs.Ordering.{eq_by_cmp}
use Rattle.gnb_types.specs.declared.names.Gnb.{Gnb}
use Rattle.gnb_types.specs.declared.names.NodeId.{NodeId}
use Rattle.gnb_types.specs.declared.names.NodeId.TheVariants.{CuCp, CuUp as up_id, Du as du_id, Core, Ue}
use Rattle.gnb_types.specs.declared.names.UeId.{UeId}
use Rattle.gnb_types.specs.declared.names.BearerId.{BearerId}
use Rattle.gnb_types.specs.declared.plans.Plan.{Plan}
use Rattle.gnb_types.specs.declared.plans.Tunnel.{Tunnel}
use Rattle.gnb_types.specs.declared.inputs.Order.TheVariants as orders
use Rattle.gnb_types.specs.Orders.{ue_cmp}
use Rattle.gnb_types.proofs.OrderLemmas.{ue_total, ue_exact}
use Rattle.tables.specs.Tables.{find, put}
use Rattle.tables.proofs.TableLaws.{find-put}
use Rattle.message_types.specs.declared.rrc.Token.{Token}
use Rattle.message_types.specs.declared.f1.F1.TheVariants as f1s
use Rattle.message_types.specs.declared.e1.E1Message.TheVariants as e1s
use Rattle.scenario_text.specs.declared.event.Event.{Event}
use Rattle.transport_defs.specs.declared.ControlMessage.{ControlMessage}
use Rattle.unit_defs.specs.Ways.{Message, f1, e1, Pdu, Load, Put, control, packet, radio, deliver, dropped, held, opened, closed, failed, no, Input, control_input, packet_input, radio_input, confirm_input, offer_input, tick_input, order_input, Answer, gives, spent}
use Rattle.unit_defs.specs.Transactions.{kind_of}
use Rattle.unit_defs.specs.CuUpRecords.{CuUpBearer, CuUpContext, CuUp}
use Rattle.unit_defs.specs.CuUpBearers.{made}
use Rattle.unit_defs.specs.CuUp.{bearers_from, bearers_made, cu_up_acts}
use Rattle.unit_defs.specs.Du.{DuContext, Du, bearers_made as du_bearers, du_acts}
use Rattle.unit_defs.specs.Ue.{UeNode, ue_acts}
use Rattle.unit_defs.specs.CuCpRecords.{CuCpTerminal, CuCpRecord}
use Rattle.unit_defs.specs.CuCp.{cu_cp_acts}
use Rattle.unit_defs.specs.Core.{CorePath, CoreRecord}
use Rattle.unit_defs.specs.Static.{with_downlinks, cu_up_context, cu_up_placed, uplinks_from, du_context, du_placed, cu_cp_context, cu_cp_placed}
use Rattle.run_defs.specs.Written.{Written}
use Rattle.run_defs.specs.States.{State, new_state}
use Rattle.run_defs.specs.Runs.{Reading, plain_way, plain_world}
use Rattle.proof_run_steps.specs.steps.Reached.{reached}
use Rattle.proof_run_steps.specs.facts.Facts.{PutFits, PutsFit}
use Rattle.proof_run_steps.specs.facts.UnitFacts.{UnitFacts, as_facts, InputFits, AnswerFits, UnitsKeep}
use Rattle.proof_run_steps.proofs.facts.Plain.{plain_run_holds}
use Rattle.proof_unit_steps.specs.tunnel_names.Names.{Owners, Names, Property, InputNames, OutputNames, OutputsName, AnswerNames}
use Rattle.proof_unit_steps.specs.tunnel_names.CuCps.{TerminalNames, PathNames, CuCpNames, CoreNames}
use Rattle.proof_unit_steps.proofs.tunnel_names.CuCps.{cu_cp_names}
use Rattle.proof_unit_steps.proofs.tunnel_names.Cores.{core_names}
use Rattle.proof_unit_steps.specs.tunnels.Units.{Each, BearerNames, BearerHolds, UplinkNames, CuUpHolds, DuHolds, CuUpNames, DuNames, AnswerIf}
use Rattle.proof_unit_steps.proofs.packets.Keyed.{keyed_put}
use Rattle.proof_unit_steps.proofs.tunnels.CuUps.{cu_up_names}
use Rattle.proof_unit_steps.proofs.tunnels.Dus.{du_names}
use Rattle.proof_unit_steps.proofs.tunnels.Terminals.{terminal_keeps}
use Rattle.proof_run_steps.specs.answerers.Answerers.{AnswersOwn, AllAnswerOwn}

-- any TEID may be named for any, and any terminal's numbers may have any length
abbrev pub any : Owners
any = record {
  up = λ gnb number kind ue bearer teid. Unit {0};
  du = λ gnb number ue bearer teid. Unit {0};
  length = λ ue sn. Unit {0};
}

abbrev pub Any : Property {M = Message Token} {C = Token} {P = Pdu} plain_way
Any = record {
  owners = any;
  says = λ from message. Names any from message;
  spells = λ from message p. p;
  passes = λ from container. tt;
}

all_free : {X : Type 0} (xs : List X) → AllByRecursion (λ (x : X). Unit {0}) xs
all_free [] = tt
all_free (x ∷ xs) = (tt, all_free xs)

abbrev pub AnyNames : UnitFacts
AnyNames = record {
  up = λ g n r. CuUpNames Any g n r;
  du = λ g n r. DuNames Any g n r;
  cp = λ g r. CuCpNames Any g r;
  ue = λ ue x. Unit {0};
  core = λ r. CoreNames Any r;
  control_message = λ l. Names any l.from l.message;
  puts_on = λ node end item. Unit {0};
  puts_on_air = λ node key item. Unit {0};
  on_tunnel = λ end item. Unit {0};
  on_radio = λ key item. Unit {0};
  stands = λ node end item p. tt;
  stands_on_air = λ node key item p. tt;
}

-- ---- what is put, and what is given

put_fits : (node : NodeId) (taken : Option ℕ) (o : Put (Message Token) (Load Pdu) Pdu) → OutputNames Any node o → PutFits (as_facts AnyNames) node taken o
put_fits node taken (control to ue message) p = p
put_fits node taken (packet to teid ue bearer dir tag load) p = tt
put_fits node taken (radio ue bearer dir epoch tag pdu) p = tt
put_fits node taken (deliver ue bearer dir count x) p = tt
put_fits node taken (dropped reason) p = tt
put_fits node taken (held reason) p = tt
put_fits node taken (opened teid) p = tt
put_fits node taken (closed teid) p = tt
put_fits node taken (failed ue cause) p = tt
put_fits node taken (no reason) p = tt

puts_fit : (node : NodeId) (taken : Option ℕ) (os : List (Put (Message Token) (Load Pdu) Pdu)) → OutputsName Any node os → PutsFit (as_facts AnyNames) node taken os
puts_fit node taken [] p = tt
puts_fit node taken (o ∷ os) p = (put_fits node taken o p.0, puts_fit node taken os p.1)

names_fit : {R : Type 0} (Q : R → Type 0) (node : NodeId) (taken : Option ℕ) (a : Answer (Message Token) Pdu R) → AnswerNames Any Q node a
    → AnswerFits AnyNames Q node taken a
names_fit Q node taken (gives os r) p = (p.0, puts_fit node taken os p.1)
names_fit Q node taken (spent counter) p = tt

if_fit : {R : Type 0} (Holds Q : R → Type 0) (node : NodeId) (taken : Option ℕ) (a : Answer (Message Token) Pdu R) → ((r : R) → Holds r)
    → AnswerIf Any Holds Q node a → AnswerFits AnyNames Q node taken a
if_fit Holds Q node taken (gives os r) all p = let h = p (all r) in (h.0, puts_fit node taken os h.1)
if_fit Holds Q node taken (spent counter) all p = tt

given_names : (node : NodeId) (taken : Option ℕ) (input : Input Token Pdu) → InputFits AnyNames node taken input → InputNames Any input
given_names node taken (control_input from m) p = p.1
given_names node taken (packet_input teid item) p = tt
given_names node taken (radio_input ue bearer dir pdu content) p = tt
given_names node taken (confirm_input ue bearer dir pdu content) p = tt
given_names node taken (offer_input ue bearer x) p = tt
given_names node taken tick_input p = tt
given_names node taken (order_input (orders.Attach plan)) p = tt
given_names node taken (order_input order) p = tt

up_holds : (g : Gnb) (n : ℕ) (r : CuUp (Message Token) Token) → CuUpHolds any g n r
up_holds g n r ue c there = by c.bearers
  where
    by : (es : List (BearerId × CuUpBearer)) → Each (BearerHolds any g n ue) es
    by [] = tt
    by (e ∷ es) = (
      record {
        paths = all_free _;
        uplinks = all_free e.1.uplinks;
        down = all_free _;
        up = all_free _;
      },
      by es,
    )

du_holds : (g : Gnb) (n : ℕ) (r : Du (Message Token) Token) → DuHolds any g n r
du_holds g n r ue c there = all_free c.bearers

-- ---- terminals that are set up without messages

abbrev served : Plan → CuCpTerminal
served plan = record { context = Some (cu_cp_context plan); taken = None }

abbrev path_of : Plan → List Tunnel → CorePath
path_of plan ts = record { up = up_id plan.gnb plan.up; n3 = ts }

placed_bearers : (ue : UeId) (gnb : Gnb) (du teid first : ℕ) (bs : List BearerId)
    → Each (BearerNames any ue) (with_downlinks gnb du teid (bearers_made false first bs))
unfolding made
placed_bearers ue gnb du teid first [] = tt
placed_bearers ue gnb du teid first (b ∷ bs) = ((tt, tt), placed_bearers ue gnb du (teid + 1) (first + 2) bs)

placed_uplinks : (ue : UeId) (gnb : Gnb) (up next : ℕ) (ts : List Tunnel) → Each (UplinkNames any ue) (du_bearers (up_id gnb up) next ts)
placed_uplinks ue gnb up next [] = tt
placed_uplinks ue gnb up next (t ∷ ts) = (tt, placed_uplinks ue gnb up (next + 1) ts)

up_placed_names : (r : CuUp (Message Token) Token) (plan : Plan) (downlink : ℕ) → CuUpNames Any plan.gnb plan.up r → CuUpNames Any plan.gnb plan.up (cu_up_placed r plan downlink)
unfolding cu_up_placed
up_placed_names r plan downlink p = record {
  own = p.own;
  contexts = keyed_put ue_cmp ue_exact (λ (ue : UeId) (c : CuUpContext). Each (BearerNames any ue) c.bearers) r.contexts plan.ue (cu_up_context r plan downlink) p.contexts
      (placed_bearers plan.ue r.gnb plan.du downlink r.next_teid (bearers_from 1 plan.bearers));
  lengths = keyed_put ue_cmp ue_exact (λ (ue : UeId) (c : CuUpContext). Unit {0}) r.contexts plan.ue (cu_up_context r plan downlink) p.lengths tt;
  kept = p.kept;
}

du_placed_names : (r : Du (Message Token) Token) (plan : Plan) (uplink : ℕ) → DuNames Any plan.gnb plan.du r → DuNames Any plan.gnb plan.du (du_placed r plan uplink)
unfolding du_placed
du_placed_names r plan uplink p = record {
  own = p.own;
  uplinks = keyed_put ue_cmp ue_exact (λ (ue : UeId) (c : DuContext). Each (UplinkNames any ue) c.bearers) r.contexts plan.ue (du_context r plan uplink) p.uplinks
      (placed_uplinks plan.ue r.gnb plan.up r.next_teid (uplinks_from uplink (bearers_from 1 plan.bearers)));
  lengths = keyed_put ue_cmp ue_exact (λ (ue : UeId) (c : DuContext). Unit {0}) r.contexts plan.ue (du_context r plan uplink) p.lengths tt;
  kept = p.kept;
}

cp_placed_names : (r : CuCpRecord (Message Token) Token) (plan : Plan) → CuCpNames Any plan.gnb r → CuCpNames Any plan.gnb (cu_cp_placed r plan)
unfolding cu_cp_placed
cp_placed_names r plan p = record {
  own = p.own;
  terminals = λ ue t e. by ue t (eq_by_cmp ue_cmp ue plan.ue)
      (sym (find-put ue_total r.terminals plan.ue (served plan) ue) ∙ e);
  kept = p.kept;
}
  where
    by : (ue : UeId) (t : CuCpTerminal) (b : Bool) → cond b (Some (served plan)) (find ue_cmp r.terminals ue) ≡ Some t
        → TerminalNames Any plan.gnb ue t.context
    by ue t true e =
        let those : served plan ≡ t = cc in
        subst (λ (x : CuCpTerminal). TerminalNames Any plan.gnb ue x.context) those tt
    by ue t false e = p.terminals ue t e

path_names : (r : CoreRecord (Message Token) Token) (plan : Plan) (ts : List Tunnel) → CoreNames Any r
    → CoreNames Any (record r { paths = put ue_cmp r.paths plan.ue (record { up = up_id plan.gnb plan.up; n3 = ts }) })
path_names r plan ts p = record {
  paths = λ ue path e. by ue path (eq_by_cmp ue_cmp ue plan.ue) (sym (find-put ue_total r.paths plan.ue (path_of plan ts) ue) ∙ e);
  kept = p.kept;
}
  where
    by : (ue : UeId) (path : CorePath) (b : Bool) → cond b (Some (path_of plan ts)) (find ue_cmp r.paths ue) ≡ Some path
        → PathNames Any ue path
    by ue path true e =
        let those : path_of plan ts ≡ path = cc in
        subst (λ (x : CorePath). PathNames Any ue x) those (all_free ts)
    by ue path false e = p.paths ue path e

-- ---- all that is asked

pub any_kept : UnitsKeep AnyNames
unfolding find
any_kept = record {
  ups_act = λ g n r taken input p fits. if_fit (CuUpHolds any g n) (CuUpNames Any g n) (up_id g n) taken (cu_up_acts plain_way r input) (up_holds g n)
      (cu_up_names Any (record { up = λ g n kind ue bearer. tt; du = λ g n ue bearer. tt }) g n r input (given_names (up_id g n) taken input fits) p);
  dus_act = λ g n r taken input p fits. if_fit (DuHolds any g n) (DuNames Any g n) (du_id g n) taken (du_acts plain_way r input) (du_holds g n)
      (du_names Any g n r input (given_names (du_id g n) taken input fits) p);
  cps_act = λ g r taken input p fits. names_fit (CuCpNames Any g) (CuCp g) taken (cu_cp_acts plain_way r input)
      (cu_cp_names Any g r input (given_names (CuCp g) taken input fits) p);
  ues_act = λ ue x taken input p fits. names_fit (λ (y : UeNode). Unit {0}) (Ue ue.0) taken (ue_acts plain_way x input) (terminal_keeps Any (Ue ue.0) x input tt);
  core_acts = λ r from message p fits. names_fit (CoreNames Any) Core None _ (core_names Any r from message fits.1 p);
  lays = λ r ue bearer x path h found. tt;
  comes = λ plan. tt;
  places_ue = λ plan. tt;
  places_up = λ r plan downlink room teids p. up_placed_names r plan downlink p;
  places_du = λ r plan uplink teids p. du_placed_names r plan uplink p;
  places_cp = λ r plan p. cp_placed_names r plan p;
  places_path = λ r plan ts p. path_names r plan ts p;
  sets_up = λ g n r p. record { own = p.own; contexts = p.contexts; lengths = p.lengths; kept = p.kept };
  sets_du = λ g n r p. record { own = p.own; uplinks = p.uplinks; lengths = p.lengths; kept = p.kept };
  sets_cp = λ g r p. record { own = p.own; terminals = p.terminals; kept = p.kept };
  first_up = λ g n. record { own = refl; contexts = tt; lengths = tt; kept = record { opened = tt; waiting = tt; replies = tt } };
  first_du = λ g n. record { own = refl; uplinks = tt; lengths = tt; kept = record { opened = tt; waiting = tt; replies = tt } };
  first_cp = λ g. record { own = refl; terminals = λ ue t e. absurd cc; kept = record { opened = tt; waiting = tt; replies = tt } };
  first_core = record { paths = λ ue path e. absurd cc; kept = record { opened = tt; waiting = tt; replies = tt } };
}

own_answer : (from : NodeId) (m : Message Token) → Names any from m → AnswersOwn from m
unfolding kind_of
own_answer (du_id g n) (f1 (f1s.UeContextSetupResponse ue i list)) p = tt
own_answer from (f1 (f1s.UeContextSetupResponse ue i list)) p = absurd p
own_answer (du_id g n) (f1 (f1s.UeContextModificationResponse ue i list)) p = tt
own_answer from (f1 (f1s.UeContextModificationResponse ue i list)) p = absurd p
own_answer (up_id g n) (e1 (e1s.BearerContextSetupResponse ue i uplinks paths down up)) p = tt
own_answer from (e1 (e1s.BearerContextSetupResponse ue i uplinks paths down up)) p = absurd p.0
own_answer from m p = tt

all_own : (ls : List (ℕ × ControlMessage (Message Token))) → AllByRecursion (λ (e : ℕ × ControlMessage (Message Token)). Names any e.1.from e.1.message) ls → AllAnswerOwn ls
all_own [] p = tt
all_own (e ∷ es) p = (own_answer e.1.from e.1.message p.0, all_own es p.1)

pub all_answer_own : (reading : Reading) (events : List Event) (t : State (Message Token) Token (Written (Load Pdu)) (Written Pdu))
    → reached (plain_world reading) events new_state ≡ Some t → AllAnswerOwn t.bag.control_messages
all_answer_own reading events t is = all_own t.bag.control_messages (plain_run_holds AnyNames any_kept reading events t is).control_messages
