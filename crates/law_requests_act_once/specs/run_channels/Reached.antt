-- A run's control is the result of a list of orders on channels, each made when it may be: what each node keeps of requests and
-- replies, and all control messages that were put, are those after these orders.
use Rattle.std.specs.Prelude.{◌≡◌, ◌<◌, ◌+◌, ℕ, true, false, List, [], map, Some, None}
use Rattle.std.specs.List.{Contains}
use Rattle.gnb_types.specs.declared.names.Gnb.{Gnb}
use Rattle.gnb_types.specs.declared.names.NodeId.{NodeId}
use Rattle.gnb_types.specs.declared.names.NodeId.TheVariants.{CuCp, CuUp, Du, Core, Ue}
use Rattle.gnb_types.specs.declared.names.UeId.{UeId}
use Rattle.gnb_types.specs.declared.plans.Plan.{Plan}
use Rattle.gnb_types.specs.declared.plans.Tunnel.{Tunnel}
use Rattle.gnb_types.specs.Orders.{ue_cmp}
use Rattle.tables.specs.Tables.{put}
use Rattle.message_types.specs.declared.rrc.Token.{Token}
use Rattle.transaction_defs.specs.Callers.{Opened, opened_at}
use Rattle.transaction_defs.specs.Callees.{newest, kept_reply}
use Rattle.unit_defs.specs.declared.StateName.TheVariants as states
use Rattle.unit_defs.specs.Ways.{Message, Pdu, Load, Put as UnitPut}
use Rattle.unit_defs.specs.Messages.{channel, other_gnb}
use Rattle.unit_defs.specs.Transactions.{request, kind_of, Transactions, no_transactions}
use Rattle.unit_defs.specs.CuCpRecords.{Attempt, CuCpContext, CuCpRecord, terminal_of}
use Rattle.unit_defs.specs.Core.{CoreRecord, new_core}
use Rattle.unit_defs.specs.Ue.{new_ue}
use Rattle.transport_defs.specs.declared.ControlMessage.{ControlMessage}
use Rattle.run_defs.specs.Units.{Units, new_units, cu_cp_of, cu_up_of, du_of, with_ue}
use Rattle.run_defs.specs.States.{Lengths, stepped, core_stepped}
use Rattle.run_defs.specs.Written.{Written}
use Rattle.run_defs.specs.Conditions.{is_held_by_units, units_placed, all_set_up}
use Rattle.run_defs.specs.Runs.{Reading, PlainGiven, plain_way, plain_answer, plain_core}
use Rattle.law_requests_act_once.specs.channel.Replies.{Talk, answers, overtakes, is_preparation}
use Rattle.law_requests_act_once.specs.channel.Ends.{Route, at_initiator, at_responder, asking_at, answering_at, Act, Ends, Sent, asked, told, Put, Once}
use Rattle.law_requests_act_once.specs.channel.Exactly.{Descends, IsAnswered}
use Rattle.law_requests_act_once.specs.channel.Moves.{new_net, Order, after, MayAll}
use Rattle.law_requests_act_once.specs.channel_rows.IsPlayed.{NoneExpired}
use Rattle.law_requests_act_once.specs.channel_rows.Assumed.{Cancels}
use Rattle.proof_run_steps.specs.control.Control.{Control, control_messages_in, with_control_messages, WasPut}

abbrev pub PlainControl : Type 0
PlainControl = Control (Message Token) Token

abbrev pub PlainControlMessage : Type 0
PlainControlMessage = ControlMessage (Message Token)

abbrev pub PlainCp : Type 0
PlainCp = CuCpRecord (Message Token) Token

-- messages of the run are what they say
abbrev pub run_talk : Talk (Message Token) Token Pdu
run_talk = record { way = plain_way; kind = kind_of; answers = answers; overtakes = overtakes }

-- what each node keeps of requests and replies; a terminal keeps none
abbrev pub kept_by : PlainControl → NodeId → Transactions (Message Token) Token
kept_by k (CuCp gnb) = (cu_cp_of k.units gnb).transactions
kept_by k (CuUp gnb number) = (cu_up_of k.units gnb number).transactions
kept_by k (Du gnb number) = (du_of k.units gnb number).transactions
kept_by k Core = k.core.transactions
kept_by k (Ue ue) = no_transactions

abbrev pub as_sent : PlainControlMessage → Sent (Message Token)
as_sent l = record { from = l.from; to = l.to; ue = l.ue; message = l.message }

abbrev pub sent_of : PlainControl → List (Sent (Message Token))
sent_of k = map as_sent k.control_messages

-- Orders lead to what is kept and to what was put; and no request expired without its cancel.
pub record ComesOf (k : PlainControl) (orders : List (Order run_talk)) : Type 0 where
  pub may : MayAll run_talk new_net orders
  pub nodes : (n : NodeId) → (after run_talk new_net orders).nodes n ≡ kept_by k n
  pub bag : (after run_talk new_net orders).bag ≡ sent_of k
  pub none : (n : NodeId) → NoneExpired run_talk (after run_talk new_net orders) n

-- All of a channel: what its two ends keep, and the requests on which the responder acted, the newest first.
abbrev pub ends_in : PlainControl → (Route → List (Act (Message Token))) → Route → Ends (Message Token) Token
ends_in k acts r = record {
  asking = asking_at (kept_by k r.from) (at_initiator r);
  answering = answering_at (kept_by k r.to) (at_responder r);
  acts = acts r;
  expired = false;
}

-- What holds of each channel, for the requests on which its responder acted.
pub record AreExact (k : PlainControl) : Type 0 where
  pub acts : Route → List (Act (Message Token))
  -- the eleven facts
  pub once : (r : Route) → Once run_talk (ends_in k acts r) (Put run_talk (sent_of k) r)
  -- the responder acted on each request at most once, in the order of issue; one that is passed over is passed over by a cancel
  pub in_order : (r : Route) → Descends (acts r)
  pub only_cancels : (r : Route) (i : ℕ) (x : Message Token) → Put run_talk (sent_of k) r (asked i x)
      → (ends_in k acts r).answering.newest + 1 < i → overtakes x ≡ true
  -- where a reply to the open request was put, the responder acted on that request last, and keeps this reply, which answers it
  pub answered : (r : Route) (o : Opened (Message Token)) (y : Message Token) → opened_at (kept_by k r.from).caller (at_initiator r) ≡ Some o
      → Put run_talk (sent_of k) r (told o.instance y) → IsAnswered run_talk (ends_in k acts r) (Put run_talk (sent_of k) r) o.instance y

-- ---- what is asked of CU-CPs

-- A request for a handover stands open at its target: it is the newest that it took, unanswered, and it was put to it.
pub record IsOpenOffer (gnb : Gnb) (r : PlainCp) (control_messages : List PlainControlMessage) (ue : UeId) (a : Attempt) : Type 0 where
  pub is_newest : newest r.transactions.callee (channel ue.0 (CuCp (other_gnb gnb))) ≡ Some a.instance
  pub is_unanswered : kept_reply r.transactions.callee (channel ue.0 (CuCp (other_gnb gnb))) ≡ None
  pub owner : ℕ
  pub message : Message Token
  pub was_put : Contains control_messages (record { from = CuCp (other_gnb gnb); to = CuCp gnb; ue = owner; message = message })
  pub is_request : kind_of message ≡ request ue.0 a.instance
  pub fits : (answer : Message Token) → is_preparation answer ≡ true → answers message answer ≡ true

abbrev pub OffersAreOpen : Gnb → PlainCp → List PlainControlMessage → Type 0
OffersAreOpen gnb r control_messages =
    (ue : UeId) (c : CuCpContext) (a : Attempt) → (terminal_of r ue).context ≡ Some c → c.attempt ≡ Some a → c.state ≡ states.Offered
    → IsOpenOffer gnb r control_messages ue a

-- What the rows ask of the two CU-CPs: offers are open, and what expires at a tick can be cancelled.
abbrev pub CpsFit : PlainControl → Type 0
CpsFit k =
    (gnb : Gnb) → ((cu_cp_of k.units gnb).gnb ≡ gnb) × OffersAreOpen gnb (cu_cp_of k.units gnb) k.control_messages × Cancels (cu_cp_of k.units gnb)

-- What steps lead to: from the first state, by what units and the core do with what was put to them, in any order and at any time,
-- terminals that come, and those that are set up without messages. All that a run passes through is of these.
abbrev pub first_control : PlainControl
first_control = record { units = new_units; core = new_core; control_messages = [] }

pub data IsPassed (reading : Reading) : PlainControl → Type 0 where
  at_first : IsPassed reading first_control
  by_answer : (lengths : Lengths) (k : PlainControl) (v : Units (Message Token) Token) (node : NodeId) (given : PlainGiven)
      (outputs : List (UnitPut (Message Token) (Written (Load Pdu)) (Written Pdu))) → IsPassed reading k → WasPut k.control_messages node given
      → plain_answer reading lengths k.units node given ≡ stepped outputs v → IsPassed reading (with_control_messages (record k { units = v }) (control_messages_in node outputs))
  by_coming : (k : PlainControl) (plan : Plan) → IsPassed reading k → IsPassed reading (record k { units = with_ue k.units plan.ue (new_ue plan) })
  by_placing : (k : PlainControl) (plan : Plan) (n3 : List Tunnel) → is_held_by_units plan k.units ≡ false → IsPassed reading k
      → IsPassed reading (record k {
        units = all_set_up (units_placed plan k.units);
        core = record k.core { paths = put ue_cmp k.core.paths plan.ue (record { up = CuUp plan.gnb plan.up; n3 = n3 }) };
      })
  by_core : (lengths : Lengths) (k : PlainControl) (q : CoreRecord (Message Token) Token) (given : PlainGiven)
      (outputs : List (UnitPut (Message Token) (Written (Load Pdu)) (Written Pdu))) → IsPassed reading k → WasPut k.control_messages Core given
      → plain_core reading lengths k.core given ≡ core_stepped outputs q → IsPassed reading (with_control_messages (record k { core = q }) (control_messages_in Core outputs))
