-- The run of a script: each event by its name, one after another; and `Run`, in which items carry their COUNTs in full, and control
-- messages are what they say.
use Rattle.std.specs.Prelude.{ℕ, Bool, true, false, List, [], ◌∷◌, map, Option, Some, None}
use Rattle.std.specs.List.{flat_map}
use Rattle.gnb_types.specs.declared.names.NodeId.{NodeId}
use Rattle.gnb_types.specs.declared.names.NodeId.TheVariants.{CuCp, CuUp, Du, Core, Ue}
use Rattle.gnb_types.specs.declared.names.SnBits.{SnBits}
use Rattle.gnb_types.specs.declared.keys.TunnelEnd.{TunnelEnd}
use Rattle.gnb_types.specs.declared.reasons.DropReason.{DropReason}
use Rattle.gnb_types.specs.declared.reasons.DropReason.TheVariants.{Undecodable}
use Rattle.message_types.specs.declared.rrc.Token.{Token}
use Rattle.link_defs.specs.Decoding.{Link}
use Rattle.unit_defs.specs.Ways.{Message, rrc, Pdu, packet_pdu, report_pdu, Content, packet_content, report_content, Load, fresh, numbered, frame, uplink, status, end_marker, Taken, fresh_item, numbered_item, frame_item, uplink_item, status_item, end_item, Input, control_input, packet_input, radio_input, confirm_input, offer_input, tick_input, order_input, dropped, Way, Answer, gives, spent}
use Rattle.unit_defs.specs.octet_defs.Writing.{load_octets}
use Rattle.unit_defs.specs.octet_defs.Reading.{up_link, du_link}
use Rattle.unit_defs.specs.CuCp.{cu_cp_acts}
use Rattle.unit_defs.specs.CuUp.{cu_up_acts}
use Rattle.unit_defs.specs.Du.{du_acts}
use Rattle.unit_defs.specs.Ue.{UeNode, ue_acts}
use Rattle.unit_defs.specs.Core.{CoreRecord, core_acts}
use Rattle.scenario_text.specs.declared.event.Event.{Event}
use Rattle.scenario_text.specs.declared.event.Event.TheVariants as events
use Rattle.run_defs.specs.Lines.{RunLine}
use Rattle.run_defs.specs.Units.{Units, cu_cp_of, with_cu_cp, cu_up_of, with_cu_up, du_of, with_du, ue_of, with_ue}
use Rattle.run_defs.specs.States.{State, new_state, Lengths, Given, control_message_for, item_for, carried_for, confirmed_for, offer_for, tick_for, order_for, octets_from, octets_on, stepped, step_spent, core_stepped, World, Stop, goes, stops, Outcome, RunStep, entity}
use Rattle.run_defs.specs.Written.{Written, written_put, PlainStepped, WrittenStepped, WrittenCoreStepped, written_step}
use Rattle.run_defs.specs.Events.{static, start, attach, offer, get, air, ack, give, lose_message, lose_item, pump, tick, poll, fail, arrive, come_back, handover, cancel, release, ask, inject_message, inject_item}
use Rattle.run_defs.specs.Settling.{settle}

-- ---- a transcript: the events with their steps, and why the run stopped, if it did

pub record Happened (M : Type 0) : Type 0 where
  pub event : Event
  pub steps : List (RunStep M)

pub record Transcript (M : Type 0) : Type 0 where
  pub events : List (Happened M)
  pub stop : Option Stop

abbrev pub event_before : {M : Type 0} → Event → List (RunStep M) → Transcript M → Transcript M
event_before event steps t = record t { events = record { event = event; steps = steps } ∷ t.events }

-- the lines of an event, after its own
abbrev pub lines_of : {M : Type 0} → Happened M → List (RunLine M)
lines_of h = flat_map (λ step. step.lines) h.steps

-- ---- events

module _ {M C L P : Type 0} (world : World M C L P) where
  abbrev pub tunnel_end : NodeId → ℕ → TunnelEnd
  tunnel_end node teid = record { node = node; teid = teid }

  unfoldable pub happens : Event → State M C L P → Outcome M C L P
  happens (events.Static plan) = static world plan
  happens events.Start = start world
  happens (events.Attach plan) = attach world plan
  happens (events.Offer ue bearer dir packet) = offer world ue bearer dir packet
  happens (events.Get end teid) = get world (tunnel_end end teid)
  happens (events.Air ue bearer dir) = air world (entity ue bearer dir)
  happens (events.Ack ue bearer dir) = ack world (entity ue bearer dir)
  happens (events.Give message) = give world message
  happens (events.LoseMessage message) = lose_message world message
  happens (events.LoseItem end teid) = lose_item world (tunnel_end end teid)
  happens (events.Poll ue bearer) = poll world ue bearer
  happens events.Pump = pump world
  happens events.Tick = tick world
  happens (events.Fail ue) = fail world ue
  happens (events.Arrive ue) = arrive world ue
  happens (events.Return ue) = come_back world ue
  happens (events.Handover ue gnb up du) = handover world ue gnb up du
  happens (events.Cancel ue) = cancel world ue
  happens (events.Release ue) = release world ue
  happens (events.Ask ue bearer) = ask world ue bearer
  happens events.Settle = settle world
  happens (events.InjectMessage from to octets) = inject_message world from to octets
  happens (events.InjectItem end teid octets) = inject_item world (tunnel_end end teid) octets

  -- ---- a script: each event, up to the one at which the run stops

  abbrev pub run_on : Event → (State M C L P → Transcript M) → Outcome M C L P → Transcript M
  run_on event more (goes steps after) = event_before event steps (more after)
  run_on event more (stops steps why) = event_before event steps (record { events = []; stop = Some why })

  unfoldable pub run_from : List Event → State M C L P → Transcript M
  run_from [] s = record { events = []; stop = None }
  run_from (event ∷ events) s = run_on event (run_from events) (happens event s)

  unfoldable pub run : List Event → Transcript M
  run events = run_from events new_state

-- ---- the link of a tunnel, as its end's record has it

abbrev pub link_of_teid : {M C : Type 0} → Units M C → NodeId → ℕ → Option (Link × SnBits)
link_of_teid units (CuUp gnb number) teid = up_link (cu_up_of units gnb number) teid
link_of_teid units (Du gnb number) teid = du_link (du_of units gnb number) teid
link_of_teid units node teid = None

abbrev pub link_at : {M C : Type 0} → Units M C → TunnelEnd → Option (Link × SnBits)
link_at units end = link_of_teid units end.node end.teid

abbrev pub is_item_on : (Link → SnBits → List ℕ → Bool) → Option (Link × SnBits) → List ℕ → Bool
is_item_on is_item None octets = false
is_item_on is_item (Some on) octets = is_item on.0 on.1 octets

-- ---- Run: messages and items as what they say

abbrev pub number_in : SnBits → Pdu → Option ℕ
number_in sn (packet_pdu count packet) = Some count
number_in sn (report_pdu fmc bits) = None

abbrev pub plain_way : Way (Message Token) Token Pdu
plain_way = record {
  encode = λ m. m;
  wrap = λ token. token;
  unwrap = λ token. Some token;
  pass = λ token. rrc token;
  write = λ sn pdu. pdu;
  number = number_in;
}

abbrev pub content_of : Pdu → Content
content_of (packet_pdu count packet) = packet_content (Some count) packet
content_of (report_pdu fmc bits) = report_content fmc bits

abbrev pub taken_of : Load Pdu → Taken Pdu
taken_of (fresh packet) = fresh_item packet
taken_of (numbered sn count packet) = numbered_item (Some count) packet
taken_of (frame poll restart number pdu) = frame_item poll restart number pdu
taken_of (uplink pdu) = uplink_item (content_of pdu)
taken_of (status lost delivered) = status_item lost delivered
taken_of end_marker = end_item

abbrev pub PlainGiven : Type 0
PlainGiven = Given (Message Token) (Written (Load Pdu)) (Written Pdu)

-- octets from outside are what a unit ignores, for the reason that they have
abbrev pub Plain : Type 0 → Type 0
Plain R = Answer (Message Token) Pdu R

-- what octets from outside are: why they are no message, and whether they are an item of a tunnel
pub record Reading : Type 0 where
  pub message_fault : NodeId → NodeId → List ℕ → Option DropReason
  pub is_item : Link → SnBits → List ℕ → Bool

module _ (reading : Reading) where
  abbrev pub input_of : PlainGiven → Option (Input Token Pdu)
  input_of (control_message_for from message) = Some (control_input from message)
  input_of (item_for teid item) = Some (packet_input teid (taken_of item.content.says))
  input_of (carried_for item) = Some (radio_input item.key.ue item.key.bearer item.key.dir item.content.says (content_of item.content.says))
  input_of (confirmed_for item) = Some (confirm_input item.key.ue item.key.bearer item.key.dir item.content.says (content_of item.content.says))
  input_of (offer_for ue bearer packet) = Some (offer_input ue bearer packet)
  input_of tick_for = Some tick_input
  input_of (order_for order) = Some (order_input order)
  input_of (octets_from from octets) = None
  input_of (octets_on teid octets) = None

  abbrev pub fault_in : Option DropReason → DropReason
  fault_in None = Undecodable
  fault_in (Some reason) = reason

  abbrev pub fault_of : NodeId → PlainGiven → DropReason
  fault_of node (octets_from from octets) = fault_in (reading.message_fault from node octets)
  fault_of node given = Undecodable

  abbrev pub stepped_with : {R : Type 0} → (R → Units (Message Token) Token) → Plain R → PlainStepped
  stepped_with back (gives outputs after) = stepped outputs (back after)
  stepped_with back (spent counter) = step_spent counter

  abbrev pub ue_stepped : Units (Message Token) Token → ℕ → Input Token Pdu → Option UeNode → PlainStepped
  ue_stepped units ue input None = stepped [] units
  ue_stepped units ue input (Some u) = stepped_with (with_ue units (record { 0 = ue })) (ue_acts plain_way u input)

  abbrev pub acts_on : Units (Message Token) Token → NodeId → Input Token Pdu → PlainStepped
  acts_on units (CuCp gnb) input = stepped_with (with_cu_cp units gnb) (cu_cp_acts plain_way (cu_cp_of units gnb) input)
  acts_on units (CuUp gnb number) input = stepped_with (with_cu_up units gnb number) (cu_up_acts plain_way (cu_up_of units gnb number) input)
  acts_on units (Du gnb number) input = stepped_with (with_du units gnb number) (du_acts plain_way (du_of units gnb number) input)
  acts_on units (Ue ue) input = ue_stepped units ue input (ue_of units (record { 0 = ue }))
  acts_on units Core input = stepped [] units

  abbrev pub plain_by : Units (Message Token) Token → NodeId → PlainGiven → Option (Input Token Pdu) → PlainStepped
  plain_by units node given None = stepped (dropped (fault_of node given) ∷ []) units
  plain_by units node given (Some input) = acts_on units node input

  abbrev pub plain_answer : Lengths → Units (Message Token) Token → NodeId → PlainGiven → WrittenStepped
  plain_answer sn units node given = written_step sn (plain_by units node given (input_of given))

  abbrev pub core_done : Lengths → CoreRecord (Message Token) Token → Plain (CoreRecord (Message Token) Token) → WrittenCoreStepped
  core_done sn r (gives outputs after) = core_stepped (map (written_put sn) outputs) after
  core_done sn r (spent counter) = core_stepped [] r

  abbrev pub plain_core : Lengths → CoreRecord (Message Token) Token → PlainGiven → WrittenCoreStepped
  plain_core sn r (control_message_for from message) = core_done sn r (core_acts plain_way r from message)
  plain_core sn r given = core_stepped (dropped (fault_of Core given) ∷ []) r

  abbrev pub is_none_fault : Option DropReason → Bool
  is_none_fault None = true
  is_none_fault (Some reason) = false

  abbrev pub plain_world : World (Message Token) Token (Written (Load Pdu)) (Written Pdu)
  plain_world = record {
    answer = plain_answer;
    core_answer = plain_core;
    lay_n3 = λ teid packet. record { says = fresh packet; octets = load_octets teid (fresh packet) };
    is_message = λ from to octets. is_none_fault (reading.message_fault from to octets);
    is_item = λ units end octets. is_item_on (reading.is_item) (link_at units end) octets;
    show_item = λ item. item.octets;
    show_pdu = λ pdu. pdu.octets;
  }

  unfoldable pub Run : List Event → Transcript (Message Token)
  Run events = run plain_world events
