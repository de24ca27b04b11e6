-- The terminal: which input goes to which row, what it keeps, and the rows (TS 38.331, 5.3.5, 5.3.7; TS 38.323, 5.1.2, 5.2).
--
--   a command                  obey       it leaves its radio
--   order Arrive               arrive     it is connected at the DU of the command, and says so until it is accepted
--   order Return               come_back  it asks for re-establishment at its home DU, until it is accepted
--   accepted                   accept
--   order Fail                 fail       its radio is lost
--   an offered packet          offer      it waits, and is numbered and sent while it is connected
--   a PDU from the radio       take       it is delivered in order; a report confirms
--   a PDU that was confirmed   confirm
--   a tick                     tick       what it says, again
use Rattle.std.specs.Prelude.{◌==◌, ℕ, ◌+◌, ◌-◌, ◌^◌, Bool, true, false, not, ◌&&◌, nat_lt, nat_le, if◌then◌else◌, List, [], ◌∷◌, ◌++◌, length, map, Option, Some, None, suc, zero}
use Rattle.gnb_types.specs.declared.names.NodeId.{NodeId}
use Rattle.gnb_types.specs.declared.names.NodeId.TheVariants.{Du}
use Rattle.gnb_types.specs.declared.names.BearerId.{BearerId}
use Rattle.gnb_types.specs.declared.names.Dir.TheVariants.{Dl, Ul}
use Rattle.gnb_types.specs.declared.plans.Plan.{Plan}
use Rattle.gnb_types.specs.declared.reasons.DropReason.TheVariants.{Stale, NoContext, Duplicate, Unexpected}
use Rattle.gnb_types.specs.declared.reasons.HeldReason.TheVariants.{Ahead}
use Rattle.gnb_types.specs.declared.reasons.RefuseReason.TheVariants.{NotAccessing, NoHome, Busy, NoRadio, Size, Quota}
use Rattle.gnb_types.specs.declared.outputs.Tag.{Tag}
use Rattle.gnb_types.specs.declared.outputs.Tag.TheVariants.{Absent, Own}
use Rattle.gnb_types.specs.declared.inputs.Order.{Order}
use Rattle.gnb_types.specs.declared.inputs.Order.TheVariants as orders
use Rattle.gnb_types.specs.Orders.{bearer_cmp}
use Rattle.tables.specs.Tables.{find, put}
use Rattle.message_types.specs.declared.rrc.Token.{Token}
use Rattle.message_types.specs.declared.rrc.Token.TheVariants as tokens
use Rattle.pdcp.specs.Near.{last_count}
use Rattle.pdcp_defs.specs.Senders.{Sender, new_sender, numbered, has_room, confirmed_to, confirmed_by}
use Rattle.pdcp_defs.specs.Receivers.{Receiver, Delivery, new_receiver, is_duplicate, is_ahead, stored, deliver as handed_up, received_bits}
use Rattle.unit_defs.specs.declared.UeState.{UeState}
use Rattle.unit_defs.specs.declared.UeState.TheVariants as states
use Rattle.unit_defs.specs.declared.TokenKind.{TokenKind}
use Rattle.unit_defs.specs.declared.TokenKind.TheVariants as says
use Rattle.unit_defs.specs.Ways.{Message, rrc, packet_pdu, report_pdu, Content, packet_content, report_content, Input, control_input, radio_input, confirm_input, offer_input, tick_input, order_input, Output, control, radio, deliver, held, no, Way, Answer, gives, spent, ◌then◌, nothing, puts, drops, counts_spent, epochs_spent}

-- ---- the record

pub record UeBearer : Type 0 where
  pub sender : Sender (List ℕ)
  pub waiting : List (List ℕ)
  pub receiver : Receiver (List ℕ)

-- its home is the DU of its last connection, its goal that of the command that it obeys; the token that it repeats goes to its home,
-- with its epoch
pub record UeNode : Type 0 where
  pub plan : Plan
  pub state : UeState
  pub epoch : ℕ
  pub home : Option NodeId
  pub goal : Option NodeId
  pub token : Option TokenKind
  pub bearers : List (BearerId × UeBearer)

abbrev pub new_bearer : UeBearer
new_bearer = record { sender = new_sender 0; waiting = []; receiver = new_receiver 0 }

abbrev pub new_bearers : ℕ → ℕ → List (BearerId × UeBearer)
new_bearers i zero = []
new_bearers i (suc count) = (record { 0 = i }, new_bearer) ∷ new_bearers (i + 1) count

unfoldable pub new_ue : Plan → UeNode
new_ue plan = record {
  plan = plan;
  state = states.Idle;
  epoch = 0;
  home = None;
  goal = None;
  token = None;
  bearers = new_bearers 1 plan.bearers;
}

-- a terminal that was set up without messages is connected in epoch 1
unfoldable pub placed : UeNode → UeNode
placed u = record u { state = states.Connected; epoch = 1; home = Some (Du u.plan.gnb u.plan.du) }

abbrev pub last_epoch : ℕ
last_epoch = 2 ^ 32 - 1

abbrev pub largest_packet : ℕ
largest_packet = 2048

abbrev pub is_connected : UeState → Bool
is_connected states.Connected = true
is_connected state = false

abbrev pub is_accessing : UeState → Bool
is_accessing states.Accessing = true
is_accessing state = false

abbrev pub may_return : UeState → Bool
may_return states.Lost = true
may_return states.Accessing = true
may_return state = false

module _ {M C P : Type 0} (way : Way M C P) where
  -- ---- one bearer

  abbrev pub on_air : UeNode → BearerId → Tag → P → Output M P
  on_air u bearer tag pdu = radio u.plan.ue bearer Ul u.epoch tag pdu

  abbrev pub data_output : UeNode → BearerId → ℕ → List ℕ → Output M P
  data_output u bearer count packet = on_air u bearer (Own count) (way.write u.plan.sn (packet_pdu count packet))

  -- what nothing confirmed is sent again
  abbrev pub unconfirmed_outputs : UeNode → BearerId → UeBearer → List (Output M P)
  unconfirmed_outputs u bearer b = map (λ e. data_output u bearer e.0 e.1) b.sender.unconfirmed

  -- those that wait get a COUNT while there is room, and are sent
  unfoldable pub number_each : UeNode → BearerId → List (List ℕ) → UeBearer → Answer M P UeBearer
  number_each u bearer [] b = nothing b
  number_each u bearer (packet ∷ packets) b =
      if not (has_room u.plan.sn u.plan.quota b.sender) then nothing b else
      (if nat_lt last_count b.sender.next then spent counts_spent else
      puts (data_output u bearer b.sender.next packet) (record b { sender = numbered b.sender packet; waiting = packets })
      then number_each u bearer packets)

  unfoldable pub number_waiting : UeNode → BearerId → UeBearer → Answer M P UeBearer
  number_waiting u bearer b = if is_connected u.state then number_each u bearer b.waiting b else nothing b

  -- a new connection: a status report, all that nothing confirmed, and what waits
  unfoldable pub connect_bearer : UeNode → BearerId → UeBearer → Answer M P UeBearer
  connect_bearer u bearer b =
      gives (on_air u bearer Absent (way.write u.plan.sn (report_pdu b.receiver.deliv (received_bits b.receiver))) ∷ unconfirmed_outputs u bearer b) b
      then number_waiting u bearer

  -- ---- the bearers of the terminal

  abbrev pub with_bearer : UeNode → BearerId → UeBearer → UeNode
  with_bearer u bearer b = record u { bearers = put bearer_cmp u.bearers bearer b }

  abbrev pub with_bearers : UeNode → List (BearerId × UeBearer) → UeNode
  with_bearers u bearers = record u { bearers = bearers }

  abbrev pub connect_each : UeNode → List (BearerId × UeBearer) → Answer M P (List (BearerId × UeBearer))
  connect_each u [] = nothing []
  connect_each u (e ∷ es) =
      connect_bearer u e.0 e.1 then (λ b. connect_each u es then (λ bearers. nothing ((e.0, b) ∷ bearers)))

  abbrev pub connect : UeNode → Answer M P UeNode
  connect u = connect_each u u.bearers then (λ bearers. nothing (with_bearers u bearers))

  abbrev pub of_bearer : UeNode → BearerId → (UeBearer → Answer M P UeBearer) → Option UeBearer → Answer M P UeNode
  of_bearer u bearer row None = drops NoContext u
  of_bearer u bearer row (Some b) = row b then (λ c. nothing (with_bearer u bearer c))

  abbrev pub at_bearer : UeNode → BearerId → (UeBearer → Answer M P UeBearer) → Answer M P UeNode
  at_bearer u bearer row = of_bearer u bearer row (find bearer_cmp u.bearers bearer)

  -- ---- what it says to its home

  abbrev pub token_of : UeNode → TokenKind → Token
  token_of u says.Complete = tokens.Complete u.plan.ue u.epoch
  token_of u says.Reestablish = tokens.Reestablish u.plan.ue u.epoch

  abbrev pub said : UeNode → Option TokenKind → Option NodeId → List (Output M P)
  said u (Some kind) (Some home) = control home u.plan.ue.0 (way.encode (rrc (token_of u kind))) ∷ []
  said u kind home = []

  abbrev pub says_it : UeNode → Answer M P UeNode
  says_it u = gives (said u u.token u.home) u

  -- ---- a command: of its next epoch, to a terminal that is idle or connected

  abbrev pub may_obey : UeState → Bool
  may_obey states.Idle = true
  may_obey states.Connected = true
  may_obey state = false

  unfoldable pub obey : ℕ → NodeId → UeNode → Answer M P UeNode
  obey epoch goal u =
      if may_obey u.state && epoch == u.epoch + 1 then nothing (record u { state = states.Accessing; goal = Some goal }) else drops Stale u

  -- ---- arrival

  abbrev pub arrived : UeNode → UeNode
  arrived u = record u { epoch = u.epoch + 1; state = states.Connected; home = u.goal; token = Some says.Complete }

  unfoldable pub arrive : UeNode → Answer M P UeNode
  arrive u =
      if not (is_accessing u.state) then puts (no NotAccessing) u else
      (if nat_le last_epoch u.epoch then spent epochs_spent else says_it (arrived u) then connect)

  -- ---- return

  abbrev pub returned : UeNode → UeNode
  returned u = record u { epoch = u.epoch + 1; state = states.Returning; token = Some says.Reestablish }

  abbrev pub return_to : UeNode → Option NodeId → Answer M P UeNode
  return_to u None = puts (no NoHome) u
  return_to u (Some home) =
      if not (may_return u.state) then puts (no Busy) u else
      (if nat_le last_epoch u.epoch then spent epochs_spent else says_it (returned u))

  unfoldable pub come_back : UeNode → Answer M P UeNode
  come_back u = return_to u u.home

  -- ---- its epoch is accepted: what it says is no longer repeated, and a return ends

  abbrev pub accepted_in : UeNode → UeState → Answer M P UeNode
  accepted_in u states.Returning = connect (record u { token = None; state = states.Connected })
  accepted_in u state = nothing (record u { token = None })

  unfoldable pub accept : ℕ → UeNode → Answer M P UeNode
  accept epoch u = if epoch == u.epoch then accepted_in u u.state else drops Stale u

  -- ---- its radio fails

  unfoldable pub fail : UeNode → Answer M P UeNode
  fail u = if is_connected u.state then nothing (record u { state = states.Lost }) else puts (no NoRadio) u

  -- ---- an offered packet: refused for its size, and where the quota is used

  abbrev pub used_uplink : UeBearer → ℕ
  used_uplink b = length b.sender.unconfirmed + length b.waiting

  abbrev pub offered : UeNode → BearerId → List ℕ → Option UeBearer → Answer M P UeNode
  offered u bearer packet None = drops NoContext u
  offered u bearer packet (Some b) =
      if nat_lt largest_packet (length packet) then puts (no Size) u else
      (if nat_le u.plan.quota (used_uplink b) then puts (no Quota) u else
      (number_waiting u bearer (record b { waiting = b.waiting ++ packet ∷ [] }) then (λ c. nothing (with_bearer u bearer c))))

  unfoldable pub offer : BearerId → List ℕ → UeNode → Answer M P UeNode
  offer bearer packet u = offered u bearer packet (find bearer_cmp u.bearers bearer)

  -- ---- a PDU from the radio

  abbrev pub delivered : UeNode → BearerId → Delivery (List ℕ) → List (Output M P)
  delivered u bearer d = map (λ e. deliver u.plan.ue bearer Dl e.0 e.1) d.packets

  abbrev pub handed : UeNode → BearerId → UeBearer → Delivery (List ℕ) → Answer M P UeBearer
  handed u bearer b d = gives (delivered u bearer d) (record b { receiver = d.after })

  abbrev pub took_data : UeNode → BearerId → Option ℕ → List ℕ → UeBearer → Answer M P UeBearer
  took_data u bearer None packet b = drops Duplicate b
  took_data u bearer (Some count) packet b =
      if is_duplicate b.receiver count then drops Duplicate b else
      (if is_ahead u.plan.quota b.receiver count then puts (held Ahead) b else
      handed u bearer b (handed_up (stored b.receiver count packet)))

  abbrev pub took : UeNode → BearerId → Content → UeBearer → Answer M P UeBearer
  took u bearer (packet_content count packet) b = took_data u bearer count packet b
  took u bearer (report_content fmc bits) b = number_waiting u bearer (record b { sender = confirmed_by b.sender fmc bits })

  unfoldable pub take : BearerId → Content → UeNode → Answer M P UeNode
  take bearer content u = at_bearer u bearer (took u bearer content)

  -- ---- a PDU that was confirmed on the radio

  abbrev pub confirmed_if : Option ℕ → UeBearer → UeBearer
  confirmed_if None b = b
  confirmed_if (Some count) b = record b { sender = confirmed_to b.sender count }

  abbrev pub confirmed : UeNode → BearerId → Content → UeBearer → Answer M P UeBearer
  confirmed u bearer (packet_content count packet) b = number_waiting u bearer (confirmed_if count b)
  confirmed u bearer (report_content fmc bits) b = nothing b

  unfoldable pub confirm : BearerId → Content → UeNode → Answer M P UeNode
  confirm bearer content u = at_bearer u bearer (confirmed u bearer content)

  -- ---- a token comes from a DU

  abbrev pub told : Token → UeNode → Answer M P UeNode
  told (tokens.Command ue epoch gnb du) u = if ue.0 == u.plan.ue.0 then obey epoch (Du gnb du) u else drops Unexpected u
  told (tokens.Accepted ue epoch) u = if ue.0 == u.plan.ue.0 then accept epoch u else drops Unexpected u
  told token u = drops Unexpected u

  abbrev pub told_by : NodeId → Message C → UeNode → Answer M P UeNode
  told_by (Du gnb number) (rrc token) u = told token u
  told_by from message u = drops Unexpected u

  -- ---- the table

  abbrev pub ordered : Order → UeNode → Answer M P UeNode
  ordered (orders.Arrive ue) u = arrive u
  ordered (orders.Return ue) u = come_back u
  ordered (orders.Fail ue) u = fail u
  ordered order u = drops Unexpected u

  unfoldable pub ue_acts : UeNode → Input C P → Answer M P UeNode
  ue_acts u (control_input from message) = told_by from message u
  ue_acts u (radio_input ue bearer Dl pdu content) = take bearer content u
  ue_acts u (confirm_input ue bearer Ul pdu content) = confirm bearer content u
  ue_acts u (offer_input ue bearer packet) = offer bearer packet u
  ue_acts u tick_input = says_it u
  ue_acts u (order_input order) = ordered order u
  ue_acts u input = drops Unexpected u
