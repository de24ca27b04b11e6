-- What octets say to a unit: its input as its rows take it, with the COUNT that it finds from a number; or why they are dropped.
--
--   a message of a node that shares no interface     Unexpected
--   an item of an unknown TEID                       NoTunnel, whatever its octets
--   octets that are no message, item or PDU          Undecodable, or Criticality of a message
--   an input of a kind that the unit never takes     Unexpected
--
-- COUNTs are found (TS 38.323, 5.2.2): of what is received, near RX_DELIV; of what is confirmed, below TX_NEXT; of what is forwarded
-- down, below the next COUNT of the source.
use Rattle.std.specs.Prelude.{◌==◌, ℕ, ◌/◌, ◌%◌, ◌^◌, Bool, true, false, List, [], ◌∷◌, map, Option, Some, None, Result, Ok, Err, if◌then◌else◌}
use Rattle.std.specs.List.{flat_map}
use Rattle.std.specs.Ordering.{nat_cmp}
use Rattle.gnb_types.specs.declared.names.NodeId.{NodeId}
use Rattle.gnb_types.specs.declared.names.NodeId.TheVariants.{CuCp, Ue}
use Rattle.gnb_types.specs.declared.names.BearerId.{BearerId}
use Rattle.gnb_types.specs.declared.names.Dir.TheVariants.{Dl, Ul}
use Rattle.gnb_types.specs.declared.names.SnBits.{SnBits}
use Rattle.gnb_types.specs.declared.inputs.Input.{Input as OctetInput}
use Rattle.gnb_types.specs.declared.inputs.Input.TheVariants as ins
use Rattle.gnb_types.specs.declared.reasons.DropReason.{DropReason}
use Rattle.gnb_types.specs.declared.reasons.DropReason.TheVariants.{Undecodable, NoContext, NoTunnel, Unexpected}
use Rattle.gnb_types.specs.Orders.{bearer_cmp}
use Rattle.tables.specs.Tables.{find}
use Rattle.pdcp.specs.Pdus.{Content as PduContent, data_pdu, status_report}
use Rattle.pdcp_defs.specs.Counts.{near_count, count_below}
use Rattle.link_defs.specs.Decoding.{Link, n3 as on_n3, f1u_downlink as on_f1u_downlink, f1u_uplink as on_f1u_uplink, forwarding_down as on_forwarding_down, forwarding_up as on_forwarding_up, Item, fresh, numbered, pdu, framed, poll, status, end_of_tunnel}
use Rattle.unit_defs.specs.Ways.{Message, Content, packet_content, report_content, Taken, fresh_item, numbered_item, frame_item, uplink_item, status_item, end_item, Input, control_input, packet_input, radio_input, confirm_input, offer_input, tick_input, order_input}
use Rattle.unit_defs.specs.Messages.{shares_interface}
use Rattle.unit_defs.specs.CuUpRecords.{CuUpBearer, CuUpContext, TunnelKind, n3, f1u_uplink, forwarding_down, forwarding_up, CuUpTunnel, CuUp}
use Rattle.unit_defs.specs.CuUp.{up_node, context_of as up_context_of}
use Rattle.unit_defs.specs.Du.{DuContext, DuTunnel, Du, du_node, context_of as du_context_of}
use Rattle.unit_defs.specs.Ue.{UeBearer, UeNode}
use Rattle.unit_defs.specs.CuCpRecords.{CuCpRecord}
use Rattle.unit_defs.specs.octet_defs.Codec.{Codec}

-- an input of the rows whose messages, containers and PDUs are octets; or why it is dropped
abbrev pub ReadInput : Type 0
ReadInput = Result (Input (List ℕ) (List ℕ)) DropReason

-- the bits of a bitmap, the highest of an octet first
abbrev pub bits_of : List ℕ → List Bool
bits_of bitmap = flat_map (λ octet. map (λ k. octet / 2 ^ k % 2 == 1) (7 ∷ 6 ∷ 5 ∷ 4 ∷ 3 ∷ 2 ∷ 1 ∷ 0 ∷ [])) bitmap

-- what a PDU says, where COUNTs are found like this
abbrev pub content_by : (ℕ → Option ℕ) → PduContent → Content
content_by find_count (data_pdu number packet) = packet_content (find_count number) packet
content_by find_count (status_report fmc bitmap) = report_content fmc (bits_of bitmap)

-- ---- the COUNTs that a CU-UP finds, and those that a terminal finds

abbrev pub count_confirmed : SnBits → CuUpBearer → Option ℕ → Option ℕ
count_confirmed sn b None = None
count_confirmed sn b (Some number) = count_below sn b.sender.next number

abbrev pub count_forwarded : SnBits → CuUpBearer → Link → ℕ → Option ℕ
count_forwarded sn b on_forwarding_down number = count_below sn b.dl_next number
count_forwarded sn b link number = near_count sn b.receiver.deliv number

abbrev pub count_received_in : SnBits → Option UeBearer → ℕ → Option ℕ
count_received_in sn None number = None
count_received_in sn (Some b) number = near_count sn b.receiver.deliv number

abbrev pub count_confirmed_in : SnBits → Option UeBearer → ℕ → Option ℕ
count_confirmed_in sn None number = None
count_confirmed_in sn (Some b) number = count_below sn b.sender.next number

-- ---- an item of a tunnel of a CU-UP, and of a DU, which finds no COUNT

abbrev pub up_item : SnBits → CuUpBearer → Link → Item → Taken (List ℕ)
up_item sn b link (fresh packet) = fresh_item packet
up_item sn b link (numbered number packet) = numbered_item (count_forwarded sn b link number) packet
up_item sn b link (pdu content octets) = uplink_item (content_by (near_count sn b.receiver.deliv) content)
up_item sn b link (framed restart number content octets) = frame_item false restart number (Some octets)
up_item sn b link (poll restart number) = frame_item true restart number None
up_item sn b link (status room lost delivered) = status_item lost (count_confirmed sn b delivered)
up_item sn b link end_of_tunnel = end_item

abbrev pub no_count : ℕ → Option ℕ
no_count number = None

abbrev pub du_item : Item → Taken (List ℕ)
du_item (fresh packet) = fresh_item packet
du_item (numbered number packet) = numbered_item None packet
du_item (pdu content octets) = uplink_item (content_by no_count content)
du_item (framed restart number content octets) = frame_item false restart number (Some octets)
du_item (poll restart number) = frame_item true restart number None
du_item (status room lost delivered) = status_item lost None
du_item end_of_tunnel = end_item

abbrev pub link_of : TunnelKind → Link
link_of n3 = on_n3
link_of f1u_uplink = on_f1u_uplink
link_of forwarding_down = on_forwarding_down
link_of forwarding_up = on_forwarding_up

-- ---- the tunnel of a TEID: its link, and the length of its numbers

abbrev pub up_sn : CuUpTunnel → Option CuUpContext → Option (Link × SnBits)
up_sn t None = None
up_sn t (Some c) = Some (link_of t.kind, c.sn)

abbrev pub up_link_of : {M C : Type 0} → CuUp M C → Option CuUpTunnel → Option (Link × SnBits)
up_link_of r None = None
up_link_of r (Some t) = up_sn t (up_context_of r t.ue)

abbrev pub up_link : {M C : Type 0} → CuUp M C → ℕ → Option (Link × SnBits)
up_link r teid = up_link_of r (find nat_cmp r.tunnels teid)

abbrev pub du_sn : Option DuContext → Option (Link × SnBits)
du_sn None = None
du_sn (Some c) = Some (on_f1u_downlink, c.sn)

abbrev pub du_link_of : {M C : Type 0} → Du M C → Option DuTunnel → Option (Link × SnBits)
du_link_of r None = None
du_link_of r (Some t) = du_sn (du_context_of r t.ue)

abbrev pub du_link : {M C : Type 0} → Du M C → ℕ → Option (Link × SnBits)
du_link r teid = du_link_of r (find nat_cmp r.tunnels teid)

module _ (codec : Codec) where
  -- ---- control messages

  abbrev pub message_read : NodeId → Result (Message (List ℕ)) DropReason → ReadInput
  message_read from (Ok message) = Ok (control_input from message)
  message_read from (Err reason) = Err reason

  abbrev pub read_message : NodeId → NodeId → List ℕ → ReadInput
  read_message own from octets =
      if shares_interface own from then message_read from (codec.read from own octets) else Err Unexpected

  -- ---- a CU-CP

  unfoldable pub read_at_cu_cp : {M C : Type 0} → CuCpRecord M C → OctetInput → ReadInput
  read_at_cu_cp r (ins.Control from octets) = read_message (CuCp r.gnb) from octets
  read_at_cu_cp r ins.Tick = Ok tick_input
  read_at_cu_cp r (ins.Order order) = Ok (order_input order)
  read_at_cu_cp r input = Err Unexpected

  -- ---- a CU-UP

  abbrev pub up_item_read : ℕ → SnBits → CuUpBearer → Link → Option Item → ReadInput
  up_item_read teid sn b link None = Err Undecodable
  up_item_read teid sn b link (Some item) = Ok (packet_input teid (up_item sn b link item))

  abbrev pub read_up_bearer : ℕ → List ℕ → CuUpTunnel → CuUpContext → Option CuUpBearer → ReadInput
  read_up_bearer teid octets t c None = Err NoContext
  read_up_bearer teid octets t c (Some b) = up_item_read teid c.sn b (link_of t.kind) (codec.read_item (link_of t.kind) c.sn octets)

  abbrev pub read_up_context : ℕ → List ℕ → CuUpTunnel → Option CuUpContext → ReadInput
  read_up_context teid octets t None = Err NoContext
  read_up_context teid octets t (Some c) = read_up_bearer teid octets t c (find bearer_cmp c.bearers t.bearer)

  abbrev pub read_up_item : {M C : Type 0} → CuUp M C → ℕ → List ℕ → Option CuUpTunnel → ReadInput
  read_up_item r teid octets None = Err NoTunnel
  read_up_item r teid octets (Some t) = read_up_context teid octets t (up_context_of r t.ue)

  unfoldable pub read_at_cu_up : {M C : Type 0} → CuUp M C → OctetInput → ReadInput
  read_at_cu_up r (ins.Control from octets) = read_message (up_node r) from octets
  read_at_cu_up r (ins.Packet teid octets) = read_up_item r teid octets (find nat_cmp r.tunnels teid)
  read_at_cu_up r ins.Tick = Ok tick_input
  read_at_cu_up r (ins.Order order) = Ok (order_input order)
  read_at_cu_up r input = Err Unexpected

  -- ---- a DU

  abbrev pub du_item_read : ℕ → Option Item → ReadInput
  du_item_read teid None = Err Undecodable
  du_item_read teid (Some item) = Ok (packet_input teid (du_item item))

  abbrev pub read_du_context : ℕ → List ℕ → Option DuContext → ReadInput
  read_du_context teid octets None = Err NoContext
  read_du_context teid octets (Some c) = du_item_read teid (codec.read_item on_f1u_downlink c.sn octets)

  abbrev pub read_du_item : {M C : Type 0} → Du M C → ℕ → List ℕ → Option DuTunnel → ReadInput
  read_du_item r teid octets None = Err NoTunnel
  read_du_item r teid octets (Some t) = read_du_context teid octets (du_context_of r t.ue)

  -- a PDU of the radio, where it is one: the input that it is, by what it says
  abbrev pub pdu_read : (PduContent → Input (List ℕ) (List ℕ)) → Option PduContent → ReadInput
  pdu_read input None = Err Undecodable
  pdu_read input (Some content) = Ok (input content)

  abbrev pub read_du_pdu : (PduContent → Input (List ℕ) (List ℕ)) → List ℕ → Option DuContext → ReadInput
  read_du_pdu input octets None = Err NoContext
  read_du_pdu input octets (Some c) = pdu_read input (codec.read_pdu c.sn octets)

  unfoldable pub read_at_du : {M C : Type 0} → Du M C → OctetInput → ReadInput
  read_at_du r (ins.Control from octets) = read_message (du_node r) from octets
  read_at_du r (ins.Packet teid octets) = read_du_item r teid octets (find nat_cmp r.tunnels teid)
  read_at_du r (ins.Radio ue bearer Ul octets) =
      read_du_pdu (λ content. radio_input ue bearer Ul octets (content_by no_count content)) octets (du_context_of r ue)
  read_at_du r (ins.Confirm ue bearer Dl octets) =
      read_du_pdu (λ content. confirm_input ue bearer Dl octets (content_by no_count content)) octets (du_context_of r ue)
  read_at_du r ins.Tick = Ok tick_input
  read_at_du r (ins.Order order) = Ok (order_input order)
  read_at_du r input = Err Unexpected

  -- ---- a terminal

  abbrev pub bearer_at : UeNode → BearerId → Option UeBearer
  bearer_at u bearer = find bearer_cmp u.bearers bearer

  unfoldable pub read_at_ue : UeNode → OctetInput → ReadInput
  read_at_ue u (ins.Control from octets) = read_message (Ue u.plan.ue.0) from octets
  read_at_ue u (ins.Radio ue bearer Dl octets) =
      pdu_read (λ content. radio_input ue bearer Dl octets (content_by (count_received_in u.plan.sn (bearer_at u bearer)) content))
      (codec.read_pdu u.plan.sn octets)
  read_at_ue u (ins.Confirm ue bearer Ul octets) =
      pdu_read (λ content. confirm_input ue bearer Ul octets (content_by (count_confirmed_in u.plan.sn (bearer_at u bearer)) content))
      (codec.read_pdu u.plan.sn octets)
  read_at_ue u (ins.Offer ue bearer packet) = Ok (offer_input ue bearer packet)
  read_at_ue u ins.Tick = Ok tick_input
  read_at_ue u (ins.Order order) = Ok (order_input order)
  read_at_ue u input = Err Unexpected
