-- Which packet the octets of an item carry, and which octets each link has (TS 29.281, 5.2; TS 38.425, 5.5.2; TS 38.323, 6.2).
use Rattle.std.specs.Prelude.{ℕ, ◌≡◌, Bool, List, [], ◌∷◌, Option, Some, None, Contains, ◌⊎◌}
use Rattle.gnb_types.specs.declared.names.NodeId.{NodeId}
use Rattle.gnb_types.specs.declared.names.NodeId.TheVariants.{CuUp, Du, Core, Ue}
use Rattle.gnb_types.specs.declared.names.Dir.{Dir}
use Rattle.gnb_types.specs.declared.names.Dir.TheVariants.{Dl, Ul}
use Rattle.gnb_types.specs.declared.names.SnBits.{SnBits}
use Rattle.pdcp.specs.Pdus.{Content, data_pdu, status_report, radio_data, report_octets}
use Rattle.link_defs.specs.Decoding.{Link as LinkKind, n3, f1u_downlink, f1u_uplink, forwarding_down, forwarding_up, Item as Decoded, fresh, numbered, pdu, framed, poll, status, end_of_tunnel, CarriesPdu, DecodesOn}
use Rattle.link_defs.specs.Layouts.{f1u_downlink_packet, f1u_downlink_report, f1u_downlink_poll, f1u_uplink_data, f1u_uplink_report, delivery_status, forwarded_numbered, forwarded_fresh, end_marker}
use Rattle.scenario_text.specs.declared.line.Link.{Link}
use Rattle.scenario_text.specs.declared.line.Link.TheVariants.{Tunnel, Radio}
use Rattle.scenario_text.specs.declared.line.Item.{Item}

-- ---- the packet that an item carries

-- the kinds of tunnels that carry packets of this direction to such a node
abbrev pub kinds_to : NodeId → Dir → List LinkKind
kinds_to (CuUp gnb number) Dl = n3 ∷ forwarding_down ∷ []
kinds_to (CuUp gnb number) Ul = f1u_uplink ∷ forwarding_up ∷ []
kinds_to (Du gnb number) Dl = f1u_downlink ∷ []
kinds_to node dir = []

abbrev pub packet_of_pdu : Content → Option (List ℕ)
packet_of_pdu (data_pdu number packet) = Some packet
packet_of_pdu (status_report fmc bitmap) = None

abbrev pub packet_of : Decoded → Option (List ℕ)
packet_of (fresh packet) = Some packet
packet_of (numbered number packet) = Some packet
packet_of (pdu content octets) = packet_of_pdu content
packet_of (framed restart number content octets) = packet_of_pdu content
packet_of (poll restart number) = None
packet_of (status room lost delivered) = None
packet_of end_of_tunnel = None

-- its octets decode as an item with this packet
abbrev pub Carries : SnBits → Link → Item → List ℕ → Type 0
Carries sn (Tunnel end teid) item packet =
    (kind : LinkKind) × Contains (kinds_to end item.dir) kind
    × (decoded : Decoded) × DecodesOn kind sn decoded item.bytes × (packet_of decoded ≡ Some packet)
Carries sn (Radio ue bearer dir epoch) item packet = (number : ℕ) × CarriesPdu sn (data_pdu number packet) item.bytes

-- ---- the octets that a link has: of a packet with the COUNT that is shown, or of what carries no packet

-- of a tunnel with this TEID
abbrev pub Layout : Type 1
Layout = SnBits → ℕ → Option ℕ → List ℕ → Type 0

abbrev pub NoLayout : Layout
NoLayout sn teid count octets = ⊥

-- a packet without a number, a packet with one, and the end of a tunnel
abbrev pub IsFresh : Layout
IsFresh sn teid None octets = (packet : List ℕ) × (octets ≡ forwarded_fresh teid packet)
IsFresh sn teid (Some count) octets = ⊥

abbrev pub IsNumbered : Layout
IsNumbered sn teid None octets = ⊥
IsNumbered sn teid (Some count) octets = (packet : List ℕ) × (octets ≡ forwarded_numbered sn teid count packet)

abbrev pub IsEnd : Layout
IsEnd sn teid count octets = octets ≡ end_marker teid

-- N3, and forwarding down and up
abbrev pub N3 : Layout
N3 sn teid count octets = IsFresh sn teid count octets ⊎ IsEnd sn teid count octets

abbrev pub ForwardingDown : Layout
ForwardingDown sn teid count octets = IsFresh sn teid count octets ⊎ (IsNumbered sn teid count octets ⊎ IsEnd sn teid count octets)

abbrev pub ForwardingUp : Layout
ForwardingUp sn teid count octets = IsNumbered sn teid count octets ⊎ IsEnd sn teid count octets

-- F1-U downlink: a frame with a packet, with a status report, or a poll
abbrev pub IsFrame : Layout
IsFrame sn teid None octets = ⊥
IsFrame sn teid (Some count) octets =
    (restart : Bool) × (number : ℕ) × (packet : List ℕ) × (octets ≡ f1u_downlink_packet restart sn teid number count packet)

abbrev pub IsDownlinkReport : Layout
IsDownlinkReport sn teid count octets = (number fmc : ℕ) × (bits : List Bool) × (octets ≡ f1u_downlink_report teid number fmc bits)

abbrev pub IsPoll : Layout
IsPoll sn teid count octets = (number : ℕ) × (octets ≡ f1u_downlink_poll teid number)

abbrev pub F1uDownlink : Layout
F1uDownlink sn teid count octets = IsFrame sn teid count octets ⊎ (IsDownlinkReport sn teid count octets ⊎ IsPoll sn teid count octets)

-- F1-U uplink: a packet's PDU, a status report, or the end of the tunnel; and, for a downlink bearer, a delivery status
abbrev pub IsUplinkData : Layout
IsUplinkData sn teid None octets = ⊥
IsUplinkData sn teid (Some count) octets = (packet : List ℕ) × (octets ≡ f1u_uplink_data sn teid count packet)

abbrev pub IsUplinkReport : Layout
IsUplinkReport sn teid count octets = (fmc : ℕ) × (bits : List Bool) × (octets ≡ f1u_uplink_report teid fmc bits)

abbrev pub F1uUplink : Layout
F1uUplink sn teid count octets = IsUplinkData sn teid count octets ⊎ (IsUplinkReport sn teid count octets ⊎ IsEnd sn teid count octets)

abbrev pub IsDeliveryStatus : Layout
IsDeliveryStatus sn teid count octets = (lost : List (ℕ × ℕ)) × (delivered : Option ℕ) × (octets ≡ delivery_status teid lost delivered)

-- the link between two nodes in a direction (TS 38.401, 6.1.2; TS 38.300, 9.2.3.2)
abbrev pub layout_between : NodeId → NodeId → Dir → Layout
layout_between Core (CuUp gnb number) Dl = N3
layout_between (CuUp gnb number) (Du other du) Dl = F1uDownlink
layout_between (Du gnb number) (CuUp other up) Ul = F1uUplink
layout_between (Du gnb number) (CuUp other up) Dl = IsDeliveryStatus
layout_between (CuUp gnb number) (CuUp other up) Dl = ForwardingDown
layout_between (CuUp gnb number) (CuUp other up) Ul = ForwardingUp
layout_between from to dir = NoLayout

-- a radio: a packet's PDU, or a status report; the DU puts downlink, and the terminal uplink
abbrev pub IsRadioData : SnBits → Option ℕ → List ℕ → Type 0
IsRadioData sn None octets = ⊥
IsRadioData sn (Some count) octets = (packet : List ℕ) × (octets ≡ radio_data sn count packet)

abbrev pub IsRadioReport : List ℕ → Type 0
IsRadioReport octets = (fmc : ℕ) × (bits : List Bool) × (octets ≡ report_octets fmc bits)

abbrev pub IsOnRadio : NodeId → Dir → SnBits → Item → Type 0
IsOnRadio (Du gnb number) Dl sn item = IsRadioData sn item.count item.bytes ⊎ IsRadioReport item.bytes
IsOnRadio (Ue ue) Ul sn item = IsRadioData sn item.count item.bytes ⊎ IsRadioReport item.bytes
IsOnRadio node dir sn item = ⊥

-- what a unit puts on a link has the link's octets
abbrev pub IsLaidOut : SnBits → NodeId → Link → Item → Type 0
IsLaidOut sn actor (Tunnel end teid) item = layout_between actor end item.dir sn teid item.count item.bytes
IsLaidOut sn actor (Radio ue bearer dir epoch) item = IsOnRadio actor dir sn item
