-- What the octets of an item say on its link. Of a tunnel a transcript shows the end alone: at a DU it is one of F1-U downlink, at a
-- CU-UP one of N3, of F1-U uplink or of forwarding; no other node ends a tunnel (TS 38.401, 6.1.2).
use Rattle.std.specs.Prelude.{◌≡◌, ◌⊎◌, ℕ, ◌%◌, ◌≤◌, List, Option, Some, None, slice_get}
use Rattle.gnb_types.specs.declared.names.Dir.{Dir}
use Rattle.gnb_types.specs.declared.names.Dir.TheVariants.{Dl, Ul}
use Rattle.gnb_types.specs.declared.names.NodeId.TheVariants.{CuUp, Du}
use Rattle.gnb_types.specs.declared.names.SnBits.{SnBits}
use Rattle.gnb_types.specs.declared.keys.EntityKey.{EntityKey}
use Rattle.gnb_types.specs.declared.plans.Plan.{Plan}
use Rattle.pdcp.specs.Numbers.{space}
use Rattle.pdcp.specs.Pdus.{Content, data_pdu, status_report}
use Rattle.link_defs.specs.Decoding.{Item as Says, fresh, numbered, pdu, framed, status, CarriesPdu, DecodesOn, f1u_downlink, f1u_uplink, forwarding_down}
use Rattle.scenario_text.specs.declared.event.Event.{Event}
use Rattle.scenario_text.specs.declared.line.Link.{Link}
use Rattle.scenario_text.specs.declared.line.Link.TheVariants.{Tunnel, Radio}
use Rattle.scenario_text.specs.declared.line.Item.{Item}
use Rattle.transcript_defs.specs.Past.{plans}

-- ---- layouts

-- on a radio: a PDCP PDU and nothing else
abbrev pub IsOnRadio : SnBits → Says → List ℕ → Type 0
IsOnRadio sn (pdu content whole) octets = (whole ≡ octets) × CarriesPdu sn content octets
IsOnRadio sn says octets = ⊥

-- at a CU-UP a G-PDU without flags is a packet for downlink, and a PDCP PDU for uplink
abbrev pub FitsDirection : Says → Dir → Type 0
FitsDirection (fresh packet) dir = dir ≡ Dl
FitsDirection (pdu content octets) dir = dir ≡ Ul
FitsDirection says dir = Unit {0}

-- what forwarding for downlink decodes contains all of N3 downlink and of forwarding for uplink
abbrev pub IsAtCuUp : SnBits → Says → List ℕ → Type 0
IsAtCuUp sn says octets = DecodesOn forwarding_down sn says octets ⊎ DecodesOn f1u_uplink sn says octets

-- the octets are laid out as this link has it, and say this
abbrev pub LaidOut : Link → Dir → SnBits → Says → List ℕ → Type 0
LaidOut (Radio ue bearer way epoch) dir sn says octets = IsOnRadio sn says octets
LaidOut (Tunnel (Du gnb number) teid) dir sn says octets = DecodesOn f1u_downlink sn says octets
LaidOut (Tunnel (CuUp gnb number) teid) dir sn says octets = FitsDirection says dir × IsAtCuUp sn says octets
LaidOut (Tunnel end teid) dir sn says octets = ⊥

-- What an item says: its bearer was set by an accepted event, the first of which counts, and its octets are laid out as its link has it.
pub record Reading (happened : List Event) (link : Link) (item : Item) : Type 0 where
  pub plan : Plan
  pub is_set : slice_get (plans item.ue happened) 0 ≡ Some plan
  pub has_bearer : item.bearer.0 ≤ plan.bearers
  pub says : Says
  pub laid_out : LaidOut link item.dir plan.sn says item.bytes

-- ---- packets and numbers

abbrev pub packet_of : Content → Option (List ℕ)
packet_of (data_pdu number packet) = Some packet
packet_of (status_report fmc bitmap) = None

abbrev pub number_of : Content → Option ℕ
number_of (data_pdu number packet) = Some number
number_of (status_report fmc bitmap) = None

-- the packet that is carried
abbrev pub packet_in : Says → Option (List ℕ)
packet_in (fresh packet) = Some packet
packet_in (numbered number packet) = Some packet
packet_in (pdu content octets) = packet_of content
packet_in (framed restart number content octets) = packet_of content
packet_in says = None

-- the PDCP number that is told: of the packet, or the one that a delivery status confirms
abbrev pub number_in : Says → Option ℕ
number_in (numbered number packet) = Some number
number_in (pdu content octets) = number_of content
number_in (framed restart number content octets) = number_of content
number_in (status room lost highest) = highest
number_in says = None

-- ---- COUNTs

-- the packet, if there is one, is that of the COUNT
abbrev pub IsOfCount : List (List ℕ) → ℕ → Option (List ℕ) → Type 0
IsOfCount packets count None = Unit {0}
IsOfCount packets count (Some packet) = slice_get packets count ≡ Some packet

-- the number, if there is one, is the COUNT modulo the sequence space
abbrev pub IsNumberOf : SnBits → ℕ → Option ℕ → Type 0
IsNumberOf sn count None = Unit {0}
IsNumberOf sn count (Some number) = number % space sn ≡ count % space sn

-- what is said fits the COUNT that stands beside it, if one does
abbrev pub FitsCount : List (List ℕ) → SnBits → Option ℕ → Says → Type 0
FitsCount packets sn None says = Unit {0}
FitsCount packets sn (Some count) says = IsOfCount packets count (packet_in says) × IsNumberOf sn count (number_in says)

-- a packet, if there is one, is among these
abbrev pub IsAmong : List (List ℕ) → Option (List ℕ) → Type 0
IsAmong packets None = Unit {0}
IsAmong packets (Some packet) = (place : ℕ) × (slice_get packets place ≡ Some packet)

-- where the receiver of a direction takes its items: the terminal from its radio, a CU-UP from its tunnel
abbrev pub IsAtReceiver : Link → Dir → Type 0
IsAtReceiver (Radio ue bearer dir epoch) Dl = Unit {0}
IsAtReceiver (Tunnel (CuUp gnb number) teid) Ul = Unit {0}
IsAtReceiver link dir = ⊥

abbrev pub key_of : Item → EntityKey
key_of item = record { ue = item.ue; bearer = item.bearer; dir = item.dir }
