-- Which octets decode as a packet of a link, and what they say there: exactly the link's layout, where a reader doesn't
-- evaluate spare bits, unused fields and the TEID.
use Rattle.std.specs.Prelude.{◌≡◌, ℕ, ◌%◌, ◌<◌, ◌≤◌, Bool, true, false, Option, None, List, [], ◌∷◌, length}
use Rattle.std.specs.Int.{w16, w32, from_be_bytes}
use Rattle.gnb_types.specs.declared.names.SnBits.{SnBits}
use Rattle.gnb_types.specs.declared.names.SnBits.TheVariants.{Len12, Len18}
use Rattle.gtpu.specs.declared.Kind.{Kind}
use Rattle.gtpu.specs.declared.Kind.TheVariants.{GPdu, EndMarker}
use Rattle.gtpu.specs.declared.headers.TheConstants.{NR_RAN_CONTAINER, PDCP_PDU_NUMBER, LONG_PDCP_PDU_NUMBER}
use Rattle.gtpu.specs.Headers.{AreHeaders}
use Rattle.gtpu.specs.Packets.{GtpuPacket, Gtpu}
use Rattle.nr_user_plane.specs.declared.frames.Frame.TheVariants.{Data, Status}
use Rattle.nr_user_plane.specs.Frames.{Nru}
use Rattle.pdcp.specs.declared.pdu.TheConstants.{PACKET_LIMIT}
use Rattle.pdcp.specs.Numbers.{space}
use Rattle.pdcp.specs.Pdus.{Content, data_pdu, status_report, Pdcp}

-- the tunnels, by what stands on them
pub data Link : Type 0 where
  n3 : Link
  f1u_downlink : Link
  f1u_uplink : Link
  forwarding_down : Link
  forwarding_up : Link

-- what a packet on a link says
pub data Item : Type 0 where
  -- a packet without a number
  fresh : (packet : List ℕ) → Item
  -- a packet with its PDCP sequence number
  numbered : (number : ℕ) (packet : List ℕ) → Item
  -- a PDCP PDU: what it says, and its octets
  pdu : (content : Content) (octets : List ℕ) → Item
  -- the same after an NR-U number
  framed : (restart : Bool) (number : ℕ) (content : Content) (octets : List ℕ) → Item
  poll : (restart : Bool) (number : ℕ) → Item
  status : (room : ℕ) (lost : List (ℕ × ℕ)) (delivered : Option ℕ) → Item
  end_of_tunnel : Item

-- how large a packet may be
abbrev pub IsSized : List ℕ → Type 0
IsSized packet = (0 < length packet) × (length packet ≤ PACKET_LIMIT)

-- A PDCP PDU that says this, with a packet of that size; a status report counts whole. This is what decodes on a radio.
abbrev pub CarriesPdu : SnBits → Content → List ℕ → Type 0
CarriesPdu sn (data_pdu number packet) octets = Pdcp sn (data_pdu number packet) octets
    × IsSized packet
CarriesPdu sn (status_report fmc bitmap) octets = Pdcp sn (status_report fmc bitmap) octets
    × IsSized octets

-- no optional field is used
pub record IsBare (kind : Kind) (p : GtpuPacket) : Type 0 where
  pub kind_is : p.kind ≡ kind
  pub seq : p.seq ≡ None
  pub npdu : p.npdu ≡ None
  pub first : p.first ≡ 0

-- a G-PDU whose one optional field is one extension header of this type and content
pub record HasHeader (code : ℕ) (content : List ℕ) (p : GtpuPacket) : Type 0 where
  pub kind_is : p.kind ≡ GPdu
  pub seq : p.seq ≡ None
  pub npdu : p.npdu ≡ None
  pub headers : AreHeaders (record { code = code; content = content } ∷ []) p.first p.chain

-- PDCP PDU Number and Long PDCP PDU Number: the type, and the number in the content, of which the low bits count
abbrev pub number_code : SnBits → ℕ
number_code Len12 = PDCP_PDU_NUMBER
number_code Len18 = LONG_PDCP_PDU_NUMBER

abbrev pub number_in : SnBits → List ℕ → ℕ
number_in Len12 content = from_be_bytes w16 content % space Len12
number_in Len18 content = from_be_bytes w32 (0 ∷ content) % space Len18

-- parts of the layouts
abbrev pub SaysFresh : List ℕ → GtpuPacket → Type 0
SaysFresh packet p = IsBare GPdu p × (p.payload ≡ packet) × IsSized packet

abbrev pub SaysNumbered : SnBits → ℕ → List ℕ → GtpuPacket → Type 0
SaysNumbered sn number packet p =
    (content : List ℕ) × HasHeader (number_code sn) content p × (number ≡ number_in sn content)
    × (p.payload ≡ packet) × IsSized packet

abbrev pub SaysEnd : GtpuPacket → Type 0
SaysEnd p = IsBare EndMarker p × (p.payload ≡ [])

-- the packet is one of the link, and says this there
abbrev pub Says : Link → SnBits → Item → GtpuPacket → Type 0
Says n3 sn (fresh packet) p = SaysFresh packet p
Says n3 sn end_of_tunnel p = SaysEnd p
Says f1u_downlink sn (framed restart number content octets) p =
    (frame : List ℕ) × HasHeader NR_RAN_CONTAINER frame p × Nru (Data false restart number) frame
    × (p.payload ≡ octets) × CarriesPdu sn content octets
Says f1u_downlink sn (poll restart number) p =
    (frame : List ℕ) × HasHeader NR_RAN_CONTAINER frame p × Nru (Data true restart number) frame
    × (p.payload ≡ [])
Says f1u_uplink sn (pdu content octets) p = IsBare GPdu p × (p.payload ≡ octets)
    × CarriesPdu sn content octets
Says f1u_uplink sn (status room lost delivered) p =
    (frame : List ℕ) × HasHeader NR_RAN_CONTAINER frame p × Nru (Status room lost delivered) frame
    × (p.payload ≡ [])
Says f1u_uplink sn end_of_tunnel p = SaysEnd p
Says forwarding_down sn (fresh packet) p = SaysFresh packet p
Says forwarding_down sn (numbered number packet) p = SaysNumbered sn number packet p
Says forwarding_down sn end_of_tunnel p = SaysEnd p
Says forwarding_up sn (numbered number packet) p = SaysNumbered sn number packet p
Says forwarding_up sn end_of_tunnel p = SaysEnd p
Says link sn item p = ⊥

-- these octets decode on the link, as a packet that says this
abbrev pub DecodesOn : Link → SnBits → Item → List ℕ → Type 0
DecodesOn link sn item octets = (p : GtpuPacket) × Gtpu p octets × Says link sn item p

-- these octets decode on the link
abbrev pub Decodes : Link → SnBits → List ℕ → Type 0
Decodes link sn octets = (item : Item) × DecodesOn link sn item octets
