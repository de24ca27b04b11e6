-- Which packet an item says: by its octets, or shown alone in their place.
use Rattle.std.specs.Prelude.{ℕ, ◌≡◌, List, [], ◌∷◌, Option, Some, None}
use Rattle.gnb_types.specs.declared.names.SnBits.{SnBits}
use Rattle.message_types.specs.declared.rrc.Token.{Token}
use Rattle.scenario_text.specs.declared.line.Link.{Link}
use Rattle.scenario_text.specs.declared.line.Link.TheVariants.{Tunnel, Radio}
use Rattle.scenario_text.specs.declared.line.Item.{Item as ShownItem}
use Rattle.unit_defs.specs.Ways.{Message, Pdu, packet_pdu, report_pdu, Load, fresh, numbered, frame, uplink, status, end_marker}
use Rattle.unit_defs.specs.octet_defs.Writing.{pdu_octets, load_octets, written_load}
use Rattle.run_defs.specs.States.{World}
use Rattle.run_defs.specs.Written.{Written}
use Rattle.run_defs.specs.Runs.{Reading, plain_world}
use Rattle.law_tunnels_are_owned.specs.link_items.Items.{count_of_pdu, count_of_load, MayStand}

-- ---- the packet in it, if one is

abbrev pub packet_of_pdu : Pdu → Option (List ℕ)
packet_of_pdu (packet_pdu count p) = Some p
packet_of_pdu (report_pdu fmc bits) = None

abbrev pub packet_of_payload : Option Pdu → Option (List ℕ)
packet_of_payload None = None
packet_of_payload (Some pdu) = packet_of_pdu pdu

abbrev pub packet_of_load : Load Pdu → Option (List ℕ)
packet_of_load (fresh p) = Some p
packet_of_load (numbered sn count p) = Some p
packet_of_load (frame poll restart number pdu) = packet_of_payload pdu
packet_of_load (uplink pdu) = packet_of_pdu pdu
packet_of_load (status lost delivered) = None
packet_of_load end_marker = None

-- ---- a shown item says this packet, or none

abbrev pub Saying : Type 1
Saying = Link → ShownItem → Option (List ℕ) → Type 0

-- Its octets are those of what has this packet: on a tunnel, of what may stand there; with the COUNT that is shown, and with numbers of
-- one of the two lengths.
abbrev pub SaysInOctets : Saying
SaysInOctets (Tunnel end teid) item said =
    (load : Load Pdu) × (said ≡ packet_of_load load) × MayStand end item.dir load × (item.count ≡ count_of_load load)
    × ((sn : SnBits) × (item.bytes ≡ load_octets teid (written_load sn load)))
SaysInOctets (Radio ue bearer dir epoch) item said =
    (pdu : Pdu) × (said ≡ packet_of_pdu pdu) × (item.count ≡ count_of_pdu pdu) × ((sn : SnBits) × (item.bytes ≡ pdu_octets sn pdu))

-- the packet stands in place of the octets, after a mark
abbrev pub shown_alone : Option (List ℕ) → List ℕ
shown_alone None = []
shown_alone (Some p) = 1 ∷ p

abbrev pub SaysAlone : Saying
SaysAlone link item said = item.bytes ≡ shown_alone said

-- ---- the run of `Run`, with other octets shown of an item and of a PDU; and with their packets alone

abbrev pub showing : Reading → (Written (Load Pdu) → List ℕ) → (Written Pdu → List ℕ) → World (Message Token) Token (Written (Load Pdu)) (Written Pdu)
showing reading show_item show_pdu = record (plain_world reading) { show_item = show_item; show_pdu = show_pdu }

abbrev pub showing_packets : Reading → World (Message Token) Token (Written (Load Pdu)) (Written Pdu)
showing_packets reading =
    showing reading (λ item. shown_alone (packet_of_load item.says)) (λ pdu. shown_alone (packet_of_pdu pdu.says))
