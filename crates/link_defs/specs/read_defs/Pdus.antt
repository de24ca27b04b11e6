-- What octets say on a radio, and as a PDCP PDU on F1-U: a reader of the layouts (TS 38.323, 6.2).
use Rattle.std.specs.Prelude.{ℕ, ◌+◌, ◌*◌, ◌%◌, ◌&&◌, Bool, if◌then◌else◌, nat_lt, nat_le, List, [], ◌∷◌, length, Option, Some, None}
use Rattle.gnb_types.specs.declared.names.SnBits.{SnBits}
use Rattle.gnb_types.specs.declared.names.SnBits.TheVariants.{Len12, Len18}
use Rattle.pdcp.specs.declared.pdu.TheConstants.{PACKET_LIMIT}
use Rattle.pdcp.specs.Pdus.{Content, data_pdu, status_report}

-- a packet has an octet, and no more than fit
abbrev pub is_sized : List ℕ → Bool
is_sized packet = nat_lt 0 (length packet) && nat_le (length packet) PACKET_LIMIT

abbrev pub data_with : ℕ → List ℕ → Option Content
data_with number packet = if is_sized packet then Some (data_pdu number packet) else None

-- A data PDU: the number in the low four bits of the first octet and the one after it (6.2.2.2), or in the low two bits and the two
-- octets after it (6.2.2.3), and then the packet.
abbrev pub data_in : SnBits → ℕ → List ℕ → Option Content
data_in Len12 high (low ∷ packet) = data_with (high % 16 * 256 + low) packet
data_in Len18 high (middle ∷ low ∷ packet) = data_with ((high % 4 * 256 + middle) * 256 + low) packet
data_in sn high octets = None

-- A status report (6.2.3.1): the control type 0 in the bits after the first one, FMC, and the bitmap. It counts whole as a packet.
abbrev pub report_in : ℕ → List ℕ → Option Content
report_in first (a ∷ b ∷ c ∷ d ∷ bitmap) =
    if nat_lt first 16 && is_sized (first ∷ a ∷ b ∷ c ∷ d ∷ bitmap)
    then Some (status_report (((a * 256 + b) * 256 + c) * 256 + d) bitmap) else None
report_in first octets = None

-- The first bit is 1 in a data PDU, and 0 in a control PDU.
unfoldable pub pdu_on : SnBits → List ℕ → Option Content
pdu_on sn [] = None
pdu_on sn (first ∷ octets) = if nat_le 128 first then data_in sn first octets else report_in first octets
