-- PDCP PDUs as octets: data PDUs with numbers of 12 and 18 bits (TS 38.323, 6.2.2.2, 6.2.2.3), and the status report
-- (6.2.3.1).
use Rattle.std.specs.Prelude.{◌≡◌, ◌≢◌, ◌==◌, ℕ, ◌+◌, ◌*◌, ◌-◌, ◌/◌, ◌%◌, ◌^◌, ◌<◌, ◌≤◌, Bool, true, false, if◌then◌else◌, nat_le, List, [], ◌∷◌, ◌++◌, length, slice_index}
use Rattle.gnb_types.specs.Numbers.{be16, be32}
use Rattle.gnb_types.specs.Refusals.{Condition, IsFirst}
use Rattle.gnb_types.specs.declared.names.SnBits.{SnBits}
use Rattle.gnb_types.specs.declared.names.SnBits.TheVariants.{Len12, Len18}
use Rattle.pdcp.specs.declared.pdu.Pdu.{Pdu}
use Rattle.pdcp.specs.declared.pdu.Pdu.TheVariants as pdus
use Rattle.pdcp.specs.declared.pdu.PduError.{PduError}
use Rattle.pdcp.specs.declared.pdu.PduError.TheVariants.{Truncated, ControlKind}

-- what a PDU says
pub data Content : Type 0 where
  data_pdu : (number : ℕ) (packet : List ℕ) → Content
  status_report : (fmc : ℕ) (bitmap : List ℕ) → Content

-- a PDU of the code, without where its octets lie
abbrev pub content_of : Pdu → Content
content_of (pdus.Packet number packet) = data_pdu number packet.now
content_of (pdus.Report fmc bits) = status_report fmc bits.now

-- The octets are a PDU that says this. A data PDU begins with a 1, then three or five reserved bits and the number, and
-- has at least one octet of packet. A status report begins with a 0, the control type 000 and four reserved bits; then
-- come FMC and the bitmap. Reserved bits are not evaluated.
abbrev pub Pdcp : SnBits → Content → List ℕ → Type 0
Pdcp Len12 (data_pdu number packet) (high ∷ low ∷ octet ∷ octets) =
    (128 ≤ high) × (number ≡ high % 16 * 256 + low) × (packet ≡ octet ∷ octets)
Pdcp Len18 (data_pdu number packet) (high ∷ middle ∷ low ∷ octet ∷ octets) =
    (128 ≤ high) × (number ≡ (high % 4 * 256 + middle) * 256 + low) × (packet ≡ octet ∷ octets)
Pdcp sn (status_report fmc bitmap) (first ∷ a ∷ b ∷ c ∷ d ∷ octets) =
    (first < 16) × (fmc ≡ ((a * 256 + b) * 256 + c) * 256 + d) × (bitmap ≡ octets)
Pdcp sn content octets = ⊥

-- the first bit of a data PDU
abbrev pub is_data : List ℕ → Bool
is_data octets = nat_le 128 (slice_index octets 0)

-- the fewest octets of a data PDU, and of a control PDU
abbrev pub fewest : SnBits → Bool → ℕ
fewest Len12 true = 3
fewest Len18 true = 4
fewest sn false = 5

-- Why octets are no PDU: the reasons, in the order in which they are looked at.
abbrev pub refusals : SnBits → List ℕ → List (Condition PduError)
refusals sn octets =
    (Truncated, length octets < fewest sn (is_data octets))
    ∷ (ControlKind, (is_data octets ≡ false) × (slice_index octets 0 / 16 % 8 ≢ 0))
    ∷ []

-- the reason for which the octets are refused
abbrev pub IsRefusal : SnBits → PduError → List ℕ → Type 0
IsRefusal sn reason octets = IsFirst (refusals sn octets) reason

-- a data PDU as it is written, with zeros as reserved bits: the low bits of the COUNT are the number
unfoldable pub radio_data : SnBits → ℕ → List ℕ → List ℕ
radio_data Len12 count packet = (128 + count / 256 % 16) ∷ count % 256 ∷ packet
radio_data Len18 count packet = (128 + count / 65536 % 4) ∷ be16 count ++ packet

-- truth values as bits: the first is worth this much, and each further one half of the one before it
abbrev pub bits_from : ℕ → List Bool → ℕ
bits_from worth [] = 0
bits_from worth (bit ∷ bits) = (if bit then worth else 0) + bits_from (worth / 2) bits

-- up to eight of them as an octet, the first in its highest bit, with zeros after the last
abbrev pub octet_of : List Bool → ℕ
octet_of bits = bits_from 128 bits

-- a bitmap: eight to an octet, the last octet filled up with zeros
unfoldable pub bitmap : List Bool → List ℕ
bitmap [] = []
bitmap (a ∷ b ∷ c ∷ d ∷ e ∷ f ∷ g ∷ h ∷ bits) = octet_of (a ∷ b ∷ c ∷ d ∷ e ∷ f ∷ g ∷ h ∷ []) ∷ bitmap bits
bitmap bits = octet_of bits ∷ []

-- a status report as it is written: FMC, and the bits of the COUNTs above it
abbrev pub report_octets : ℕ → List Bool → List ℕ
report_octets fmc bits = 0 ∷ be32 fmc ++ bitmap bits

-- bit k of a bitmap, counted from 1 at the highest bit of the first octet; none is set after the last octet
abbrev pub bitmap_bit : List ℕ → ℕ → Bool
bitmap_bit octets k = slice_index octets ((k - 1) / 8) / 2 ^ (7 - (k - 1) % 8) % 2 == 1
