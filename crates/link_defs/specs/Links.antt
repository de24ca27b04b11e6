-- What stands on each link, as octets: a GTP-U packet on a tunnel (TS 29.281), with an NR-U frame on F1-U (TS 38.425),
-- and a PDCP PDU on F1-U and on the radio (TS 38.323).
use Rattle.std.specs.Prelude.{ℕ, ◌+◌, List, [], ◌∷◌, ◌++◌, length}
use Rattle.gnb_types.specs.declared.names.SnBits.{SnBits}
use Rattle.gtpu.specs.declared.headers.TheConstants.{NR_RAN_CONTAINER}
-- numbers of two, three and four octets, the highest first
pub use Rattle.gnb_types.specs.Numbers.{be16, be24, be32}
-- a PDCP data PDU: the bit for data, the low bits of the COUNT, and the packet
unfoldable pub use Rattle.pdcp.specs.Pdus.{radio_data}

-- a G-PDU without flags around the packet
unfoldable pub n3_downlink : ℕ → List ℕ → List ℕ
n3_downlink teid packet = 48 ∷ 255 ∷ be16 (length packet) ++ be32 teid ++ packet

-- a G-PDU with one NR RAN Container, an NR-U data frame with both flags 0, around a PDCP data PDU
unfoldable pub f1u_downlink_data : SnBits → ℕ → ℕ → ℕ → List ℕ → List ℕ
f1u_downlink_data sn teid number count packet =
    let pdu = radio_data sn count packet in
    52 ∷ 255 ∷ be16 (12 + length pdu) ++ be32 teid
    ++ (0 ∷ 0 ∷ 0 ∷ NR_RAN_CONTAINER ∷ 2 ∷ 0 ∷ 0 ∷ be24 number ++ 0 ∷ 0 ∷ []) ++ pdu
