-- The GTP-U packet that each layout of a link is.
use Rattle.std.proofs.Common.{◌≡◌, ℕ, ◌+◌, ◌^◌, ◌<◌, ◌≤◌, List, [], ◌∷◌, ◌++◌, length, refl, sym, subst, arith}
use Rattle.gnb_types.specs.declared.names.SnBits.{SnBits}
use Rattle.gtpu.specs.declared.headers.TheConstants.{NR_RAN_CONTAINER}
use Rattle.gtpu.specs.declared.TheConstants.{LENGTH_LIMIT}
use Rattle.gtpu.specs.Headers.{ExtensionHeader, IsHeader}
use Rattle.gtpu.specs.Packets.{Gtpu, gtpu_octets, body_of}
use Rattle.gtpu.proofs.Chains.{no_headers, one_header}
use Rattle.gtpu.proofs.Writing.{written_is_read}
use Rattle.link_defs.specs.GPdus.{plain_pdu, pdu_with}
use Rattle.link_defs.specs.Links.{be16, be24, be32, radio_data, n3_downlink, f1u_downlink_data}

-- ---- a packet is read again

pub plain_reads : (teid : ℕ) (payload : List ℕ) → teid < 2 ^ 32 → length payload ≤ LENGTH_LIMIT
    → Gtpu (plain_pdu teid payload) (gtpu_octets (plain_pdu teid payload))
plain_reads teid payload fits counted = written_is_read (plain_pdu teid payload) (record { teid = fits; seq = tt; chain = no_headers; length_fits = counted })

pub pdu_with_reads : (teid : ℕ) (h : ExtensionHeader) (payload : List ℕ) → teid < 2 ^ 32 → IsHeader h
    → length (body_of (pdu_with teid h payload)) ≤ LENGTH_LIMIT → Gtpu (pdu_with teid h payload) (gtpu_octets (pdu_with teid h payload))
pdu_with_reads teid h payload fits header counted = written_is_read (pdu_with teid h payload) (record { teid = fits; seq = tt; chain = one_header h header; length_fits = counted })

-- ---- N3 downlink

pub n3_downlink_is : (teid : ℕ) (packet : List ℕ) → n3_downlink teid packet ≡ gtpu_octets (plain_pdu teid packet)
unfolding n3_downlink gtpu_octets
n3_downlink_is teid packet = refl

pub n3_downlink_reads : (teid : ℕ) (packet : List ℕ) → teid < 2 ^ 32 → length packet ≤ LENGTH_LIMIT
    → Gtpu (plain_pdu teid packet) (n3_downlink teid packet)
n3_downlink_reads teid packet fits counted = subst (λ (octets : List ℕ). Gtpu (plain_pdu teid packet) octets) (sym (n3_downlink_is teid packet)) (plain_reads teid packet fits counted)

-- ---- F1-U downlink

-- the NR RAN Container with a data frame whose flags are 0
abbrev pub data_header : ℕ → ExtensionHeader
data_header number = record { code = NR_RAN_CONTAINER; content = 0 ∷ 0 ∷ be24 number ++ 0 ∷ [] }

pub data_header_is : (number : ℕ) → IsHeader (data_header number)
data_header_is number = record { some = omega arith; passed = refl; whole = refl; size = refl }

pub f1u_downlink_data_is : (sn : SnBits) (teid number count : ℕ) (packet : List ℕ)
    → f1u_downlink_data sn teid number count packet ≡ gtpu_octets (pdu_with teid (data_header number) (radio_data sn count packet))
unfolding f1u_downlink_data gtpu_octets
f1u_downlink_data_is sn teid number count packet =
    let pdu = radio_data sn count packet in
    let counts : 12 + length pdu ≡ length (body_of (pdu_with teid (data_header number) pdu)) = omega arith in
    λ i. 52 ∷ 255 ∷ be16 (counts i) ++ be32 teid ++ (0 ∷ 0 ∷ 0 ∷ NR_RAN_CONTAINER ∷ 2 ∷ 0 ∷ 0 ∷ be24 number ++ 0 ∷ 0 ∷ []) ++ pdu

pub f1u_downlink_data_reads : (sn : SnBits) (teid number count : ℕ) (packet : List ℕ) → teid < 2 ^ 32
    → length (radio_data sn count packet) ≤ 65523
    → Gtpu (pdu_with teid (data_header number) (radio_data sn count packet)) (f1u_downlink_data sn teid number count packet)
f1u_downlink_data_reads sn teid number count packet fits counted =
    let p = pdu_with teid (data_header number) (radio_data sn count packet) in
    subst (λ (octets : List ℕ). Gtpu p octets) (sym (f1u_downlink_data_is sn teid number count packet))
    (pdu_with_reads teid (data_header number) (radio_data sn count packet) fits (data_header_is number) (omega (arith, counted)))
