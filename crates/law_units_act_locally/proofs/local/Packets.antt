-- The GTP-U packet that a reader finds in octets that are written, whatever the TEID; and which packet an item of a link has in it.
use Rattle.std.proofs.Common.{◌≡◌, ℕ, ◌/◌, ◌%◌, ◌^◌, ◌<◌, ◌≤◌, Bool, List, [], ◌∷◌, ◌++◌, length, Some, sym, ap, ◌∙◌, subst, arith}
use Rattle.gnb_types.specs.Numbers.{be16, be24, be32}
use Rattle.gnb_types.specs.declared.names.SnBits.{SnBits}
use Rattle.gnb_types.specs.declared.names.SnBits.TheVariants.{Len12, Len18}
use Rattle.gtpu.specs.declared.TheConstants.{LENGTH_LIMIT}
use Rattle.gtpu.specs.declared.Kind.TheVariants.{GPdu, EndMarker}
use Rattle.gtpu.specs.declared.headers.TheConstants.{NR_RAN_CONTAINER}
use Rattle.gtpu.specs.Headers.{ExtensionHeader, IsHeader}
use Rattle.gtpu.specs.Packets.{GtpuPacket, Gtpu, gtpu_octets, body_of, flags_of, kind_code}
use Rattle.gtpu.proofs.Chains.{no_headers, one_header}
use Rattle.gtpu.proofs.Unique.{one_packet}
use Rattle.gtpu.proofs.Writing.{written_is_read}
use Rattle.nr_user_plane.specs.declared.frames.Frame.{Frame}
use Rattle.nr_user_plane.specs.declared.frames.Frame.TheVariants.{Data}
use Rattle.nr_user_plane.specs.Frames.{flag, filled}
use Rattle.pdcp.specs.Pdus.{Content, data_pdu, status_report, Pdcp, radio_data, report_octets}
use Rattle.link_defs.specs.GPdus.{plain_pdu, pdu_with, end_packet}
use Rattle.link_defs.specs.Layouts.{frame_header}
use Rattle.link_defs.specs.Decoding.{Link, n3, f1u_downlink, f1u_uplink, forwarding_down, forwarding_up, Item, fresh, numbered, pdu, framed, poll, status, end_of_tunnel, CarriesPdu, HasHeader, number_code, Says}
use Rattle.run_defs.specs.Carried.{packet_of_pdu, packet_of}

-- ---- TEIDs of 32 bits and frame numbers of 24 bits are written

same_octets : (n : ℕ) → be32 n ≡ be32 (n % 2 ^ 32)
same_octets n =
    let a : n / 16777216 % 256 ≡ n % 2 ^ 32 / 16777216 % 256 = omega arith in
    let b : n / 65536 % 256 ≡ n % 2 ^ 32 / 65536 % 256 = omega arith in
    let c : n / 256 % 256 ≡ n % 2 ^ 32 / 256 % 256 = omega arith in
    let d : n % 256 ≡ n % 2 ^ 32 % 256 = omega arith in
    λ i. a i ∷ b i ∷ c i ∷ d i ∷ []

pub same_teid : (p : GtpuPacket) → gtpu_octets p ≡ gtpu_octets (record p { teid = p.teid % 2 ^ 32 })
unfolding gtpu_octets
same_teid p =
    ap (λ (os : List ℕ). flags_of p ∷ kind_code p.kind ∷ be16 (length (body_of p)) ++ os ++ body_of p) (same_octets p.teid)

same_number : (n : ℕ) → be24 n ≡ be24 (n % 2 ^ 24)
same_number n =
    let a : n / 65536 % 256 ≡ n % 2 ^ 24 / 65536 % 256 = omega arith in
    let b : n / 256 % 256 ≡ n % 2 ^ 24 / 256 % 256 = omega arith in
    let c : n % 256 ≡ n % 2 ^ 24 % 256 = omega arith in
    λ i. a i ∷ b i ∷ c i ∷ []

pub same_frame : (polls restart : Bool) (number : ℕ) → frame_header (Data polls restart number) ≡ frame_header (Data polls restart (number % 2 ^ 24))
same_frame polls restart number =
    ap (λ (os : List ℕ). record { code = NR_RAN_CONTAINER; content = filled (flag polls ∷ flag restart ∷ os) }) (same_number number)

-- ---- what is read can be counted, so it is what was written

counted : (q p : GtpuPacket) → Gtpu q (gtpu_octets p) → length (body_of p) ≤ LENGTH_LIMIT
unfolding Gtpu gtpu_octets
counted q p h = omega (arith, h.length_is)

small : (n : ℕ) → n % 2 ^ 32 < 2 ^ 32
small n = omega arith

pub plain_read : (q : GtpuPacket) (teid : ℕ) (payload : List ℕ) → Gtpu q (gtpu_octets (plain_pdu teid payload)) → q ≡ plain_pdu (teid % 2 ^ 32) payload
plain_read q teid payload h =
    let p : GtpuPacket = plain_pdu (teid % 2 ^ 32) payload in
    let k : Gtpu q (gtpu_octets p) = subst (λ (os : List ℕ). Gtpu q os) (same_teid (plain_pdu teid payload)) h in
    one_packet (gtpu_octets p) q p k
    (written_is_read p (record { teid = small teid; seq = tt; chain = no_headers; length_fits = counted q p k }))

pub end_read : (q : GtpuPacket) (teid : ℕ) → Gtpu q (gtpu_octets (end_packet teid)) → q ≡ end_packet (teid % 2 ^ 32)
end_read q teid h =
    let p : GtpuPacket = end_packet (teid % 2 ^ 32) in
    let k : Gtpu q (gtpu_octets p) = subst (λ (os : List ℕ). Gtpu q os) (same_teid (end_packet teid)) h in
    one_packet (gtpu_octets p) q p k
    (written_is_read p (record { teid = small teid; seq = tt; chain = no_headers; length_fits = counted q p k }))

pub with_read : (q : GtpuPacket) (teid : ℕ) (h : ExtensionHeader) (payload : List ℕ) → IsHeader h → Gtpu q (gtpu_octets (pdu_with teid h payload))
    → q ≡ pdu_with (teid % 2 ^ 32) h payload
with_read q teid h payload is read =
    let p : GtpuPacket = pdu_with (teid % 2 ^ 32) h payload in
    let k : Gtpu q (gtpu_octets p) = subst (λ (os : List ℕ). Gtpu q os) (same_teid (pdu_with teid h payload)) read in
    one_packet (gtpu_octets p) q p k
    (written_is_read p (record { teid = small teid; seq = tt; chain = one_header h is; length_fits = counted q p k }))

-- ---- PDUs

pub data_of : (sn : SnBits) (n count : ℕ) (x p : List ℕ) → Pdcp sn (data_pdu n x) (radio_data sn count p) → x ≡ p
unfolding radio_data
data_of Len12 n count x (y ∷ p) h = h.2
data_of Len12 n count x [] h = absurd h
data_of Len18 n count x (y ∷ p) h = h.2
data_of Len18 n count x [] h = absurd h

pub no_data : (sn : SnBits) (n fmc : ℕ) (bits : List Bool) (x : List ℕ) → Pdcp sn (data_pdu n x) (report_octets fmc bits) → ⊥
no_data Len12 n fmc bits x h = omega (arith, h.0)
no_data Len18 n fmc bits x h = omega (arith, h.0)

none_in : (sn : SnBits) (n : ℕ) (x : List ℕ) → Pdcp sn (data_pdu n x) [] → ⊥
none_in Len12 n x h = h
none_in Len18 n x h = h

-- the packet in a PDU that a link carries
abbrev pub PduHas : SnBits → Content → List ℕ → List ℕ → Type 0
PduHas sn content octets x = CarriesPdu sn content octets × (packet_of_pdu content ≡ Some x)

pub carried_data : (sn : SnBits) (content : Content) (count : ℕ) (p x : List ℕ) → PduHas sn content (radio_data sn count p) x → p ≡ x
carried_data sn (data_pdu n y) count p x h =
    let same : y ≡ x = cc in
    sym (data_of sn n count y p h.0.0) ∙ same
carried_data sn (status_report fmc bitmap) count p x h = absurd cc

pub carried_report : (sn : SnBits) (content : Content) (fmc : ℕ) (bits : List Bool) (x : List ℕ) → PduHas sn content (report_octets fmc bits) x → ⊥
carried_report sn (data_pdu n y) fmc bits x h = no_data sn n fmc bits y h.0.0
carried_report sn (status_report f bitmap) fmc bits x h = absurd cc

carried_none : (sn : SnBits) (content : Content) (x : List ℕ) → PduHas sn content [] x → ⊥
carried_none sn (data_pdu n y) x h = none_in sn n y h.0.0
carried_none sn (status_report f bitmap) x h = absurd cc

-- ---- what an item that is found in such a packet has

-- down to a CU-UP: N3 and forwarding
abbrev pub IsDown : Link → Type 0
IsDown n3 = Unit {0}
IsDown forwarding_down = Unit {0}
IsDown link = ⊥

-- up to one: F1-U and forwarding
abbrev pub IsUp : Link → Type 0
IsUp f1u_uplink = Unit {0}
IsUp forwarding_up = Unit {0}
IsUp link = ⊥

no_header : (code : ℕ) (content : List ℕ) (teid : ℕ) (payload : List ℕ) → HasHeader code content (plain_pdu teid payload) → ⊥
no_header code content teid payload h = omega (arith, h.headers.first_is, h.headers.each.0.some)

not_data : {X : Type 0} → EndMarker ≡ GPdu → X
not_data e = absurd cc

pub down_plain : (link : Link) (sn : SnBits) (d : Item) (teid : ℕ) (payload x : List ℕ) → IsDown link → Says link sn d (plain_pdu teid payload)
    → packet_of d ≡ Some x → payload ≡ x
down_plain n3 sn (fresh y) teid payload x at h is = let same : y ≡ x = cc in h.1 ∙ same
down_plain forwarding_down sn (fresh y) teid payload x at h is = let same : y ≡ x = cc in h.1 ∙ same
down_plain forwarding_down sn (numbered n y) teid payload x at h is = absurd (no_header (number_code sn) h.0 teid payload h.1)
down_plain n3 sn end_of_tunnel teid payload x at h is = absurd cc
down_plain forwarding_down sn end_of_tunnel teid payload x at h is = absurd cc
down_plain n3 sn d teid payload x at h is = absurd h
down_plain forwarding_down sn d teid payload x at h is = absurd h
down_plain link sn d teid payload x at h is = absurd at

pub down_numbered : (link : Link) (sn : SnBits) (d : Item) (teid : ℕ) (k : ExtensionHeader) (payload x : List ℕ) → IsHeader k → IsDown link
    → Says link sn d (pdu_with teid k payload) → packet_of d ≡ Some x → payload ≡ x
down_numbered n3 sn (fresh y) teid k payload x is at h e = absurd (omega (arith, is.some, h.0.first))
down_numbered forwarding_down sn (fresh y) teid k payload x is at h e = absurd (omega (arith, is.some, h.0.first))
down_numbered forwarding_down sn (numbered n y) teid k payload x is at h e = let same : y ≡ x = cc in h.3 ∙ same
down_numbered n3 sn end_of_tunnel teid k payload x is at h e = absurd cc
down_numbered forwarding_down sn end_of_tunnel teid k payload x is at h e = absurd cc
down_numbered n3 sn d teid k payload x is at h e = absurd h
down_numbered forwarding_down sn d teid k payload x is at h e = absurd h
down_numbered link sn d teid k payload x is at h e = absurd at

other_code : (sn : SnBits) → NR_RAN_CONTAINER ≡ number_code sn → ⊥
other_code Len12 e = omega (arith, e)
other_code Len18 e = omega (arith, e)

pub down_frame : (link : Link) (sn : SnBits) (d : Item) (teid : ℕ) (frame : Frame) (payload x : List ℕ) → IsHeader (frame_header frame) → IsDown link
    → Says link sn d (pdu_with teid (frame_header frame) payload) → packet_of d ≡ Some x → ⊥
down_frame n3 sn (fresh y) teid frame payload x is at h e = omega (arith, is.some, h.0.first)
down_frame forwarding_down sn (fresh y) teid frame payload x is at h e = omega (arith, is.some, h.0.first)
down_frame forwarding_down sn (numbered n y) teid frame payload x is at h e = other_code sn h.1.headers.first_is
down_frame n3 sn end_of_tunnel teid frame payload x is at h e = absurd cc
down_frame forwarding_down sn end_of_tunnel teid frame payload x is at h e = absurd cc
down_frame n3 sn d teid frame payload x is at h e = absurd h
down_frame forwarding_down sn d teid frame payload x is at h e = absurd h
down_frame link sn d teid frame payload x is at h e = absurd at

pub down_end : (link : Link) (sn : SnBits) (d : Item) (teid : ℕ) (x : List ℕ) → IsDown link → Says link sn d (end_packet teid) → packet_of d ≡ Some x → ⊥
down_end n3 sn (fresh y) teid x at h e = not_data h.0.kind_is
down_end forwarding_down sn (fresh y) teid x at h e = not_data h.0.kind_is
down_end forwarding_down sn (numbered n y) teid x at h e = not_data h.1.kind_is
down_end n3 sn end_of_tunnel teid x at h e = absurd cc
down_end forwarding_down sn end_of_tunnel teid x at h e = absurd cc
down_end n3 sn d teid x at h e = absurd h
down_end forwarding_down sn d teid x at h e = absurd h
down_end link sn d teid x at h e = absurd at

pub up_plain : (link : Link) (sn : SnBits) (d : Item) (teid : ℕ) (payload x : List ℕ) → IsUp link → Says link sn d (plain_pdu teid payload)
    → packet_of d ≡ Some x → (content : Content) × PduHas sn content payload x
up_plain f1u_uplink sn (pdu c o) teid payload x at h e = (c, (subst (λ (os : List ℕ). CarriesPdu sn c os) (sym h.1) h.2, e))
up_plain f1u_uplink sn (status room lost delivered) teid payload x at h e = absurd cc
up_plain f1u_uplink sn end_of_tunnel teid payload x at h e = absurd cc
up_plain forwarding_up sn (numbered n y) teid payload x at h e = absurd (no_header (number_code sn) h.0 teid payload h.1)
up_plain forwarding_up sn end_of_tunnel teid payload x at h e = absurd cc
up_plain f1u_uplink sn d teid payload x at h e = absurd h
up_plain forwarding_up sn d teid payload x at h e = absurd h
up_plain link sn d teid payload x at h e = absurd at

pub up_numbered : (link : Link) (sn : SnBits) (d : Item) (teid : ℕ) (k : ExtensionHeader) (payload x : List ℕ) → IsHeader k → IsUp link
    → Says link sn d (pdu_with teid k payload) → packet_of d ≡ Some x → payload ≡ x
up_numbered f1u_uplink sn (pdu c o) teid k payload x is at h e = absurd (omega (arith, is.some, h.0.first))
up_numbered f1u_uplink sn (status room lost delivered) teid k payload x is at h e = absurd cc
up_numbered f1u_uplink sn end_of_tunnel teid k payload x is at h e = absurd cc
up_numbered forwarding_up sn (numbered n y) teid k payload x is at h e = let same : y ≡ x = cc in h.3 ∙ same
up_numbered forwarding_up sn end_of_tunnel teid k payload x is at h e = absurd cc
up_numbered f1u_uplink sn d teid k payload x is at h e = absurd h
up_numbered forwarding_up sn d teid k payload x is at h e = absurd h
up_numbered link sn d teid k payload x is at h e = absurd at

pub up_end : (link : Link) (sn : SnBits) (d : Item) (teid : ℕ) (x : List ℕ) → IsUp link → Says link sn d (end_packet teid) → packet_of d ≡ Some x → ⊥
up_end f1u_uplink sn (pdu c o) teid x at h e = not_data h.0.kind_is
up_end f1u_uplink sn (status room lost delivered) teid x at h e = absurd cc
up_end f1u_uplink sn end_of_tunnel teid x at h e = absurd cc
up_end forwarding_up sn (numbered n y) teid x at h e = not_data h.1.kind_is
up_end forwarding_up sn end_of_tunnel teid x at h e = absurd cc
up_end f1u_uplink sn d teid x at h e = absurd h
up_end forwarding_up sn d teid x at h e = absurd h
up_end link sn d teid x at h e = absurd at

pub to_du : (sn : SnBits) (d : Item) (teid : ℕ) (k : ExtensionHeader) (payload x : List ℕ) → Says f1u_downlink sn d (pdu_with teid k payload)
    → packet_of d ≡ Some x → (content : Content) × PduHas sn content payload x
to_du sn (framed restart n c o) teid k payload x h e = (c, (subst (λ (os : List ℕ). CarriesPdu sn c os) (sym h.3) h.4, e))
to_du sn (poll restart n) teid k payload x h e = absurd cc
to_du sn d teid k payload x h e = absurd h

pub none_of : (sn : SnBits) (content : Content) (x : List ℕ) → PduHas sn content [] x → ⊥
none_of sn content x h = carried_none sn content x h
