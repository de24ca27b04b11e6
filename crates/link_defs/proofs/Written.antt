-- Each layout decodes on its link, to what was put.
use Rattle.std.proofs.Common.{◌≡◌, ℕ, ◌+◌, ◌-◌, ◌*◌, ◌/◌, ◌%◌, ◌^◌, ◌<◌, ◌≤◌, Bool, true, false, if◌then◌else◌, Option, Some, None, List, [], ◌∷◌, ◌++◌, length, replicate, flat_map, refl, sym, subst, length-append, arith, lt-ltb}
use Rattle.std.proofs.lemmas.List.{length-replicate}
use Rattle.gnb_types.specs.declared.names.SnBits.{SnBits}
use Rattle.gnb_types.specs.declared.names.SnBits.TheVariants.{Len12, Len18}
use Rattle.gtpu.specs.declared.TheConstants.{LENGTH_LIMIT}
use Rattle.pdcp.specs.declared.pdu.TheConstants.{PACKET_LIMIT}
use Rattle.gtpu.specs.Headers.{ExtensionHeader, IsHeader, header_octets}
use Rattle.gtpu.specs.Packets.{Gtpu, gtpu_octets, body_of, optional_of, has_flag, flags_of}
use Rattle.gtpu.proofs.Chains.{no_headers, are_one_header}
use Rattle.gtpu.proofs.Writing.{written_is_read}
use Rattle.nr_user_plane.specs.declared.frames.Frame.{Frame}
use Rattle.nr_user_plane.specs.declared.frames.Frame.TheVariants.{Data, Status}
use Rattle.gnb_types.specs.Numbers.{be24}
use Rattle.nr_user_plane.specs.Frames.{nru_octets, filled, field_octets, lost_octets, delivered_octets, FitsFrame}
use Rattle.nr_user_plane.proofs.Spellings.{frame_written}
use Rattle.pdcp.specs.Numbers.{space}
use Rattle.pdcp.specs.Pdus.{Content, data_pdu, status_report, radio_data, report_octets, bitmap}
use Rattle.link_defs.specs.GPdus.{plain_pdu, pdu_with, end_packet}
use Rattle.link_defs.specs.Links.{n3_downlink, f1u_downlink_data}
use Rattle.link_defs.specs.Layouts.{frame_header, number_header, f1u_downlink_packet, f1u_downlink_report, f1u_downlink_poll, f1u_uplink_pdu, f1u_uplink_data, f1u_uplink_report, desired_buffer_size, delivery_status, forwarded_numbered, forwarded_late, forwarded_fresh, end_marker}
use Rattle.link_defs.specs.Decoding.{n3, f1u_downlink, f1u_uplink, forwarding_down, forwarding_up, fresh, numbered, pdu, framed, poll, status, end_of_tunnel, IsSized, CarriesPdu, HasHeader, SaysNumbered, DecodesOn}
use Rattle.link_defs.proofs.Pdus.{length-radio_data, data_carried, report_carried, data_frame_read, length-data_frame}
use Rattle.link_defs.proofs.Shells.{plain_reads, pdu_with_reads, n3_downlink_reads, f1u_downlink_data_is}

-- ---- packets without optional fields

pub n3_downlink_decodes : (sn : SnBits) (teid : ℕ) (packet : List ℕ) → teid < 2 ^ 32 → IsSized packet
    → DecodesOn n3 sn (fresh packet) (n3_downlink teid packet)
n3_downlink_decodes sn teid packet fits sized =
    (plain_pdu teid packet, n3_downlink_reads teid packet fits (omega (arith, sized.1)), (record { kind_is = refl; seq = refl; npdu = refl; first = refl }, refl, sized))

pub forwarded_fresh_decodes : (sn : SnBits) (teid : ℕ) (packet : List ℕ) → teid < 2 ^ 32 → IsSized packet
    → DecodesOn forwarding_down sn (fresh packet) (forwarded_fresh teid packet)
unfolding forwarded_fresh
forwarded_fresh_decodes sn teid packet fits sized =
    (plain_pdu teid packet, plain_reads teid packet fits (omega (arith, sized.1)), (record { kind_is = refl; seq = refl; npdu = refl; first = refl }, refl, sized))

pub f1u_uplink_pdu_decodes : (sn : SnBits) (teid : ℕ) (content : Content) (octets : List ℕ) → teid < 2 ^ 32 → length octets ≤ LENGTH_LIMIT
    → CarriesPdu sn content octets → DecodesOn f1u_uplink sn (pdu content octets) (f1u_uplink_pdu teid octets)
unfolding f1u_uplink_pdu
f1u_uplink_pdu_decodes sn teid content octets fits counted carried =
    (plain_pdu teid octets, plain_reads teid octets fits counted, (record { kind_is = refl; seq = refl; npdu = refl; first = refl }, refl, carried))

pub f1u_uplink_data_decodes : (sn : SnBits) (teid count : ℕ) (packet : List ℕ) → teid < 2 ^ 32 → IsSized packet
    → DecodesOn f1u_uplink sn (pdu (data_pdu (count % space sn) packet) (radio_data sn count packet)) (f1u_uplink_data sn teid count packet)
f1u_uplink_data_decodes sn teid count packet fits sized =
    f1u_uplink_pdu_decodes sn teid (data_pdu (count % space sn) packet) (radio_data sn count packet) fits (omega (arith, sized.1, length-radio_data sn count packet)) (data_carried sn count packet sized)

pub f1u_uplink_report_decodes : (sn : SnBits) (teid fmc : ℕ) (bits : List Bool) → teid < 2 ^ 32 → fmc < 2 ^ 32
    → length (report_octets fmc bits) ≤ PACKET_LIMIT
    → DecodesOn f1u_uplink sn (pdu (status_report fmc (bitmap bits)) (report_octets fmc bits)) (f1u_uplink_report teid fmc bits)
f1u_uplink_report_decodes sn teid fmc bits fits fmc_fits sized =
    f1u_uplink_pdu_decodes sn teid (status_report fmc (bitmap bits)) (report_octets fmc bits) fits (omega (arith, sized)) (report_carried sn fmc bits fmc_fits sized)

end_reads : (teid : ℕ) → teid < 2 ^ 32 → Gtpu (end_packet teid) (end_marker teid)
unfolding end_marker
end_reads teid fits = written_is_read (end_packet teid) (record { teid = fits; seq = tt; chain = no_headers; length_fits = omega arith })

pub end_marker_decodes_on_n3 : (sn : SnBits) (teid : ℕ) → teid < 2 ^ 32 → DecodesOn n3 sn end_of_tunnel (end_marker teid)
end_marker_decodes_on_n3 sn teid fits = (end_packet teid, end_reads teid fits, (record { kind_is = refl; seq = refl; npdu = refl; first = refl }, refl))

pub end_marker_decodes_on_f1u_uplink : (sn : SnBits) (teid : ℕ) → teid < 2 ^ 32 → DecodesOn f1u_uplink sn end_of_tunnel (end_marker teid)
end_marker_decodes_on_f1u_uplink sn teid fits = (end_packet teid, end_reads teid fits, (record { kind_is = refl; seq = refl; npdu = refl; first = refl }, refl))

pub end_marker_decodes_on_forwarding_down : (sn : SnBits) (teid : ℕ) → teid < 2 ^ 32
    → DecodesOn forwarding_down sn end_of_tunnel (end_marker teid)
end_marker_decodes_on_forwarding_down sn teid fits = (end_packet teid, end_reads teid fits, (record { kind_is = refl; seq = refl; npdu = refl; first = refl }, refl))

pub end_marker_decodes_on_forwarding_up : (sn : SnBits) (teid : ℕ) → teid < 2 ^ 32
    → DecodesOn forwarding_up sn end_of_tunnel (end_marker teid)
end_marker_decodes_on_forwarding_up sn teid fits = (end_packet teid, end_reads teid fits, (record { kind_is = refl; seq = refl; npdu = refl; first = refl }, refl))

-- ---- packets with one header

some_fields : (b : Bool) (w x y z : ℕ) → length (if b then w ∷ x ∷ y ∷ z ∷ [] else []) ≤ 4
some_fields true w x y z = omega arith
some_fields false w x y z = omega arith

pub length-pdu_with : (teid : ℕ) (h : ExtensionHeader) (payload : List ℕ)
    → length (body_of (pdu_with teid h payload)) ≤ length h.content + 6 + length payload
length-pdu_with teid h payload =
    let p = pdu_with teid h payload in
    omega (arith, some_fields (has_flag (flags_of p)) 0 0 0 h.code, length-append (optional_of p ++ header_octets h 0) payload, length-append (optional_of p) (header_octets h 0), length-append h.content (0 ∷ []))

has_header : (teid : ℕ) (h : ExtensionHeader) (payload : List ℕ) → IsHeader h → HasHeader h.code h.content (pdu_with teid h payload)
has_header teid h payload is = record { kind_is = refl; seq = refl; npdu = refl; headers = are_one_header h is }

-- a PDCP number

pub number_header_is : (sn : SnBits) (count : ℕ) → IsHeader (number_header sn count)
number_header_is Len12 count = record { some = omega arith; passed = refl; whole = refl; size = refl }
number_header_is Len18 count = record { some = omega arith; passed = refl; whole = refl; size = refl }

length-number_header : (sn : SnBits) (count : ℕ) → length (number_header sn count).content ≤ 6
length-number_header Len12 count = omega arith
length-number_header Len18 count = omega arith

numbered_reads : (sn : SnBits) (teid count : ℕ) (packet : List ℕ) → teid < 2 ^ 32 → IsSized packet
    → Gtpu (pdu_with teid (number_header sn count) packet) (forwarded_numbered sn teid count packet)
unfolding forwarded_numbered
numbered_reads sn teid count packet fits sized =
    pdu_with_reads teid (number_header sn count) packet fits (number_header_is sn count) (omega (arith, sized.1, length-pdu_with teid (number_header sn count) packet, length-number_header sn count))

numbered_says : (sn : SnBits) (teid count : ℕ) (packet : List ℕ) → IsSized packet
    → SaysNumbered sn (count % space sn) packet (pdu_with teid (number_header sn count) packet)
numbered_says Len12 teid count packet sized = ((number_header Len12 count).content, has_header teid (number_header Len12 count) packet (number_header_is Len12 count), omega arith, refl, sized)
numbered_says Len18 teid count packet sized = ((number_header Len18 count).content, has_header teid (number_header Len18 count) packet (number_header_is Len18 count), omega arith, refl, sized)

pub forwarded_numbered_decodes : (sn : SnBits) (teid count : ℕ) (packet : List ℕ) → teid < 2 ^ 32 → IsSized packet
    → DecodesOn forwarding_down sn (numbered (count % space sn) packet) (forwarded_numbered sn teid count packet)
forwarded_numbered_decodes sn teid count packet fits sized = (pdu_with teid (number_header sn count) packet, numbered_reads sn teid count packet fits sized, numbered_says sn teid count packet sized)

pub forwarded_late_decodes : (sn : SnBits) (teid count : ℕ) (packet : List ℕ) → teid < 2 ^ 32 → IsSized packet
    → DecodesOn forwarding_up sn (numbered (count % space sn) packet) (forwarded_late sn teid count packet)
forwarded_late_decodes sn teid count packet fits sized = (pdu_with teid (number_header sn count) packet, numbered_reads sn teid count packet fits sized, numbered_says sn teid count packet sized)

-- an NR-U frame

length-filled : (octets : List ℕ) → length (filled octets) % 4 ≡ 2
unfolding filled
length-filled octets = omega (arith, length-append octets (replicate ((6 - length octets % 4) % 4) 0), length-replicate {A = ℕ} ((6 - length octets % 4) % 4) 0)

pub frame_header_is : (frame : Frame) → IsHeader (frame_header frame)
frame_header_is frame =
    let n = length (nru_octets frame) in
    let whole : n % 4 ≡ 2 = length-filled (field_octets frame) in
    record { some = omega arith; passed = refl; whole = omega (arith, whole); size = lt-ltb 0 ((n + 2) / 4) (omega (arith, whole)) }

frame_reads : (teid : ℕ) (frame : Frame) (payload : List ℕ) → teid < 2 ^ 32 → length (nru_octets frame) ≤ 1000 → length payload ≤ 3000
    → Gtpu (pdu_with teid (frame_header frame) payload) (gtpu_octets (pdu_with teid (frame_header frame) payload))
frame_reads teid frame payload fits short small =
    pdu_with_reads teid (frame_header frame) payload fits (frame_header_is frame) (omega (arith, short, small, length-pdu_with teid (frame_header frame) payload))

framed_decodes : (sn : SnBits) (restart : Bool) (teid number : ℕ) (content : Content) (octets : List ℕ) → teid < 2 ^ 32 → number < 2 ^ 24
    → length octets ≤ 3000 → CarriesPdu sn content octets
    → DecodesOn f1u_downlink sn (framed restart number content octets) (gtpu_octets (pdu_with teid (frame_header (Data false restart number)) octets))
framed_decodes sn restart teid number content octets fits number_fits small carried =
    let frame = Data false restart number in (
      pdu_with teid (frame_header frame) octets,
      frame_reads teid frame octets fits (omega (arith, length-data_frame false restart number)) small,
      (nru_octets frame, has_header teid (frame_header frame) octets (frame_header_is frame), data_frame_read false restart number number_fits, refl, carried),
    )

pub f1u_downlink_packet_decodes : (restart : Bool) (sn : SnBits) (teid number count : ℕ) (packet : List ℕ) → teid < 2 ^ 32 → number < 2 ^ 24
    → IsSized packet
    → DecodesOn f1u_downlink sn (framed restart number (data_pdu (count % space sn) packet) (radio_data sn count packet)) (f1u_downlink_packet restart sn teid number count packet)
unfolding f1u_downlink_packet
f1u_downlink_packet_decodes restart sn teid number count packet fits number_fits sized =
    framed_decodes sn restart teid number (data_pdu (count % space sn) packet) (radio_data sn count packet) fits number_fits (omega (arith, sized.1, length-radio_data sn count packet)) (data_carried sn count packet sized)

pub f1u_downlink_report_decodes : (sn : SnBits) (teid number fmc : ℕ) (bits : List Bool) → teid < 2 ^ 32 → number < 2 ^ 24 → fmc < 2 ^ 32
    → length (report_octets fmc bits) ≤ PACKET_LIMIT
    → DecodesOn f1u_downlink sn (framed false number (status_report fmc (bitmap bits)) (report_octets fmc bits)) (f1u_downlink_report teid number fmc bits)
unfolding f1u_downlink_report
f1u_downlink_report_decodes sn teid number fmc bits fits number_fits fmc_fits sized =
    framed_decodes sn false teid number (status_report fmc (bitmap bits)) (report_octets fmc bits) fits number_fits (omega (arith, sized)) (report_carried sn fmc bits fmc_fits sized)

pub f1u_downlink_poll_decodes : (sn : SnBits) (teid number : ℕ) → teid < 2 ^ 32 → number < 2 ^ 24
    → DecodesOn f1u_downlink sn (poll false number) (f1u_downlink_poll teid number)
unfolding f1u_downlink_poll
f1u_downlink_poll_decodes sn teid number fits number_fits =
    let frame = Data true false number in (
      pdu_with teid (frame_header frame) [],
      frame_reads teid frame [] fits (omega (arith, length-data_frame true false number)) (omega arith),
      (nru_octets frame, has_header teid (frame_header frame) [] (frame_header_is frame), data_frame_read true false number number_fits, refl),
    )

-- the layout of `Links` is the one without a restart
pub f1u_downlink_data_is_packet : (sn : SnBits) (teid number count : ℕ) (packet : List ℕ)
    → f1u_downlink_data sn teid number count packet ≡ f1u_downlink_packet false sn teid number count packet
unfolding f1u_downlink_packet filled
f1u_downlink_data_is_packet sn teid number count packet = f1u_downlink_data_is sn teid number count packet

pub f1u_downlink_data_decodes : (sn : SnBits) (teid number count : ℕ) (packet : List ℕ) → teid < 2 ^ 32 → number < 2 ^ 24 → IsSized packet
    → DecodesOn f1u_downlink sn (framed false number (data_pdu (count % space sn) packet) (radio_data sn count packet)) (f1u_downlink_data sn teid number count packet)
f1u_downlink_data_decodes sn teid number count packet fits number_fits sized =
    subst (λ (octets : List ℕ). DecodesOn f1u_downlink sn (framed false number (data_pdu (count % space sn) packet) (radio_data sn count packet)) octets) (sym (f1u_downlink_data_is_packet sn teid number count packet))
    (f1u_downlink_packet_decodes false sn teid number count packet fits number_fits sized)

-- a delivery status

length-lost : (lost : List (ℕ × ℕ)) → length (flat_map (λ (r : ℕ × ℕ). be24 r.0 ++ be24 r.1) lost) ≡ 6 * length lost
length-lost [] = omega arith
length-lost (r ∷ lost) = omega (arith, length-lost lost)

length-lost_octets : (lost : List (ℕ × ℕ)) → length (lost_octets lost) ≤ 1 + 6 * length lost
length-lost_octets [] = omega arith
length-lost_octets (r ∷ lost) = omega (arith, length-lost (r ∷ lost))

length-delivered_octets : (delivered : Option ℕ) → length (delivered_octets delivered) ≤ 3
length-delivered_octets None = omega arith
length-delivered_octets (Some n) = omega arith

pub length-status : (room : ℕ) (lost : List (ℕ × ℕ)) (delivered : Option ℕ) → length lost ≤ 7
    → length (nru_octets (Status room lost delivered)) ≤ 1000
unfolding filled
length-status room lost delivered few =
    let fields = field_octets (Status room lost delivered) in
    omega (
      arith,
      length-append fields (replicate ((6 - length fields % 4) % 4) 0),
      length-replicate {A = ℕ} ((6 - length fields % 4) % 4) 0,
      length-append (lost_octets lost) (delivered_octets delivered),
      length-lost_octets lost,
      length-delivered_octets delivered,
      few,
    )

pub delivery_status_decodes : (sn : SnBits) (teid : ℕ) (lost : List (ℕ × ℕ)) (delivered : Option ℕ) → teid < 2 ^ 32
    → FitsFrame (Status desired_buffer_size lost delivered)
    → DecodesOn f1u_uplink sn (status desired_buffer_size lost delivered) (delivery_status teid lost delivered)
unfolding delivery_status
delivery_status_decodes sn teid lost delivered fits frame_fits =
    let frame = Status desired_buffer_size lost delivered in (
      pdu_with teid (frame_header frame) [],
      frame_reads teid frame [] fits (length-status desired_buffer_size lost delivered frame_fits.0) (omega arith),
      (nru_octets frame, has_header teid (frame_header frame) [] (frame_header_is frame), frame_written frame frame_fits (omega arith), refl),
    )
