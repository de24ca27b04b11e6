-- What is written on each link, beside the layouts of `Links`: the TEID first, then what the packet carries.
use Rattle.std.specs.Prelude.{ℕ, ◌%◌, Bool, true, false, Option, List, [], ◌∷◌, ◌++◌}
use Rattle.gnb_types.specs.declared.names.SnBits.{SnBits}
use Rattle.gnb_types.specs.declared.names.SnBits.TheVariants.{Len12, Len18}
use Rattle.gtpu.specs.declared.headers.TheConstants.{NR_RAN_CONTAINER, PDCP_PDU_NUMBER, LONG_PDCP_PDU_NUMBER}
use Rattle.gtpu.specs.Headers.{ExtensionHeader}
use Rattle.gtpu.specs.Packets.{gtpu_octets}
use Rattle.nr_user_plane.specs.declared.frames.Frame.{Frame}
use Rattle.nr_user_plane.specs.declared.frames.Frame.TheVariants.{Data, Status}
use Rattle.nr_user_plane.specs.Frames.{nru_octets}
use Rattle.gnb_types.specs.Numbers.{be16, be24}
use Rattle.pdcp.specs.Numbers.{space}
use Rattle.pdcp.specs.Pdus.{radio_data, report_octets}
use Rattle.link_defs.specs.GPdus.{plain_pdu, pdu_with, end_packet}

-- NR RAN Container: an NR-U frame (TS 29.281, 5.2.2.4)
abbrev pub frame_header : Frame → ExtensionHeader
frame_header frame = record { code = NR_RAN_CONTAINER; content = nru_octets frame }

-- PDCP PDU Number of two octets, or Long PDCP PDU Number of three octets and three zeros (5.2.2.2, 5.2.2.2A)
abbrev pub number_header : SnBits → ℕ → ExtensionHeader
number_header Len12 count = record { code = PDCP_PDU_NUMBER; content = be16 (count % space Len12) }
number_header Len18 count = record { code = LONG_PDCP_PDU_NUMBER; content = be24 (count % space Len18) ++ 0 ∷ 0 ∷ 0 ∷ [] }

-- ---- F1-U downlink: an NR-U data frame, and a PDCP PDU after one that doesn't poll

unfoldable pub f1u_downlink_packet : Bool → SnBits → ℕ → ℕ → ℕ → List ℕ → List ℕ
f1u_downlink_packet restart sn teid number count packet = gtpu_octets (pdu_with teid (frame_header (Data false restart number)) (radio_data sn count packet))

unfoldable pub f1u_downlink_report : ℕ → ℕ → ℕ → List Bool → List ℕ
f1u_downlink_report teid number fmc bits = gtpu_octets (pdu_with teid (frame_header (Data false false number)) (report_octets fmc bits))

unfoldable pub f1u_downlink_poll : ℕ → ℕ → List ℕ
f1u_downlink_poll teid number = gtpu_octets (pdu_with teid (frame_header (Data true false number)) [])

-- ---- F1-U uplink: a PDCP PDU as it came from the radio, or a delivery status

unfoldable pub f1u_uplink_pdu : ℕ → List ℕ → List ℕ
f1u_uplink_pdu teid pdu = gtpu_octets (plain_pdu teid pdu)

abbrev pub f1u_uplink_data : SnBits → ℕ → ℕ → List ℕ → List ℕ
f1u_uplink_data sn teid count packet = f1u_uplink_pdu teid (radio_data sn count packet)

abbrev pub f1u_uplink_report : ℕ → ℕ → List Bool → List ℕ
f1u_uplink_report teid fmc bits = f1u_uplink_pdu teid (report_octets fmc bits)

-- the desired buffer size is always this
abbrev pub desired_buffer_size : ℕ
desired_buffer_size = 65536

unfoldable pub delivery_status : ℕ → List (ℕ × ℕ) → Option ℕ → List ℕ
delivery_status teid lost delivered = gtpu_octets (pdu_with teid (frame_header (Status desired_buffer_size lost delivered)) [])

-- ---- forwarding, down and up: a packet with its number, or on the way down one without; and the end of a tunnel

unfoldable pub forwarded_numbered : SnBits → ℕ → ℕ → List ℕ → List ℕ
forwarded_numbered sn teid count packet = gtpu_octets (pdu_with teid (number_header sn count) packet)

abbrev pub forwarded_late : SnBits → ℕ → ℕ → List ℕ → List ℕ
forwarded_late sn teid count packet = forwarded_numbered sn teid count packet

unfoldable pub forwarded_fresh : ℕ → List ℕ → List ℕ
forwarded_fresh teid packet = gtpu_octets (plain_pdu teid packet)

unfoldable pub end_marker : ℕ → List ℕ
end_marker teid = gtpu_octets (end_packet teid)
