-- The octets of what a unit puts out: PDUs, the items of tunnels, and its outputs.
use Rattle.std.specs.Prelude.{ℕ, Bool, List, [], map, Option, Some, None}
use Rattle.gnb_types.specs.declared.names.SnBits.{SnBits}
use Rattle.gnb_types.specs.declared.outputs.Output.{Output}
use Rattle.gnb_types.specs.declared.outputs.Output.TheVariants as outs
use Rattle.nr_user_plane.specs.declared.frames.Frame.TheVariants.{Data}
use Rattle.gtpu.specs.Packets.{gtpu_octets}
use Rattle.pdcp.specs.Pdus.{radio_data, report_octets}
use Rattle.pdcp_defs.specs.Counts.{number_of}
use Rattle.link_defs.specs.GPdus.{pdu_with}
use Rattle.link_defs.specs.Layouts.{f1u_uplink_pdu, delivery_status, forwarded_numbered, forwarded_fresh, end_marker as end_octets, frame_header}
use Rattle.unit_defs.specs.Ways.{Pdu, packet_pdu, report_pdu, Load, fresh, numbered, frame, uplink, status, end_marker, Put, control, packet, radio, deliver, dropped, held, opened, closed, failed, no}

-- a PDU (TS 38.323, 6.2)
abbrev pub pdu_octets : SnBits → Pdu → List ℕ
pdu_octets sn (packet_pdu count p) = radio_data sn count p
pdu_octets sn (report_pdu fmc bits) = report_octets fmc bits

-- an NR-U data frame, and a PDU after one that carries one
abbrev pub payload : Option (List ℕ) → List ℕ
payload None = []
payload (Some pdu) = pdu

abbrev pub frame_octets : ℕ → Bool → Bool → ℕ → Option (List ℕ) → List ℕ
frame_octets teid poll restart number pdu = gtpu_octets (pdu_with teid (frame_header (Data poll restart number)) (payload pdu))

-- what stands on a tunnel of this TEID
abbrev pub load_octets : ℕ → Load (List ℕ) → List ℕ
load_octets teid (fresh p) = forwarded_fresh teid p
load_octets teid (numbered sn count p) = forwarded_numbered sn teid count p
load_octets teid (frame poll restart number pdu) = frame_octets teid poll restart number pdu
load_octets teid (uplink pdu) = f1u_uplink_pdu teid pdu
load_octets teid (status lost delivered) = delivery_status teid lost delivered
load_octets teid end_marker = end_octets teid

-- the same with a PDU as octets, and with the number of a packet that a delivery status confirms in place of its COUNT
abbrev pub on_option : {X Y : Type 0} → (X → Y) → Option X → Option Y
on_option f None = None
on_option f (Some x) = Some (f x)

abbrev pub written_load : SnBits → Load Pdu → Load (List ℕ)
written_load sn (fresh p) = fresh p
written_load sn (numbered bits count p) = numbered bits count p
written_load sn (frame poll restart number pdu) = frame poll restart number (on_option (pdu_octets sn) pdu)
written_load sn (uplink pdu) = uplink (pdu_octets sn pdu)
written_load sn (status lost delivered) = status lost (on_option (number_of sn) delivered)
written_load sn end_marker = end_marker

-- an output of a unit
abbrev pub output_of : Put (List ℕ) (Load (List ℕ)) (List ℕ) → Output
output_of (control to ue octets) = outs.Control to ue octets
output_of (packet to teid ue bearer dir tag load) = outs.Packet to teid ue bearer dir tag (load_octets teid load)
output_of (radio ue bearer dir epoch tag pdu) = outs.Radio ue bearer dir epoch tag pdu
output_of (deliver ue bearer dir count p) = outs.Deliver ue bearer dir count p
output_of (dropped reason) = outs.Drop reason
output_of (held reason) = outs.Held reason
output_of (opened teid) = outs.Opened teid
output_of (closed teid) = outs.Closed teid
output_of (failed ue cause) = outs.FailedUe ue cause
output_of (no reason) = outs.No reason

abbrev pub outputs_of : List (Put (List ℕ) (Load (List ℕ)) (List ℕ)) → List Output
outputs_of outputs = map output_of outputs
