-- The packets that stand on links (TS 29.281, 5.1): without optional fields, or with one extension header.
use Rattle.std.specs.Prelude.{ℕ, List, [], None}
use Rattle.gtpu.specs.declared.Kind.TheVariants.{GPdu, EndMarker}
use Rattle.gtpu.specs.Headers.{ExtensionHeader, header_octets}
use Rattle.gtpu.specs.Packets.{GtpuPacket}

-- a G-PDU without flags
abbrev pub plain_pdu : ℕ → List ℕ → GtpuPacket
plain_pdu teid payload =
    record { kind = GPdu; teid = teid; seq = None; npdu = None; first = 0; chain = []; payload = payload }

-- a G-PDU with one header of this type and content
abbrev pub pdu_with : ℕ → ExtensionHeader → List ℕ → GtpuPacket
pdu_with teid header payload =
    record { kind = GPdu; teid = teid; seq = None; npdu = None; first = header.code; chain = header_octets header 0; payload = payload }

-- an End Marker without flags
abbrev pub end_packet : ℕ → GtpuPacket
end_packet teid =
    record { kind = EndMarker; teid = teid; seq = None; npdu = None; first = 0; chain = []; payload = [] }
