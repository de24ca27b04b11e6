-- What the one extension header of a packet says, whatever its payload is.
use Rattle.std.specs.Prelude.{◌≡◌, ℕ, List}
use Rattle.gnb_types.specs.declared.names.SnBits.{SnBits}
use Rattle.gtpu.specs.declared.headers.TheConstants.{NR_RAN_CONTAINER}
use Rattle.gtpu.specs.Headers.{ExtensionHeader}
use Rattle.gtpu.specs.Packets.{GtpuPacket}
use Rattle.nr_user_plane.specs.declared.frames.Frame.{Frame}
use Rattle.nr_user_plane.specs.Frames.{Nru}
use Rattle.link_defs.specs.Decoding.{HasHeader, number_code, number_in}

-- an NR-U frame
abbrev pub HasFrame : Frame → GtpuPacket → Type 0
HasFrame frame p = (content : List ℕ) × HasHeader NR_RAN_CONTAINER content p × Nru frame content

-- a PDCP sequence number
abbrev pub HasNumber : SnBits → ℕ → GtpuPacket → Type 0
HasNumber sn number p = (content : List ℕ) × HasHeader (number_code sn) content p
    × (number ≡ number_in sn content)

-- a header of this type and content
abbrev pub header : ℕ → List ℕ → ExtensionHeader
header code content = record { code = code; content = content }
