-- What octets say on a link: a reader of its layouts. Each link has some of the packets of `Shells`.
use Rattle.std.specs.Prelude.{ℕ, ◌==◌, ◌&&◌, true, false, if◌then◌else◌, List, [], Option, Some, None, option_map, option_and_then}
use Rattle.gnb_types.specs.declared.names.SnBits.{SnBits}
use Rattle.gnb_types.specs.Refusals.{first_reason}
use Rattle.gtpu.specs.declared.headers.TheConstants.{NR_RAN_CONTAINER}
use Rattle.gtpu.specs.Headers.{ExtensionHeader}
use Rattle.nr_user_plane.specs.declared.frames.Frame.{Frame}
use Rattle.nr_user_plane.specs.declared.frames.Frame.TheVariants.{Data, Status}
use Rattle.nr_user_plane.specs.declared.frames.FrameError.{FrameError}
use Rattle.nr_user_plane.specs.Reasons.{frame_at}
use Rattle.nr_user_plane.specs.Tests.{tests}
use Rattle.link_defs.specs.Decoding.{Link, n3, f1u_downlink, f1u_uplink, forwarding_down, forwarding_up, Item, fresh, numbered, pdu, framed, poll, status, end_of_tunnel, number_code, number_in}
use Rattle.link_defs.specs.read_defs.Shells.{plain, headed, Shell, g_pdu, end_marker, shell_in}
use Rattle.link_defs.specs.read_defs.Pdus.{is_sized, pdu_on}

-- ---- what stands in an extension header

-- NR RAN Container (TS 29.281, 5.2.2.4): a frame, where there is no reason against it (TS 38.425, 5.5)
abbrev pub frame_unless : Option FrameError → List ℕ → Option Frame
frame_unless None octets = Some (frame_at octets)
frame_unless (Some reason) octets = None

abbrev pub frame_in : ExtensionHeader → Option Frame
frame_in header =
    if header.code == NR_RAN_CONTAINER
    then frame_unless (first_reason (tests header.content)) header.content else None

-- ---- what stands around a payload

abbrev pub fresh_item : List ℕ → Option Item
fresh_item packet = if is_sized packet then Some (fresh packet) else None

-- PDCP PDU Number or Long PDCP PDU Number, as long as the numbers of the bearer are (TS 29.281, 5.2.2.2 and 5.2.2.2A)
abbrev pub numbered_item : SnBits → ExtensionHeader → List ℕ → Option Item
numbered_item sn header packet =
    if (header.code == number_code sn) && is_sized packet
    then Some (numbered (number_in sn header.content) packet) else None

-- A data frame that polls comes alone, another one before a PDU.
abbrev pub data_item : SnBits → List ℕ → Frame → Option Item
data_item sn octets (Data false restart number) = option_map (λ content. framed restart number content octets) (pdu_on sn octets)
data_item sn [] (Data true restart number) = Some (poll restart number)
data_item sn octets frame = None

abbrev pub status_item : Frame → Option Item
status_item (Status room lost delivered) = Some (status room lost delivered)
status_item frame = None

-- ---- the links

abbrev pub item_in : Link → SnBits → Shell → Option Item
item_in n3 sn (g_pdu (plain packet)) = fresh_item packet
item_in n3 sn end_marker = Some end_of_tunnel
item_in f1u_downlink sn (g_pdu (headed header octets)) = option_and_then (data_item sn octets) (frame_in header)
item_in f1u_uplink sn (g_pdu (plain octets)) = option_map (λ content. pdu content octets) (pdu_on sn octets)
item_in f1u_uplink sn (g_pdu (headed header [])) = option_and_then status_item (frame_in header)
item_in f1u_uplink sn end_marker = Some end_of_tunnel
item_in forwarding_down sn (g_pdu (plain packet)) = fresh_item packet
item_in forwarding_down sn (g_pdu (headed header packet)) = numbered_item sn header packet
item_in forwarding_down sn end_marker = Some end_of_tunnel
item_in forwarding_up sn (g_pdu (headed header packet)) = numbered_item sn header packet
item_in forwarding_up sn end_marker = Some end_of_tunnel
item_in link sn shell = None

unfoldable pub item_on : Link → SnBits → List ℕ → Option Item
item_on link sn octets = option_and_then (item_in link sn) (shell_in octets)
