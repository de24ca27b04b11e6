-- What is read in the parts of a packet is what it says on the link, and all that it says is read.
use Rattle.std.proofs.Common.{◌≡◌, ℕ, ◌==◌, ◌&&◌, true, false, List, [], Option, Some, None, option_map, option_and_then, refl, sym, ap, subst, ◌∙◌, eqb-true, eq-eqb}
use Rattle.std.proofs.lemmas.Bool.{and_parts, and_from, cond-true}
use Rattle.std.proofs.lemmas.Option.{cond_some, none-some, same_Some, option_and_then_some}
use Rattle.gnb_types.specs.declared.names.SnBits.{SnBits}
use Rattle.gnb_types.specs.Refusals.{first_reason}
use Rattle.gnb_types.proofs.Choices.{chosen}
use Rattle.gtpu.specs.declared.headers.TheConstants.{NR_RAN_CONTAINER}
use Rattle.gtpu.specs.Headers.{ExtensionHeader}
use Rattle.gtpu.specs.Packets.{GtpuPacket}
use Rattle.nr_user_plane.specs.declared.frames.Frame.{Frame}
use Rattle.nr_user_plane.specs.declared.frames.Frame.TheVariants.{Data, Status}
use Rattle.nr_user_plane.specs.declared.frames.FrameError.{FrameError}
use Rattle.nr_user_plane.specs.Frames.{Nru}
use Rattle.nr_user_plane.specs.Reasons.{frame_at}
use Rattle.nr_user_plane.specs.Tests.{tests}
use Rattle.nr_user_plane.proofs.FrameLaws.{frame_read, frame_without_reason}
use Rattle.pdcp.specs.Pdus.{Content}
use Rattle.link_defs.specs.Decoding.{Link, Item, n3, f1u_downlink, f1u_uplink, forwarding_down, forwarding_up, fresh, numbered, pdu, framed, poll, status, end_of_tunnel, HasHeader, number_code, number_in, SaysFresh, SaysNumbered, Says}
use Rattle.link_defs.specs.read_defs.Shells.{plain, headed, Shell, g_pdu, end_marker}
use Rattle.link_defs.specs.read_defs.Pdus.{is_sized, pdu_on}
use Rattle.link_defs.specs.read_defs.Items.{frame_unless, frame_in, fresh_item, numbered_item, data_item, status_item, item_in}
use Rattle.proof_message_codec.proofs.link_reading.Pdus.{sized, size_tested, pdu_carried, pdu_found}
use Rattle.proof_message_codec.proofs.link_reading.Shells.{IsShell}

-- ---- what is read is said

mapped : {A B P : Type 0} (f : A → B) (o : Option A) (y : B) → option_map f o ≡ Some y → ((x : A) → o ≡ Some x → f x ≡ y → P) → P
mapped f None y e k = absurd (none-some y e)
mapped f (Some x) y e k = k x refl (same_Some (f x) y e)

frame_there : (octets : List ℕ) (reason : Option FrameError) (frame : Frame) → first_reason (tests octets) ≡ reason
    → frame_unless reason octets ≡ Some frame → Nru frame octets
frame_there octets None frame is e =
    subst (λ (f : Frame). Nru f octets) (same_Some (frame_at octets) frame e) (frame_without_reason octets is)
frame_there octets (Some reason) frame is e = absurd (none-some frame e)

-- a frame in the one header of a packet
abbrev IsFramed : Frame → GtpuPacket → Type 0
IsFramed frame p = (content : List ℕ) × HasHeader NR_RAN_CONTAINER content p × Nru frame content

framed_there : (header : ExtensionHeader) (frame : Frame) (p : GtpuPacket) → frame_in header ≡ Some frame
    → HasHeader header.code header.content p → IsFramed frame p
framed_there header frame p e has =
    chosen (header.code == NR_RAN_CONTAINER) (frame_unless (first_reason (tests header.content)) header.content) None (Some frame) e
    (IsFramed frame p)
    (λ is read. (
      header.content,
      subst (λ (code : ℕ). HasHeader code header.content p) (eqb-true header.code NR_RAN_CONTAINER is) has,
      frame_there header.content (first_reason (tests header.content)) frame refl read,
    ))
    (λ other none. absurd (none-some frame none))

fresh_there : (packet : List ℕ) (item : Item) (p : GtpuPacket) → fresh_item packet ≡ Some item → IsShell (g_pdu (plain packet)) p
    → SaysFresh packet p × (fresh packet ≡ item)
fresh_there packet item p e h =
    let read = cond_some (is_sized packet) (fresh packet) item e in
    ((h.0, h.1, sized packet read.0), read.1)

numbered_there : (sn : SnBits) (header : ExtensionHeader) (packet : List ℕ) (item : Item) (p : GtpuPacket)
    → numbered_item sn header packet ≡ Some item → IsShell (g_pdu (headed header packet)) p
    → SaysNumbered sn (number_in sn header.content) packet p × (numbered (number_in sn header.content) packet ≡ item)
numbered_there sn header packet item p e h =
    let read = cond_some ((header.code == number_code sn) && is_sized packet) (numbered (number_in sn header.content) packet) item e in
    let both = and_parts (header.code == number_code sn) (is_sized packet) read.0 in
    let code : header.code ≡ number_code sn = eqb-true header.code (number_code sn) both.0 in
    let has : HasHeader (number_code sn) header.content p = subst (λ (c : ℕ). HasHeader c header.content p) code h.0 in
    ((header.content, has, refl, h.1, sized packet both.1), read.1)

data_there : (sn : SnBits) (octets : List ℕ) (frame : Frame) (item : Item) (p : GtpuPacket) → data_item sn octets frame ≡ Some item
    → IsFramed frame p → p.payload ≡ octets → Says f1u_downlink sn item p
data_there sn octets (Data false restart number) item p e f is =
    mapped (λ (c : Content). framed restart number c octets) (pdu_on sn octets) item e (λ content read same.
    subst (λ (i : Item). Says f1u_downlink sn i p) same (f.0, f.1, f.2, is, pdu_carried sn octets content read))
data_there sn [] (Data true restart number) item p e f is =
    subst (λ (i : Item). Says f1u_downlink sn i p) (same_Some (poll restart number) item e) (f.0, f.1, f.2, is)
data_there sn octets frame item p e f is = absurd (none-some item e)

status_there : (sn : SnBits) (frame : Frame) (item : Item) (p : GtpuPacket) → status_item frame ≡ Some item → IsFramed frame p
    → p.payload ≡ [] → Says f1u_uplink sn item p
status_there sn (Status room lost delivered) item p e f is =
    subst (λ (i : Item). Says f1u_uplink sn i p) (same_Some (status room lost delivered) item e) (f.0, f.1, f.2, is)
status_there sn (Data polls restart number) item p e f is = absurd (none-some item e)

pub item_there : (link : Link) (sn : SnBits) (shell : Shell) (item : Item) (p : GtpuPacket) → item_in link sn shell ≡ Some item
    → IsShell shell p → Says link sn item p
item_there n3 sn (g_pdu (plain packet)) item p e h =
    let there = fresh_there packet item p e h in subst (λ (i : Item). Says n3 sn i p) there.1 there.0
item_there n3 sn end_marker item p e h = subst (λ (i : Item). Says n3 sn i p) (same_Some end_of_tunnel item e) h
item_there f1u_downlink sn (g_pdu (headed header octets)) item p e h =
    option_and_then_some (data_item sn octets) (frame_in header) item e (λ frame read said.
    data_there sn octets frame item p said (framed_there header frame p read h.0) h.1)
item_there f1u_uplink sn (g_pdu (plain octets)) item p e h =
    mapped (λ (c : Content). pdu c octets) (pdu_on sn octets) item e (λ content read same.
    subst (λ (i : Item). Says f1u_uplink sn i p) same (h.0, h.1, pdu_carried sn octets content read))
item_there f1u_uplink sn (g_pdu (headed header [])) item p e h =
    option_and_then_some status_item (frame_in header) item e (λ frame read said.
    status_there sn frame item p said (framed_there header frame p read h.0) h.1)
item_there f1u_uplink sn end_marker item p e h = subst (λ (i : Item). Says f1u_uplink sn i p) (same_Some end_of_tunnel item e) h
item_there forwarding_down sn (g_pdu (plain packet)) item p e h =
    let there = fresh_there packet item p e h in subst (λ (i : Item). Says forwarding_down sn i p) there.1 there.0
item_there forwarding_down sn (g_pdu (headed header packet)) item p e h =
    let there = numbered_there sn header packet item p e h in subst (λ (i : Item). Says forwarding_down sn i p) there.1 there.0
item_there forwarding_down sn end_marker item p e h = subst (λ (i : Item). Says forwarding_down sn i p) (same_Some end_of_tunnel item e) h
item_there forwarding_up sn (g_pdu (headed header packet)) item p e h =
    let there = numbered_there sn header packet item p e h in subst (λ (i : Item). Says forwarding_up sn i p) there.1 there.0
item_there forwarding_up sn end_marker item p e h = subst (λ (i : Item). Says forwarding_up sn i p) (same_Some end_of_tunnel item e) h
item_there link sn shell item p e h = absurd (none-some item e)

-- ---- what is said is read

frame_found : (frame : Frame) (content : List ℕ) → Nru frame content
    → frame_in (record { code = NR_RAN_CONTAINER; content = content }) ≡ Some frame
frame_found frame content is =
    let read = frame_read frame content is in
    ap (λ (reason : Option FrameError). frame_unless reason content) read.none ∙ ap Some read.is

fresh_read : (packet : List ℕ) (p : GtpuPacket) → SaysFresh packet p → fresh_item packet ≡ Some (fresh packet)
fresh_read packet p says = cond-true (is_sized packet) (Some (fresh packet)) None (size_tested packet says.2)

numbered_read : (sn : SnBits) (number : ℕ) (packet : List ℕ) (p : GtpuPacket) (says : SaysNumbered sn number packet p)
    → numbered_item sn (record { code = number_code sn; content = says.0 }) packet ≡ Some (numbered number packet)
numbered_read sn number packet p says =
    let code : ℕ = number_code sn in
    cond-true ((code == code) && is_sized packet) (Some (numbered (number_in sn says.0) packet)) None
    (and_from (code == code) (is_sized packet) (eq-eqb code code refl) (size_tested packet says.4))
    ∙ ap (λ (n : ℕ). Some (numbered n packet)) (sym says.2)

-- the parts of a packet, in which the item is read
abbrev IsRead : Link → SnBits → Item → GtpuPacket → Type 0
IsRead link sn item p = (shell : Shell) × IsShell shell p × (item_in link sn shell ≡ Some item)

abbrev around : ℕ → List ℕ → List ℕ → Shell
around code content payload = g_pdu (headed (record { code = code; content = content }) payload)

pub item_read : (link : Link) (sn : SnBits) (item : Item) (p : GtpuPacket) → Says link sn item p → IsRead link sn item p
item_read n3 sn (fresh packet) p says = (g_pdu (plain packet), (says.0, says.1), fresh_read packet p says)
item_read n3 sn end_of_tunnel p says = (end_marker, says, refl)
item_read f1u_downlink sn (framed restart number content octets) p says = (
  around NR_RAN_CONTAINER says.0 octets,
  (says.1, says.3),
  ap (option_and_then (data_item sn octets)) (frame_found (Data false restart number) says.0 says.2)
      ∙ ap (option_map (λ (c : Content). framed restart number c octets)) (pdu_found sn content octets says.4),
)
item_read f1u_downlink sn (poll restart number) p says = (
  around NR_RAN_CONTAINER says.0 [],
  (says.1, says.3),
  ap (option_and_then (data_item sn [])) (frame_found (Data true restart number) says.0 says.2),
)
item_read f1u_uplink sn (pdu content octets) p says = (
  g_pdu (plain octets),
  (says.0, says.1),
  ap (option_map (λ (c : Content). pdu c octets)) (pdu_found sn content octets says.2),
)
item_read f1u_uplink sn (status room lost delivered) p says = (
  around NR_RAN_CONTAINER says.0 [],
  (says.1, says.3),
  ap (option_and_then status_item) (frame_found (Status room lost delivered) says.0 says.2),
)
item_read f1u_uplink sn end_of_tunnel p says = (end_marker, says, refl)
item_read forwarding_down sn (fresh packet) p says = (g_pdu (plain packet), (says.0, says.1), fresh_read packet p says)
item_read forwarding_down sn (numbered number packet) p says =
    (around (number_code sn) says.0 packet, (says.1, says.3), numbered_read sn number packet p says)
item_read forwarding_down sn end_of_tunnel p says = (end_marker, says, refl)
item_read forwarding_up sn (numbered number packet) p says =
    (around (number_code sn) says.0 packet, (says.1, says.3), numbered_read sn number packet p says)
item_read forwarding_up sn end_of_tunnel p says = (end_marker, says, refl)
item_read link sn item p says = absurd says
