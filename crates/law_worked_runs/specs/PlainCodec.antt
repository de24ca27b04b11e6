-- A spelling for worked scripts, so that they can be run over octets: a message is its kind and its fields as numbers, one after another.
-- It is read by looking for the message of these numbers among those of the script. Items of tunnels are read as their layouts have them.
use Rattle.std.specs.Prelude.{◌==◌, ℕ, ◌+◌, ◌*◌, ◌-◌, ◌/◌, ◌%◌, Bool, true, false, nat_le, List, [], ◌∷◌, ◌++◌, length, map, take, drop, slice_index, Option, Some, None, Result, Ok, Err, if◌then◌else◌}
use Rattle.std.specs.List.{flat_map}
use Rattle.std.specs.Str.{bytes_eq}
use Rattle.gnb_types.specs.declared.names.Gnb.{Gnb}
use Rattle.gnb_types.specs.declared.names.Gnb.TheVariants.{A, B}
use Rattle.gnb_types.specs.declared.names.SnBits.{SnBits}
use Rattle.gnb_types.specs.declared.names.SnBits.TheVariants.{Len12, Len18}
use Rattle.gnb_types.specs.declared.plans.Peer.{Peer}
use Rattle.gnb_types.specs.declared.plans.Tunnel.{Tunnel}
use Rattle.gnb_types.specs.declared.plans.SnStatus.{SnStatus}
use Rattle.gnb_types.specs.declared.reasons.DropReason.{DropReason}
use Rattle.gnb_types.specs.declared.reasons.DropReason.TheVariants.{Undecodable}
use Rattle.message_types.specs.declared.f1.F1.{F1}
use Rattle.message_types.specs.declared.f1.F1.TheVariants as f1s
use Rattle.message_types.specs.declared.e1.E1Message.{E1Message}
use Rattle.message_types.specs.declared.e1.E1Message.TheVariants as e1s
use Rattle.message_types.specs.declared.xn.XnMessage.{XnMessage}
use Rattle.message_types.specs.declared.xn.XnMessage.TheVariants as xns
use Rattle.message_types.specs.declared.xn.CoreMessage.{CoreMessage}
use Rattle.message_types.specs.declared.xn.CoreMessage.TheVariants as cores
use Rattle.message_types.specs.declared.rrc.Token.{Token}
use Rattle.message_types.specs.declared.rrc.Token.TheVariants as tokens
use Rattle.pdcp.specs.Pdus.{Content, data_pdu, status_report}
use Rattle.link_defs.specs.Decoding.{Link, n3, f1u_downlink, f1u_uplink, forwarding_down, Item, fresh, numbered, pdu, framed, poll, status, end_of_tunnel}
use Rattle.unit_defs.specs.Ways.{Message, f1, e1, xn, core, rrc}
use Rattle.unit_defs.specs.octet_defs.Codec.{Codec}
use Rattle.unit_defs.specs.octet_defs.Spelling.{with_containers}

-- ---- fields as numbers

abbrev pub of_list : {X : Type 0} → (X → List ℕ) → List X → List ℕ
of_list f xs = length xs ∷ flat_map f xs

abbrev pub of_option : {X : Type 0} → (X → List ℕ) → Option X → List ℕ
of_option f None = 0 ∷ []
of_option f (Some x) = 1 ∷ f x

abbrev pub one : ℕ → List ℕ
one n = n ∷ []

abbrev pub of_bool : Bool → List ℕ
of_bool false = 0 ∷ []
of_bool true = 1 ∷ []

abbrev pub of_sn : SnBits → List ℕ
of_sn Len12 = 12 ∷ []
of_sn Len18 = 18 ∷ []

abbrev pub of_gnb : Gnb → ℕ
of_gnb A = 0
of_gnb B = 1

abbrev pub of_peer : Peer → List ℕ
of_peer p = of_gnb p.gnb ∷ p.up ∷ []

abbrev pub of_tunnel : Tunnel → List ℕ
of_tunnel t = t.bearer.0 ∷ t.teid ∷ []

abbrev pub of_tunnels : List Tunnel → List ℕ
of_tunnels ts = of_list of_tunnel ts

abbrev pub of_status : SnStatus → List ℕ
of_status s = s.bearer.0 ∷ s.dl_next ∷ s.ul_first ∷ of_option (of_list of_bool) s.ul_received

abbrev pub of_statuses : List SnStatus → List ℕ
of_statuses ss = of_list of_status ss

-- ---- messages as numbers; the name of a unit that sets itself up is left out, as it is text, and no row looks at it

abbrev pub of_f1 : F1 (List ℕ) → List ℕ
of_f1 (f1s.F1SetupRequest i name) = 1 ∷ i ∷ []
of_f1 (f1s.F1SetupResponse i) = 2 ∷ i ∷ []
of_f1 (f1s.UeContextSetupRequest u i epoch uplinks sn peer) = 3 ∷ u.0 ∷ i ∷ epoch ∷ of_tunnels uplinks ++ of_sn sn ++ of_peer peer
of_f1 (f1s.UeContextSetupResponse u i downlinks) = 4 ∷ u.0 ∷ i ∷ of_tunnels downlinks
of_f1 (f1s.UeContextModificationRequest u i epoch) = 5 ∷ u.0 ∷ i ∷ epoch ∷ []
of_f1 (f1s.UeContextModificationResponse u i downlinks) = 6 ∷ u.0 ∷ i ∷ of_tunnels downlinks
of_f1 (f1s.UeContextReleaseCommand u i) = 7 ∷ u.0 ∷ i ∷ []
of_f1 (f1s.UeContextReleaseComplete u i) = 8 ∷ u.0 ∷ i ∷ []
of_f1 (f1s.DlRrcMessageTransfer u container) = 9 ∷ u.0 ∷ container
of_f1 (f1s.UlRrcMessageTransfer u container) = 10 ∷ u.0 ∷ container

abbrev pub of_e1 : E1Message → List ℕ
of_e1 (e1s.E1SetupRequest i name) = 11 ∷ i ∷ []
of_e1 (e1s.E1SetupResponse i) = 12 ∷ i ∷ []
of_e1 (e1s.BearerContextSetupRequest u i bearers sn quota forward) = 13 ∷ u.0 ∷ i ∷ bearers ∷ quota ∷ of_sn sn ++ of_bool forward
of_e1 (e1s.BearerContextSetupResponse u i uplinks n3s down up) =
    14 ∷ u.0 ∷ i ∷ of_tunnels uplinks ++ of_tunnels n3s ++ of_option of_tunnels down ++ of_option of_tunnels up
of_e1 (e1s.BearerContextSetupFailure u i cause) = 15 ∷ u.0 ∷ i ∷ cause ∷ []
of_e1 (e1s.BearerContextModificationRequest u i downlinks mode peer down up statuses du) =
    16 ∷ u.0 ∷ i ∷ mode ∷ of_option of_tunnels downlinks ++ of_option of_peer peer ++ of_option of_tunnels down ++ of_option of_tunnels up
    ++ of_option of_statuses statuses ++ of_option one du
of_e1 (e1s.BearerContextModificationResponse u i uplinks statuses) = 17 ∷ u.0 ∷ i ∷ of_option of_tunnels uplinks ++ of_option of_statuses statuses
of_e1 (e1s.BearerContextModificationFailure u i cause) = 18 ∷ u.0 ∷ i ∷ cause ∷ []
of_e1 (e1s.BearerContextReleaseCommand u i is_final) = 19 ∷ u.0 ∷ i ∷ of_bool is_final
of_e1 (e1s.BearerContextReleaseComplete u i) = 20 ∷ u.0 ∷ i ∷ []

abbrev pub of_xn : XnMessage → List ℕ
of_xn (xns.HandoverRequest u i epoch bearers sn quota peer du origin) =
    21 ∷ u.0 ∷ i ∷ epoch ∷ bearers ∷ quota ∷ du ∷ of_sn sn ++ of_peer peer ++ of_option (of_list one) origin
of_xn (xns.HandoverRequestAcknowledge u i peer down up) = 22 ∷ u.0 ∷ i ∷ of_peer peer ++ of_tunnels down ++ of_tunnels up
of_xn (xns.HandoverPreparationFailure u i cause) = 23 ∷ u.0 ∷ i ∷ cause ∷ []
of_xn (xns.SnStatusTransfer u i statuses) = 24 ∷ u.0 ∷ i ∷ of_statuses statuses
of_xn (xns.HandoverCancel u i) = 25 ∷ u.0 ∷ i ∷ []
of_xn (xns.UeContextRelease u i) = 26 ∷ u.0 ∷ i ∷ []
of_xn (xns.TransportConfirm u i) = 27 ∷ u.0 ∷ i ∷ []

abbrev pub of_core : CoreMessage → List ℕ
of_core (cores.PathSwitchRequest u i peer n3s) = 28 ∷ u.0 ∷ i ∷ of_peer peer ++ of_tunnels n3s
of_core (cores.PathSwitchAcknowledge u i) = 29 ∷ u.0 ∷ i ∷ []

abbrev pub of_token : Token → List ℕ
of_token (tokens.Command u epoch gnb du) = 30 ∷ u.0 ∷ epoch ∷ of_gnb gnb ∷ du ∷ []
of_token (tokens.Complete u epoch) = 31 ∷ u.0 ∷ epoch ∷ []
of_token (tokens.Reestablish u epoch) = 32 ∷ u.0 ∷ epoch ∷ []
of_token (tokens.Accepted u epoch) = 33 ∷ u.0 ∷ epoch ∷ []

abbrev pub of_message : Message (List ℕ) → List ℕ
of_message (f1 message) = of_f1 message
of_message (e1 message) = of_e1 message
of_message (xn message) = of_xn message
of_message (core message) = of_core message
of_message (rrc token) = of_token token

-- ---- messages and tokens read again

abbrev pub message_among : List (Message (List ℕ)) → List ℕ → Result (Message (List ℕ)) DropReason
message_among [] octets = Err Undecodable
message_among (m ∷ ms) octets = if bytes_eq (of_message m) octets then Ok m else message_among ms octets

abbrev pub token_in : Message (List ℕ) → List Token
token_in (rrc token) = token ∷ []
token_in message = []

abbrev pub token_among : List Token → List ℕ → Option Token
token_among [] octets = None
token_among (t ∷ ts) octets = if bytes_eq (of_token t) octets then Some t else token_among ts octets

-- ---- PDUs and items read as their layouts have them

abbrev pub number16 : ℕ → ℕ → ℕ
number16 a b = a * 256 + b

abbrev pub number24 : ℕ → ℕ → ℕ → ℕ
number24 a b c = number16 a b * 256 + c

abbrev pub number32 : ℕ → ℕ → ℕ → ℕ → ℕ
number32 a b c d = number24 a b c * 256 + d

abbrev pub pdu_of : SnBits → List ℕ → Option Content
pdu_of Len12 (first ∷ a ∷ b ∷ c ∷ d ∷ rest) =
    if nat_le 128 first then Some (data_pdu (number16 (first % 16) a) (b ∷ c ∷ d ∷ rest)) else Some (status_report (number32 a b c d) rest)
pdu_of Len18 (first ∷ a ∷ b ∷ c ∷ d ∷ rest) =
    if nat_le 128 first then Some (data_pdu (number24 (first % 4) a b) (c ∷ d ∷ rest)) else Some (status_report (number32 a b c d) rest)
pdu_of Len12 (first ∷ a ∷ b ∷ rest) = if nat_le 128 first then Some (data_pdu (number16 (first % 16) a) (b ∷ rest)) else None
pdu_of Len18 (first ∷ a ∷ b ∷ c ∷ rest) = if nat_le 128 first then Some (data_pdu (number24 (first % 4) a b) (c ∷ rest)) else None
pdu_of sn octets = None

abbrev pub pdu_if : List ℕ → Option Content → Option Item
pdu_if octets None = None
pdu_if octets (Some content) = Some (pdu content octets)

abbrev pub framed_if : Bool → ℕ → List ℕ → Option Content → Option Item
framed_if restart number octets None = None
framed_if restart number octets (Some content) = Some (framed restart number content octets)

-- a G-PDU without flags
abbrev pub plain_of : Link → SnBits → List ℕ → Option Item
plain_of n3 sn payload = Some (fresh payload)
plain_of forwarding_down sn payload = Some (fresh payload)
plain_of f1u_uplink sn payload = pdu_if payload (pdu_of sn payload)
plain_of link sn payload = None

-- a delivery status: lost ranges, and the number that was delivered
abbrev pub ranges_of : ℕ → List ℕ → List (ℕ × ℕ)
ranges_of count (a ∷ b ∷ c ∷ d ∷ e ∷ f ∷ rest) = if count == 0 then [] else (number24 a b c, number24 d e f) ∷ ranges_of (count - 1) rest
ranges_of count octets = []

abbrev pub after_ranges : ℕ → List ℕ → List ℕ
after_ranges count (a ∷ b ∷ c ∷ d ∷ e ∷ f ∷ rest) = if count == 0 then a ∷ b ∷ c ∷ d ∷ e ∷ f ∷ rest else after_ranges (count - 1) rest
after_ranges count octets = octets

abbrev pub delivered_of : Bool → List ℕ → Option ℕ
delivered_of false octets = None
delivered_of true (a ∷ b ∷ c ∷ rest) = Some (number24 a b c)
delivered_of true octets = None

abbrev pub status_of : ℕ → List ℕ → Item
status_of flags (count ∷ rest) =
    if flags % 2 == 1 then status 65536 (ranges_of count rest) (delivered_of (flags / 4 % 2 == 1) (after_ranges count rest))
    else status 65536 [] (delivered_of (flags / 4 % 2 == 1) (count ∷ rest))
status_of flags [] = status 65536 [] None

-- an NR-U frame with what follows it
abbrev pub frame_of : Link → SnBits → List ℕ → List ℕ → Option Item
frame_of f1u_downlink sn (first ∷ second ∷ a ∷ b ∷ c ∷ rest) payload =
    if first == 1 then Some (poll (second == 1) (number24 a b c)) else framed_if (second == 1) (number24 a b c) payload (pdu_of sn payload)
frame_of f1u_uplink sn (first ∷ second ∷ a ∷ b ∷ c ∷ d ∷ rest) payload = Some (status_of first rest)
frame_of link sn content payload = None

-- a header by its type, its length in units of four octets, and what follows
abbrev pub headed_of : Link → SnBits → ℕ → ℕ → List ℕ → Option Item
headed_of link sn code units tail =
    if code == 192 then Some (numbered (number16 (slice_index tail 0) (slice_index tail 1)) (drop 3 tail)) else
    (if code == 130 then Some (numbered (number24 (slice_index tail 0) (slice_index tail 1) (slice_index tail 2)) (drop 7 tail)) else
    frame_of link sn (take (4 * units - 2) tail) (drop (4 * units - 1) tail))

abbrev pub after_flags : Link → SnBits → List ℕ → Option Item
after_flags link sn (s ∷ t ∷ n ∷ code ∷ units ∷ tail) = headed_of link sn code units tail
after_flags link sn octets = None

abbrev pub item_of : Link → SnBits → List ℕ → Option Item
item_of link sn (flags ∷ kind ∷ a ∷ b ∷ c ∷ d ∷ e ∷ f ∷ rest) =
    if kind == 254 then Some end_of_tunnel else (if flags == 48 then plain_of link sn rest else after_flags link sn rest)
item_of link sn octets = None

-- ---- the codec of a script: octets from outside are what was worked out for them

abbrev pub fault_or : Option (Option DropReason) → Result (Message (List ℕ)) DropReason → Result (Message (List ℕ)) DropReason
fault_or None read = read
fault_or (Some None) read = Ok (f1 (f1s.F1SetupResponse 0))
fault_or (Some (Some reason)) read = Err reason

abbrev pub item_or : Option Bool → Option Item → Option Item
item_or None read = read
item_or (Some true) read = Some end_of_tunnel
item_or (Some false) read = None

abbrev pub found : {X : Type 0} → List (List ℕ × X) → List ℕ → Option X
found [] octets = None
found (e ∷ es) octets = if bytes_eq e.0 octets then Some e.1 else found es octets

abbrev pub plain_codec : List (Message Token) → List (List ℕ × Option DropReason) → List (List ℕ × Bool) → Codec
plain_codec messages faults items =
    let written = map (with_containers of_token) messages in
    let said = flat_map token_in written in
    record {
      encode = of_message;
      read = λ from to octets. fault_or (found faults octets) (message_among written octets);
      read_token = token_among said;
      read_item = λ link sn octets. item_or (found items octets) (item_of link sn octets);
      read_pdu = pdu_of;
    }
