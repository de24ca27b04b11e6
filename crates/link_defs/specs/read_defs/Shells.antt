-- How the octets of a tunnel are taken apart as a GTP-U packet (TS 29.281, 5.1). Links have packets without optional fields, and
-- G-PDUs with one extension header. The TEID and spare bits aren't looked at.
use Rattle.std.specs.Prelude.{ℕ, ◌-◌, ◌*◌, ◌/◌, ◌==◌, ◌&&◌, ◌||◌, not, if◌then◌else◌, List, [], ◌∷◌, length, take, drop, Option, Some, None, option_and_then}
use Rattle.std.specs.Int.{w16, from_be_bytes}
use Rattle.gtpu.specs.declared.Kind.TheVariants.{EndMarker, GPdu}
use Rattle.gtpu.specs.Headers.{ExtensionHeader, is_required, may_have}
use Rattle.gtpu.specs.Packets.{kind_code, e_flag, s_flag, pn_flag, has_flag}

-- what follows the first eight octets of a packet
pub data Body : Type 0 where
  plain : (payload : List ℕ) → Body
  headed : (header : ExtensionHeader) (payload : List ℕ) → Body

-- a packet without its TEID; an End Marker has nothing else
pub data Shell : Type 0 where
  g_pdu : (body : Body) → Shell
  end_marker : Shell

-- After the content of the header stands the type of the next one, which is 0 where there is none (5.2.1).
abbrev pub last_header : ExtensionHeader → List ℕ → Option Body
last_header header [] = None
last_header header (next ∷ payload) = if next == 0 then Some (headed header payload) else None

-- A header of this type: its length in units of four octets, then its content. The octets of length and of the next type count.
abbrev pub header_in : ℕ → List ℕ → Option Body
header_in code [] = None
header_in code (units ∷ octets) =
    if is_required code || not (may_have code units) then None
    else last_header (record { code = code; content = take (4 * units - 2) octets }) (drop (4 * units - 2) octets)

-- The type 0 is no header.
abbrev pub headers_in : ℕ → List ℕ → Option Body
headers_in code octets = if code == 0 then Some (plain octets) else header_in code octets

-- With a flag four octets come first: a sequence number and an N-PDU number, neither of which a link has, and the type of the first
-- header, which counts where E is 1.
abbrev pub flagged_in : ℕ → List ℕ → Option Body
flagged_in flags (s0 ∷ s1 ∷ number ∷ next ∷ octets) =
    if s_flag flags || pn_flag flags then None else headers_in (if e_flag flags then next else 0) octets
flagged_in flags octets = None

abbrev pub body_in : ℕ → List ℕ → Option Body
body_in flags octets = if has_flag flags then flagged_in flags octets else Some (plain octets)

abbrev pub marker_of : Body → Option Shell
marker_of (plain []) = Some end_marker
marker_of body = None

-- by the type of the message (6.1)
abbrev pub shell_of : ℕ → Body → Option Shell
shell_of code body =
    if code == kind_code GPdu then Some (g_pdu body)
    else if code == kind_code EndMarker then marker_of body
    else None

-- The first octet has the version and the flags. Then come the type of the message, the number of octets after the first eight, and
-- the TEID.
abbrev pub shell_in : List ℕ → Option Shell
shell_in (flags ∷ code ∷ l0 ∷ l1 ∷ t0 ∷ t1 ∷ t2 ∷ t3 ∷ body) =
    if (flags / 16 == 3) && (length body == from_be_bytes w16 (l0 ∷ l1 ∷ []))
    then option_and_then (shell_of code) (body_in flags body) else None
shell_in octets = None
