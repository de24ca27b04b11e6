-- The octets of a GTP-U packet (TS 29.281, 5.1).
use Rattle.std.specs.Prelude.{◌≡◌, ◌==◌, ℕ, ◌+◌, ◌/◌, ◌%◌, ◌<◌, ◌≤◌, ◌^◌, Bool, true, false, if◌then◌else◌, nat_lt, List, [], ◌∷◌, ◌++◌, length, Option, None, is_some, unwrap_or, IfSome}
use Rattle.std.specs.Bool.{then_some}
use Rattle.std.specs.Int.{w16, w32, from_be_bytes, to_be_bytes}
use Rattle.gtpu.specs.declared.TheConstants.{LENGTH_LIMIT}
use Rattle.gtpu.specs.declared.Kind.{Kind}
use Rattle.gtpu.specs.declared.Kind.TheVariants.{EchoRequest, EchoResponse, ErrorIndication, EndMarker, GPdu}
use Rattle.gtpu.specs.declared.Packet.{Packet}
use Rattle.gtpu.specs.Headers.{IsChain}

-- a packet, wherever its octets lie
pub record GtpuPacket : Type 0 where
  pub kind : Kind
  pub teid : ℕ
  pub seq : Option ℕ
  pub npdu : Option ℕ
  pub first : ℕ
  pub chain : List ℕ
  pub payload : List ℕ

abbrev pub view : Packet → GtpuPacket
view p = record {
  kind = p.kind;
  teid = p.teid;
  seq = p.seq;
  npdu = p.npdu;
  first = p.first;
  chain = p.chain.now;
  payload = p.payload.now;
}

-- the message types (6.1)
abbrev pub kind_code : Kind → ℕ
kind_code EchoRequest = 1
kind_code EchoResponse = 2
kind_code ErrorIndication = 26
kind_code EndMarker = 254
kind_code GPdu = 255

-- The first octet: version 1 and PT 1 in the upper half, a spare bit, and the flags E, S and PN.
abbrev pub e_flag : ℕ → Bool
e_flag octet = octet / 4 % 2 == 1

abbrev pub s_flag : ℕ → Bool
s_flag octet = octet / 2 % 2 == 1

abbrev pub pn_flag : ℕ → Bool
pn_flag octet = octet % 2 == 1

abbrev pub has_flag : ℕ → Bool
has_flag octet = nat_lt 0 (octet % 8)

-- Without a flag all that follows the first eight octets is the payload.
pub record IsPlain (p : GtpuPacket) (body : List ℕ) : Type 0 where
  pub seq : p.seq ≡ None
  pub npdu : p.npdu ≡ None
  pub first : p.first ≡ 0
  pub chain : p.chain ≡ []
  pub payload : body ≡ p.payload

-- With a flag four octets come first: a sequence number, an N-PDU number and the type of the first extension header, of
-- which each counts where its own flag is 1.
pub record IsFlagged (p : GtpuPacket) (flags s0 s1 number next : ℕ) (rest : List ℕ) : Type 0 where
  pub seq : p.seq ≡ then_some (s_flag flags) (from_be_bytes w16 (s0 ∷ s1 ∷ []))
  pub npdu : p.npdu ≡ then_some (pn_flag flags) number
  pub first : p.first ≡ (if e_flag flags then next else 0)
  pub chain : IsChain p.first p.chain
  pub parts : rest ≡ p.chain ++ p.payload

abbrev pub IsBody : GtpuPacket → ℕ → Bool → List ℕ → Type 0
IsBody p flags false body = IsPlain p body
IsBody p flags true (s0 ∷ s1 ∷ number ∷ next ∷ rest) = IsFlagged p flags s0 s1 number next rest
IsBody p flags true _ = ⊥

-- the first octet, the kind, the number of octets after the first eight, the TEID, and these octets
pub record IsPacket (p : GtpuPacket) (flags code stated teid : ℕ) (body : List ℕ) : Type 0 where
  pub version : flags / 16 ≡ 3
  pub kind : code ≡ kind_code p.kind
  pub length_is : length body ≡ stated
  pub teid_is : p.teid ≡ teid
  pub body_is : IsBody p flags (has_flag flags) body

-- The octets are those of the packet, as a reader sees it: spare bits and unused fields may be anything.
unfoldable pub Gtpu : GtpuPacket → List ℕ → Type 0
Gtpu p (flags ∷ code ∷ l0 ∷ l1 ∷ t0 ∷ t1 ∷ t2 ∷ t3 ∷ body) =
    IsPacket p flags code (from_be_bytes w16 (l0 ∷ l1 ∷ [])) (from_be_bytes w32 (t0 ∷ t1 ∷ t2 ∷ t3 ∷ [])) body
Gtpu p _ = ⊥

-- ---- what is written: 0 in spare bits and unused fields

abbrev pub flags_of : GtpuPacket → ℕ
flags_of p = 48 + (if p.first == 0 then 0 else 4) + (if is_some p.seq then 2 else 0) + (if is_some p.npdu then 1 else 0)

-- the four octets that stand before the headers where there is a flag
abbrev pub fields_of : GtpuPacket → List ℕ
fields_of p = to_be_bytes w16 (unwrap_or p.seq 0) ++ unwrap_or p.npdu 0 ∷ p.first ∷ []

abbrev pub optional_of : GtpuPacket → List ℕ
optional_of p = if has_flag (flags_of p) then fields_of p else []

-- after the first eight octets
abbrev pub body_of : GtpuPacket → List ℕ
body_of p = optional_of p ++ p.chain ++ p.payload

unfoldable pub gtpu_octets : GtpuPacket → List ℕ
gtpu_octets p = flags_of p ∷ kind_code p.kind ∷ to_be_bytes w16 (length (body_of p)) ++ to_be_bytes w32 p.teid ++ body_of p

-- what can be written: the numbers fit, the chain is valid, and the octets after the first eight can be counted
pub record IsWritable (p : GtpuPacket) : Type 0 where
  pub teid : p.teid < 2 ^ 32
  pub seq : IfSome p.seq (λ n. n < 2 ^ 16)
  pub chain : IsChain p.first p.chain
  pub length_fits : length (body_of p) ≤ LENGTH_LIMIT
