-- What is taken apart is a packet of these parts, and each packet that a link knows is taken apart.
use Rattle.std.proofs.Common.{◌≡◌, ℕ, zero, suc, ◌+◌, ◌-◌, ◌*◌, ◌/◌, ◌<◌, ◌==◌, ◌&&◌, ◌||◌, not, Bool, true, false, if◌then◌else◌, List, [], ◌∷◌, ◌++◌, length, take, drop, Option, Some, None, option_and_then, refl, sym, ap, subst, ◌∙◌, eq-eqb, ne_eqb, eqb-true, append_assoc, append-nil, length-drop, length-take-le, take-append-drop, take_at, drop_at, arith}
use Rattle.std.specs.Bool.{then_some}
use Rattle.std.specs.Int.{w16, w32, from_be_bytes}
use Rattle.std.proofs.lemmas.Bool.{and_from, or_parts, or_from, eqb-false, not-false, cond-true, cond-false}
use Rattle.std.proofs.lemmas.Option.{cond_some, none-some, same_Some, option_and_then_some}
use Rattle.gnb_types.proofs.Choices.{chosen}
use Rattle.gtpu.specs.declared.Kind.{Kind}
use Rattle.gtpu.specs.declared.Kind.TheVariants.{EndMarker, GPdu}
use Rattle.gtpu.specs.Headers.{ExtensionHeader, IsHeader, units, is_required, may_have, header_octets, AreHeaders, IsChain}
use Rattle.gtpu.specs.Packets.{GtpuPacket, Gtpu, IsBody, IsPacket, kind_code, e_flag, s_flag, pn_flag, has_flag}
use Rattle.gtpu.proofs.Chains.{are_one_header, no_headers, one_header}
use Rattle.link_defs.specs.Decoding.{IsBare, HasHeader, SaysEnd}
use Rattle.link_defs.specs.read_defs.Shells.{Body, plain, headed, Shell, g_pdu, end_marker, last_header, header_in, headers_in, flagged_in, body_in, marker_of, shell_of, shell_in}

-- the packet is one of these parts
abbrev pub IsShell : Shell → GtpuPacket → Type 0
IsShell (g_pdu (plain payload)) p = IsBare GPdu p × (p.payload ≡ payload)
IsShell (g_pdu (headed header payload)) p = HasHeader header.code header.content p × (p.payload ≡ payload)
IsShell end_marker p = SaysEnd p

-- what two tests let through
cond_both_some : {A : Type 0} (a b : Bool) (o : Option A) (x : A) → (if a && b then o else None) ≡ Some x
    → (a ≡ true) × (b ≡ true) × (o ≡ Some x)
cond_both_some true true o x e = (refl, refl, e)
cond_both_some true false o x e = absurd (none-some x e)
cond_both_some false b o x e = absurd (none-some x e)

-- ---- what is read is there: headers

abbrev first_of : Body → ℕ
first_of (plain payload) = 0
first_of (headed header payload) = header.code

abbrev chain_of : Body → List ℕ
chain_of (plain payload) = []
chain_of (headed header payload) = header_octets header 0

abbrev payload_of : Body → List ℕ
payload_of (plain payload) = payload
payload_of (headed header payload) = payload

abbrev HasGoodHeader : Body → Type 0
HasGoodHeader (plain payload) = Unit {0}
HasGoodHeader (headed header payload) = IsHeader header

record Begins (code : ℕ) (octets : List ℕ) (body : Body) : Type 0 where
  good : HasGoodHeader body
  first : first_of body ≡ code
  parts : octets ≡ chain_of body ++ payload_of body

no_units : (a b : Bool) → (if a then false else (if b then false else false)) ≡ false
no_units true b = refl
no_units false true = refl
no_units false false = refl

some_units : (code n : ℕ) → may_have code n ≡ true → 0 < n
some_units code zero size = let none : may_have code 0 ≡ false = no_units (code == 0xC0) (code == 0x82) in cc
some_units code (suc n) size = omega arith

last_ends : (header : ExtensionHeader) (after : List ℕ) (body : Body) → last_header header after ≡ Some body
    → (payload : List ℕ) × (after ≡ 0 ∷ payload) × (headed header payload ≡ body)
last_ends header [] body e = absurd (none-some body e)
last_ends header (next ∷ payload) body e =
    let read = cond_some (next == 0) (headed header payload) body e in
    (payload, ap (λ (n : ℕ). n ∷ payload) (eqb-true next 0 read.0), read.1)

header_begins : (code n : ℕ) (octets payload : List ℕ) → 0 < code → is_required code ≡ false → may_have code n ≡ true
    → drop (4 * n - 2) octets ≡ 0 ∷ payload
    → Begins code (n ∷ octets) (headed (record { code = code; content = take (4 * n - 2) octets }) payload)
header_begins code n octets payload some passed size after =
    let k : ℕ = 4 * n - 2 in
    let content : List ℕ = take k octets in
    let h : ExtensionHeader = record { code = code; content = content } in
    let more : 0 < n = some_units code n size in
    let inside : k < length octets = omega (arith, ap length after, length-drop k octets) in
    let long : length content + 2 ≡ 4 * n = omega (arith, length-take-le k octets (omega arith)) in
    let count : units h ≡ n = omega (arith, long) in
    let parts : octets ≡ (content ++ 0 ∷ []) ++ payload = sym (take-append-drop k octets) ∙ ap (λ (xs : List ℕ). content ++ xs) after
    ∙ sym (append_assoc content (0 ∷ []) payload) in
    record {
      good = record { some = some; passed = passed; whole = omega (arith, long, count); size = ap (may_have code) count ∙ size };
      first = refl;
      parts = λ i. sym count i ∷ parts i;
    }

header_good : (code n : ℕ) (octets : List ℕ) (body : Body) → 0 < code → (is_required code || not (may_have code n)) ≡ false
    → last_header (record { code = code; content = take (4 * n - 2) octets }) (drop (4 * n - 2) octets) ≡ Some body
    → Begins code (n ∷ octets) body
header_good code n octets body some good e =
    let k : ℕ = 4 * n - 2 in
    let tests = or_parts (is_required code) (not (may_have code n)) good in
    let may = not-false (may_have code n) tests.1 in
    let last = last_ends (record { code = code; content = take k octets }) (drop k octets) body e in
    subst (λ (b : Body). Begins code (n ∷ octets) b) last.2 (header_begins code n octets last.0 some tests.0 may last.1)

header_there : (code : ℕ) (octets : List ℕ) (body : Body) → 0 < code → header_in code octets ≡ Some body → Begins code octets body
header_there code [] body some e = absurd (none-some body e)
header_there code (n ∷ octets) body some e =
    let k : ℕ = 4 * n - 2 in
    let last = last_header (record { code = code; content = take k octets }) (drop k octets) in
    chosen (is_required code || not (may_have code n)) None last (Some body) e (Begins code (n ∷ octets) body)
    (λ bad none. absurd (none-some body none))
    (λ good read. header_good code n octets body some good read)

headers_there : (code : ℕ) (octets : List ℕ) (body : Body) → headers_in code octets ≡ Some body → Begins code octets body
headers_there code octets body e =
    let begins : code ≡ 0 → Begins code octets (plain octets) = λ none. record { good = tt; first = sym none; parts = refl } in
    chosen (code == 0) (Some (plain octets)) (header_in code octets) (Some body) e (Begins code octets body)
    (λ none same. subst (λ (b : Body). Begins code octets b) (same_Some (plain octets) body same) (begins (eqb-true code 0 none)))
    (λ some read. let other = eqb-false code 0 some in header_there code octets body (omega (arith, other)) read)

-- ---- what is read is there: packets

abbrev packet_of : Kind → ℕ → Body → GtpuPacket
packet_of kind teid body = record {
  kind = kind;
  teid = teid;
  seq = None;
  npdu = None;
  first = first_of body;
  chain = chain_of body;
  payload = payload_of body;
}

chain_good : (body : Body) → HasGoodHeader body → IsChain (first_of body) (chain_of body)
chain_good (plain payload) good = no_headers
chain_good (headed header payload) good = one_header header good

abbrev IsThere : Kind → ℕ → ℕ → Bool → List ℕ → Body → Type 0
IsThere kind teid flags flag octets body = HasGoodHeader body × IsBody (packet_of kind teid body) flags flag octets

flags_clear : (kind : Kind) (teid flags s0 s1 number next : ℕ) (octets : List ℕ) (body : Body) → (s_flag flags || pn_flag flags) ≡ false
    → Begins (if e_flag flags then next else 0) octets body → IsThere kind teid flags true (s0 ∷ s1 ∷ number ∷ next ∷ octets) body
flags_clear kind teid flags s0 s1 number next octets body clear is =
    let bits = or_parts (s_flag flags) (pn_flag flags) clear in
    let no_seq = ap (λ (b : Bool). then_some b (from_be_bytes w16 (s0 ∷ s1 ∷ []))) bits.0 in
    let no_npdu = ap (λ (b : Bool). then_some b number) bits.1 in
    (is.good, record { seq = sym no_seq; npdu = sym no_npdu; first = is.first; chain = chain_good body is.good; parts = is.parts })

flagged_there : (kind : Kind) (teid flags : ℕ) (octets : List ℕ) (body : Body) → flagged_in flags octets ≡ Some body
    → IsThere kind teid flags true octets body
flagged_there kind teid flags (s0 ∷ s1 ∷ number ∷ next ∷ octets) body e =
    let first : ℕ = if e_flag flags then next else 0 in
    chosen (s_flag flags || pn_flag flags) None (headers_in first octets) (Some body) e
    (IsThere kind teid flags true (s0 ∷ s1 ∷ number ∷ next ∷ octets) body)
    (λ set none. absurd (none-some body none))
    (λ clear read. flags_clear kind teid flags s0 s1 number next octets body clear (headers_there first octets body read))
flagged_there kind teid flags octets body e = absurd (none-some body e)

body_there : (kind : Kind) (teid flags : ℕ) (flag : Bool) (octets : List ℕ) (body : Body)
    → (if flag then flagged_in flags octets else Some (plain octets)) ≡ Some body → IsThere kind teid flags flag octets body
body_there kind teid flags true octets body e = flagged_there kind teid flags octets body e
body_there kind teid flags false octets body e =
    subst (λ (b : Body). IsThere kind teid flags false octets b) (same_Some (plain octets) body e)
    (tt, record { seq = refl; npdu = refl; first = refl; chain = refl; payload = refl })

g_pdu_is : (teid : ℕ) (body : Body) → HasGoodHeader body → IsShell (g_pdu body) (packet_of GPdu teid body)
g_pdu_is teid (plain payload) good = (record { kind_is = refl; seq = refl; npdu = refl; first = refl }, refl)
g_pdu_is teid (headed header payload) good =
    (record { kind_is = refl; seq = refl; npdu = refl; headers = are_one_header header good }, refl)

marker_is : (teid : ℕ) → SaysEnd (packet_of EndMarker teid (plain []))
marker_is teid = (record { kind_is = refl; seq = refl; npdu = refl; first = refl }, refl)

-- a packet whose octets after the first eight are these
module _ (flags code stated teid : ℕ) (octets : List ℕ) where
  abbrev Found : Shell → Type 0
  Found shell = (p : GtpuPacket) × IsPacket p flags code stated teid octets × IsShell shell p

  module _ (version : flags / 16 ≡ 3) (counted : length octets ≡ stated) where
    found : (kind : Kind) (body : Body) (shell : Shell) → code ≡ kind_code kind → IsBody (packet_of kind teid body) flags (has_flag flags) octets
        → IsShell shell (packet_of kind teid body) → Found shell
    found kind body shell is there says =
        (packet_of kind teid body, record { version = version; kind = is; length_is = counted; teid_is = refl; body_is = there }, says)

    g_pdu_found : (body : Body) (shell : Shell) → code ≡ kind_code GPdu → body_in flags octets ≡ Some body → g_pdu body ≡ shell → Found shell
    g_pdu_found body shell is read same =
        let there = body_there GPdu teid flags (has_flag flags) octets body read in
        subst (λ (s : Shell). Found s) same (found GPdu body (g_pdu body) is there.1 (g_pdu_is teid body there.0))

    marker_found : (body : Body) (shell : Shell) → code ≡ kind_code EndMarker → body_in flags octets ≡ Some body → marker_of body ≡ Some shell
        → Found shell
    marker_found (plain []) shell is read e =
        let there = body_there EndMarker teid flags (has_flag flags) octets (plain []) read in
        subst (λ (s : Shell). Found s) (same_Some end_marker shell e) (found EndMarker (plain []) end_marker is there.1 (marker_is teid))
    marker_found (plain (octet ∷ payload)) shell is read e = absurd (none-some shell e)
    marker_found (headed header payload) shell is read e = absurd (none-some shell e)

    packet_found : (body : Body) (shell : Shell) → body_in flags octets ≡ Some body → shell_of code body ≡ Some shell → Found shell
    packet_found body shell read e =
        let other_type : Option Shell = if code == 254 then marker_of body else None in
        chosen (code == 255) (Some (g_pdu body)) other_type (Some shell) e (Found shell)
        (λ is same. g_pdu_found body shell (eqb-true code 255 is) read (same_Some (g_pdu body) shell same))
        (λ other rest. chosen (code == 254) (marker_of body) None (Some shell) rest (Found shell)
        (λ is marked. marker_found body shell (eqb-true code 254 is) read marked)
        (λ unknown none. absurd (none-some shell none)))

    all_found : (shell : Shell) → option_and_then (shell_of code) (body_in flags octets) ≡ Some shell → Found shell
    all_found shell e = option_and_then_some (shell_of code) (body_in flags octets) shell e (λ body read is. packet_found body shell read is)

pub shell_there : (octets : List ℕ) (shell : Shell) → shell_in octets ≡ Some shell → (p : GtpuPacket) × Gtpu p octets × IsShell shell p
unfolding Gtpu
shell_there (flags ∷ code ∷ l0 ∷ l1 ∷ t0 ∷ t1 ∷ t2 ∷ t3 ∷ octets) shell e =
    let stated : ℕ = from_be_bytes w16 (l0 ∷ l1 ∷ []) in
    let teid : ℕ = from_be_bytes w32 (t0 ∷ t1 ∷ t2 ∷ t3 ∷ []) in
    let read = cond_both_some (flags / 16 == 3) (length octets == stated) (option_and_then (shell_of code) (body_in flags octets)) shell e in
    all_found flags code stated teid octets (eqb-true (flags / 16) 3 read.0) (eqb-true (length octets) stated read.1) shell read.2
shell_there octets shell e = absurd (none-some shell e)

-- ---- what is there is read

header_back : (h : ExtensionHeader) (payload : List ℕ) → IsHeader h
    → header_in h.code (header_octets h 0 ++ payload) ≡ Some (headed h payload)
header_back h payload is =
    let k : ℕ = 4 * units h - 2 in
    let rest : List ℕ = (h.content ++ 0 ∷ []) ++ payload in
    let long : length h.content ≡ k = omega (arith, is.whole) in
    let seam : rest ≡ h.content ++ 0 ∷ payload = append_assoc h.content (0 ∷ []) payload in
    let front : take k rest ≡ h.content = ap (take k) seam ∙ take_at h.content (0 ∷ payload) k long in
    let back : drop k rest ≡ 0 ∷ payload = ap (drop k) seam ∙ drop_at h.content (0 ∷ payload) k long in
    cond-false (is_required h.code || not (may_have h.code (units h))) None
    (last_header (record { code = h.code; content = take k rest }) (drop k rest))
    (or_from (is_required h.code) (not (may_have h.code (units h))) is.passed (ap not is.size))
    ∙ (λ i. last_header (record { code = h.code; content = front i }) (back i))

-- the packet has this body
abbrev HasBody : Body → GtpuPacket → Type 0
HasBody (plain payload) p = (p.first ≡ 0) × (p.payload ≡ payload)
HasBody (headed header payload) p = AreHeaders (header ∷ []) p.first p.chain × (p.payload ≡ payload)

no_chain : (first : ℕ) (chain : List ℕ) → first ≡ 0 → (hs : List ExtensionHeader) → AreHeaders hs first chain → chain ≡ []
no_chain first chain none [] are = are.octets_are
no_chain first chain none (h ∷ hs) are = absurd (omega (arith, none, are.first_is, are.each.0.some))

headers_read : (p : GtpuPacket) (first : ℕ) (octets : List ℕ) (body : Body) → p.first ≡ first → IsChain p.first p.chain
    → octets ≡ p.chain ++ p.payload → HasBody body p → headers_in first octets ≡ Some body
headers_read p first octets (plain payload) is chain parts h =
    let none : p.chain ≡ [] = no_chain p.first p.chain h.0 chain.0 chain.1 in
    cond-true (first == 0) (Some (plain octets)) (header_in first octets) (eq-eqb first 0 (sym is ∙ h.0))
    ∙ ap (λ (xs : List ℕ). Some (plain xs)) (parts ∙ ap (λ (xs : List ℕ). xs ++ p.payload) none ∙ h.1)
headers_read p first octets (headed header payload) is chain parts h =
    let good : IsHeader header = h.0.each.0 in
    let code : first ≡ header.code = sym is ∙ h.0.first_is in
    let one : List ℕ = header_octets header 0 in
    let whole : p.chain ≡ one = h.0.octets_are ∙ append-nil (one ++ []) ∙ append-nil one in
    let all : octets ≡ one ++ payload = parts ∙ (λ i. whole i ++ h.1 i) in
    cond-false (first == 0) (Some (plain octets)) (header_in first octets) (ne_eqb first 0 (λ none. omega (arith, none, code, good.some)))
    ∙ (λ i. header_in (code i) (all i)) ∙ header_back header payload good

unset : (b : Bool) (n : ℕ) → then_some b n ≡ None → b ≡ false
unset true n e = absurd (none-some n (sym e))
unset false n e = refl

flagged_read : (p : GtpuPacket) (flags : ℕ) (octets : List ℕ) (body : Body) → IsBody p flags true octets → p.seq ≡ None → p.npdu ≡ None
    → HasBody body p → flagged_in flags octets ≡ Some body
flagged_read p flags (s0 ∷ s1 ∷ number ∷ next ∷ octets) body is seq npdu h =
    let first : ℕ = if e_flag flags then next else 0 in
    let no_seq : s_flag flags ≡ false = unset (s_flag flags) (from_be_bytes w16 (s0 ∷ s1 ∷ [])) (sym is.seq ∙ seq) in
    let no_npdu : pn_flag flags ≡ false = unset (pn_flag flags) number (sym is.npdu ∙ npdu) in
    cond-false (s_flag flags || pn_flag flags) None (headers_in first octets) (or_from (s_flag flags) (pn_flag flags) no_seq no_npdu)
    ∙ headers_read p first octets body is.first is.chain is.parts h
flagged_read p flags octets body is seq npdu h = absurd is

body_read : (p : GtpuPacket) (flags : ℕ) (flag : Bool) (octets : List ℕ) (body : Body) → IsBody p flags flag octets → p.seq ≡ None
    → p.npdu ≡ None → HasBody body p → (if flag then flagged_in flags octets else Some (plain octets)) ≡ Some body
body_read p flags true octets body is seq npdu h = flagged_read p flags octets body is seq npdu h
body_read p flags false octets (plain payload) is seq npdu h = ap (λ (xs : List ℕ). Some (plain xs)) (is.payload ∙ h.1)
body_read p flags false octets (headed header payload) is seq npdu h = absurd (omega (arith, is.first, h.0.first_is, h.0.each.0.some))

-- a G-PDU with this body
g_pdu_read : (p : GtpuPacket) (flags code stated teid : ℕ) (octets : List ℕ) (body : Body) → IsPacket p flags code stated teid octets
    → p.kind ≡ GPdu → p.seq ≡ None → p.npdu ≡ None → HasBody body p
    → option_and_then (shell_of code) (body_in flags octets) ≡ Some (g_pdu body)
g_pdu_read p flags code stated teid octets body is kind seq npdu h =
    ap (option_and_then (shell_of code)) (body_read p flags (has_flag flags) octets body is.body_is seq npdu h)
    ∙ cond-true (code == 255) (Some (g_pdu body)) (if code == 254 then marker_of body else None)
    (eq-eqb code 255 (is.kind ∙ ap kind_code kind))

packet_read : (p : GtpuPacket) (flags code stated teid : ℕ) (octets : List ℕ) (shell : Shell) → IsPacket p flags code stated teid octets
    → IsShell shell p → option_and_then (shell_of code) (body_in flags octets) ≡ Some shell
packet_read p flags code stated teid octets (g_pdu (plain payload)) is h =
    g_pdu_read p flags code stated teid octets (plain payload) is h.0.kind_is h.0.seq h.0.npdu (h.0.first, h.1)
packet_read p flags code stated teid octets (g_pdu (headed header payload)) is h =
    g_pdu_read p flags code stated teid octets (headed header payload) is h.0.kind_is h.0.seq h.0.npdu (h.0.headers, h.1)
packet_read p flags code stated teid octets end_marker is h =
    let named : code ≡ 254 = is.kind ∙ ap kind_code h.0.kind_is in
    ap (option_and_then (shell_of code)) (body_read p flags (has_flag flags) octets (plain []) is.body_is h.0.seq h.0.npdu (h.0.first, h.1))
    ∙ cond-false (code == 255) (Some (g_pdu (plain []))) (if code == 254 then Some end_marker else None)
    (ne_eqb code 255 (λ other. omega (arith, other, named)))
    ∙ cond-true (code == 254) (Some end_marker) None (eq-eqb code 254 named)

pub shell_read : (octets : List ℕ) (p : GtpuPacket) (shell : Shell) → Gtpu p octets → IsShell shell p → shell_in octets ≡ Some shell
unfolding Gtpu
shell_read (flags ∷ code ∷ l0 ∷ l1 ∷ t0 ∷ t1 ∷ t2 ∷ t3 ∷ octets) p shell is h =
    let stated : ℕ = from_be_bytes w16 (l0 ∷ l1 ∷ []) in
    let teid : ℕ = from_be_bytes w32 (t0 ∷ t1 ∷ t2 ∷ t3 ∷ []) in
    cond-true ((flags / 16 == 3) && (length octets == stated)) (option_and_then (shell_of code) (body_in flags octets)) None
    (and_from (flags / 16 == 3) (length octets == stated) (eq-eqb (flags / 16) 3 is.version) (eq-eqb (length octets) stated is.length_is))
    ∙ packet_read p flags code stated teid octets shell is h
shell_read octets p shell is h = absurd is
