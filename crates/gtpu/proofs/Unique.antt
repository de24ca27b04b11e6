-- The octets are those of one packet at most, and where they are a packet's they have no refusal.
use Rattle.std.proofs.Common.{◌≡◌, ℕ, ◌+◌, ◌/◌, ◌%◌, ◌<◌, ◌≤◌, Bool, true, false, if◌then◌else◌, List, [], ◌∷◌, ◌++◌, length, None, Result, Ok, Err, IfOk, IfErr, IsOkAnd, refl, sym, ap, subst, ◌∙◌, inl, inr, ◌⊎◌, true≢false, append-nil, arith, slice_index, drop, ltb-false, ne_eqb, ◌==◌, is_some, length-append}
use Rattle.gnb_types.specs.Refusals.{IsFirst, NoneHolds}
use Rattle.gnb_types.proofs.Refusals.{one_first, none_first}
use Rattle.gtpu.specs.declared.TheConstants.{LENGTH_LIMIT}
use Rattle.gtpu.specs.declared.Kind.{Kind}
use Rattle.gtpu.specs.declared.Kind.TheVariants.{EchoRequest, EchoResponse, ErrorIndication, EndMarker, GPdu}
use Rattle.gtpu.specs.declared.GtpuError.{GtpuError}
use Rattle.gtpu.specs.declared.Packet.{Packet}
use Rattle.gtpu.specs.Headers.{ExtensionHeader, IsChain, Begins, chain_octets}
use Rattle.gtpu.specs.Packets.{GtpuPacket, view, Gtpu, kind_code, e_flag, has_flag, IsFlagged, IsBody, flags_of, fields_of, optional_of, body_of}
use Rattle.gtpu.specs.Refusals.{IsRefusal, Meets, IsRequired, HasWrongLength, length_of, refusals, header_refusals}
use Rattle.gtpu.proofs.Chains.{same_end, stuck_none, stuck_required, stuck_wrong, IsStuck, no_headers}

-- ---- one refusal

pub one_refusal : (bytes : List ℕ) (a b : GtpuError) → IsRefusal a bytes → IsRefusal b bytes → a ≡ b
unfolding IsRefusal
one_refusal bytes a b p q = one_first (refusals bytes) a b p q

-- ---- one packet

one_kind : (a b : Kind) → kind_code a ≡ kind_code b → a ≡ b
one_kind EchoRequest EchoRequest e = refl
one_kind EchoResponse EchoResponse e = refl
one_kind ErrorIndication ErrorIndication e = refl
one_kind EndMarker EndMarker e = refl
one_kind GPdu GPdu e = refl
one_kind a b e = absurd (omega arith)

-- a chain, and what follows it
pub chain_begins : (first : ℕ) (chain payload octets : List ℕ) (p : IsChain first chain) → octets ≡ chain ++ payload
    → Begins first octets p.0 0 payload
chain_begins first chain payload octets p parts =
    record { each = p.1.each; first_is = p.1.first_is; octets_are = parts ∙ ap (λ (x : List ℕ). x ++ payload) (p.1.octets_are ∙ append-nil (chain_octets p.0 0)) }

one_flagged : (p q : GtpuPacket) (flags s0 s1 number next : ℕ) (rest : List ℕ) → p.kind ≡ q.kind → p.teid ≡ q.teid
    → IsFlagged p flags s0 s1 number next rest → IsFlagged q flags s0 s1 number next rest → p ≡ q
one_flagged p q flags s0 s1 number next rest kinds teids a b =
    let firsts : p.first ≡ q.first = a.first ∙ sym b.first in
    let other : IsChain p.first q.chain = subst (λ (n : ℕ). IsChain n q.chain) (sym firsts) b.chain in
    let ends = same_end p.first rest a.chain.0 other.0 0 0 p.payload q.payload (chain_begins p.first p.chain p.payload rest a.chain a.parts) (stuck_none p.payload) (chain_begins p.first q.chain q.payload rest other b.parts) (stuck_none q.payload) in
    let chains : p.chain ≡ q.chain = a.chain.1.octets_are ∙ ap (λ (hs : List ExtensionHeader). chain_octets hs 0 ++ []) ends.0
    ∙ sym other.1.octets_are in
    let seqs : p.seq ≡ q.seq = a.seq ∙ sym b.seq in
    let npdus : p.npdu ≡ q.npdu = a.npdu ∙ sym b.npdu in
    λ i. record { kind = kinds i; teid = teids i; seq = seqs i; npdu = npdus i; first = firsts i; chain = chains i; payload = ends.2 i }

one_body : (p q : GtpuPacket) (flags : ℕ) (flagged : Bool) (body : List ℕ) → p.kind ≡ q.kind → p.teid ≡ q.teid → IsBody p flags flagged body
    → IsBody q flags flagged body → p ≡ q
one_body p q flags false body kinds teids a b =
    let seqs : p.seq ≡ q.seq = a.seq ∙ sym b.seq in
    let npdus : p.npdu ≡ q.npdu = a.npdu ∙ sym b.npdu in
    let firsts : p.first ≡ q.first = a.first ∙ sym b.first in
    let chains : p.chain ≡ q.chain = a.chain ∙ sym b.chain in
    let payloads : p.payload ≡ q.payload = sym a.payload ∙ b.payload in
    λ i. record { kind = kinds i; teid = teids i; seq = seqs i; npdu = npdus i; first = firsts i; chain = chains i; payload = payloads i }
one_body p q flags true (s0 ∷ s1 ∷ number ∷ next ∷ rest) kinds teids a b = one_flagged p q flags s0 s1 number next rest kinds teids a b
one_body p q flags true _ kinds teids a b = absurd a

pub one_packet : (bytes : List ℕ) (p q : GtpuPacket) → Gtpu p bytes → Gtpu q bytes → p ≡ q
unfolding Gtpu
one_packet (flags ∷ code ∷ l0 ∷ l1 ∷ t0 ∷ t1 ∷ t2 ∷ t3 ∷ body) p q a b =
    one_body p q flags (has_flag flags) body (one_kind p.kind q.kind (sym a.kind ∙ b.kind)) (a.teid_is ∙ sym b.teid_is) a.body_is b.body_is
one_packet _ p q a b = absurd a

-- ---- a packet has no refusal

-- no header with a fault is met in a chain
no_fault : (fault : ℕ → List ℕ → Type 0) → ((code : ℕ) (rest : List ℕ) → fault code rest → IsStuck code rest)
    → (first : ℕ) (octets : List ℕ) (hs : List ExtensionHeader) (rest : List ℕ) → Begins first octets hs 0 rest → Meets fault first octets
    → ⊥
no_fault fault stuck first octets hs rest p m =
    let ends = same_end first octets hs m.before 0 m.code rest m.rest p (stuck_none rest) m.begins (stuck m.code m.rest m.wrong) in
    omega (arith, ends.1, m.some)

no_faults : (first : ℕ) (octets : List ℕ) (hs : List ExtensionHeader) (rest : List ℕ) → Begins first octets hs 0 rest
    → NoneHolds (header_refusals first octets)
no_faults first octets hs rest p = (no_fault IsRequired stuck_required first octets hs rest p, (no_fault HasWrongLength stuck_wrong first octets hs rest p, tt))

body_long : (p : GtpuPacket) (flags : ℕ) (flagged : Bool) (body : List ℕ) → IsBody p flags flagged body → flagged ≡ true → 4 ≤ length body
body_long p flags false body a set = absurd (true≢false (sym set))
body_long p flags true (s0 ∷ s1 ∷ number ∷ next ∷ rest) a set = omega arith
body_long p flags true _ a set = absurd a

no_extension : (flags : ℕ) → has_flag flags ≡ false → e_flag flags ≡ false
no_extension flags unset = let none : flags % 8 ≤ 0 = ltb-false 0 (flags % 8) unset in ne_eqb (flags / 4 % 2) 1 (λ set. omega arith)

-- the headers that stand in these octets
body_headers : (p : GtpuPacket) (flags : ℕ) (flagged : Bool) (body : List ℕ) → has_flag flags ≡ flagged → IsBody p flags flagged body
    → NoneHolds (header_refusals (if e_flag flags then slice_index body 3 else 0) (drop 4 body))
body_headers p flags false body is a =
    subst (λ (b : Bool). NoneHolds (header_refusals (if b then slice_index body 3 else 0) (drop 4 body))) (sym (no_extension flags is))
    (no_faults 0 (drop 4 body) [] (drop 4 body) (record { each = tt; first_is = refl; octets_are = refl }))
body_headers p flags true (s0 ∷ s1 ∷ number ∷ next ∷ rest) is a =
    subst (λ (n : ℕ). NoneHolds (header_refusals n rest)) a.first (no_faults p.first rest a.chain.0 p.payload (chain_begins p.first p.chain p.payload rest a.chain a.parts))
body_headers p flags true _ is a = absurd a

none_holds : (bytes : List ℕ) (p : GtpuPacket) → Gtpu p bytes → NoneHolds (refusals bytes)
unfolding Gtpu
none_holds (flags ∷ code ∷ l0 ∷ l1 ∷ t0 ∷ t1 ∷ t2 ∷ t3 ∷ body) p a =
    let wrong : ¬ ((8 + length_of (flags ∷ code ∷ l0 ∷ l1 ∷ t0 ∷ t1 ∷ t2 ∷ t3 ∷ body) < length (flags ∷ code ∷ l0 ∷ l1 ∷ t0 ∷ t1 ∷ t2 ∷ t3 ∷ body)) ⊎ ((has_flag flags ≡ true) × (length_of (flags ∷ code ∷ l0 ∷ l1 ∷ t0 ∷ t1 ∷ t2 ∷ t3 ∷ body) < 4))) =
    λ x. elim x [ inl more ↦ omega (arith, a.length_is, more) | inr few ↦ omega (arith, a.length_is, few.1, body_long p flags (has_flag flags) body a.body_is few.0) ] in
    (λ short. omega (arith, short), (λ other. other a.version, (λ none. none p.kind a.kind, (λ few. omega (arith, a.length_is, few), (wrong, body_headers p flags (has_flag flags) body refl a.body_is)))))
none_holds _ p a = absurd a

-- octets aren't both a packet's and refused
pub not_both : (bytes : List ℕ) (p : GtpuPacket) (e : GtpuError) → Gtpu p bytes → IsRefusal e bytes → ⊥
unfolding IsRefusal
not_both bytes p e a refused = none_first (refusals bytes) e (none_holds bytes p a) refused

-- ---- what a reader's answer says

body_chain : (p : GtpuPacket) (flags : ℕ) (flagged : Bool) (body : List ℕ) → IsBody p flags flagged body → IsChain p.first p.chain
body_chain p flags false body a = subst (λ (n : ℕ). IsChain n p.chain) (sym a.first) (subst (λ (xs : List ℕ). IsChain 0 xs) (sym a.chain) no_headers)
body_chain p flags true (s0 ∷ s1 ∷ number ∷ next ∷ rest) a = a.chain
body_chain p flags true _ a = absurd a

pub packet_chain : (bytes : List ℕ) (p : GtpuPacket) → Gtpu p bytes → IsChain p.first p.chain
unfolding Gtpu
packet_chain (flags ∷ code ∷ l0 ∷ l1 ∷ t0 ∷ t1 ∷ t2 ∷ t3 ∷ body) p a = body_chain p flags (has_flag flags) body a.body_is
packet_chain _ p a = absurd a

pub read_chain : (bytes : List ℕ) (r : Result Packet GtpuError) → IfOk r (λ p. Gtpu (view p) bytes)
    → IfOk r (λ p. IsChain p.first p.chain.now)
read_chain bytes (Ok p) found = packet_chain bytes (view p) found
read_chain bytes (Err e) found = tt

pub read_only : (bytes : List ℕ) (r : Result Packet GtpuError) → IfOk r (λ p. Gtpu (view p) bytes) → IfErr r (λ e. IsRefusal e bytes)
    → (p : GtpuPacket) → Gtpu p bytes → IsOkAnd r (λ q. view q ≡ p)
read_only bytes (Ok q) found refused p a = one_packet bytes (view q) p found a
read_only bytes (Err e) found refused p a = absurd (not_both bytes p e a refused)

pub read_all : (bytes : List ℕ) (r : Result Packet GtpuError) → IfOk r (λ p. Gtpu (view p) bytes) → IfErr r (λ e. IsRefusal e bytes)
    → (e : GtpuError) → IsRefusal e bytes → r ≡ Err e
read_all bytes (Ok q) found refused e h = absurd (not_both bytes (view q) e found h)
read_all bytes (Err a) found refused e h = ap (λ (x : GtpuError). Err x) (one_refusal bytes a e refused h)

-- ---- what is read can be written: its octets can be counted

some_fields : (p : GtpuPacket) (b : Bool) → length (if b then fields_of p else []) ≤ 4
some_fields p true = omega arith
some_fields p false = omega arith

plain_fields : (p : GtpuPacket) → p.seq ≡ None → p.npdu ≡ None → p.first ≡ 0 → optional_of p ≡ []
plain_fields p seqs npdus firsts =
    let flags : flags_of p ≡ 48 = λ i. 48 + (if firsts i == 0 then 0 else 4) + (if is_some (seqs i) then 2 else 0) + (if is_some (npdus i) then 1 else 0) in
    ap (λ (n : ℕ). if has_flag n then fields_of p else []) flags

body_counted : (p : GtpuPacket) (flags : ℕ) (flagged : Bool) (body : List ℕ) → IsBody p flags flagged body
    → length (body_of p) ≤ length body
body_counted p flags false body a =
    omega (arith, ap length (plain_fields p a.seq a.npdu a.first), ap length a.chain, ap length a.payload, length-append (optional_of p ++ p.chain) p.payload, length-append (optional_of p) p.chain)
body_counted p flags true (s0 ∷ s1 ∷ number ∷ next ∷ rest) a =
    omega (arith, some_fields p (has_flag (flags_of p)), ap length a.parts, length-append p.chain p.payload, length-append (optional_of p ++ p.chain) p.payload, length-append (optional_of p) p.chain)
body_counted p flags true _ a = absurd a

packet_counted : (bytes : List ℕ) (p : GtpuPacket) → ((i : ℕ) → slice_index bytes i < 256) → Gtpu p bytes
    → length (body_of p) ≤ LENGTH_LIMIT
unfolding Gtpu
packet_counted (flags ∷ code ∷ l0 ∷ l1 ∷ t0 ∷ t1 ∷ t2 ∷ t3 ∷ body) p fits a =
    let high : l0 < 256 = fits 2 in
    let low : l1 < 256 = fits 3 in
    omega (arith, a.length_is, body_counted p flags (has_flag flags) body a.body_is)
packet_counted _ p fits a = absurd a

pub read_counted : (bytes : List ℕ) (r : Result Packet GtpuError) → ((i : ℕ) → slice_index bytes i < 256)
    → IfOk r (λ p. Gtpu (view p) bytes) → IfOk r (λ p. length (body_of (view p)) ≤ LENGTH_LIMIT)
read_counted bytes (Ok p) fits found = packet_counted bytes (view p) fits found
read_counted bytes (Err e) fits found = tt
