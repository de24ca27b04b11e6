-- Octets are a packet's, or they are refused.
use Rattle.std.proofs.Common.{◌≡◌, ◌≢◌, ℕ, zero, suc, ◌+◌, ◌-◌, ◌*◌, ◌/◌, ◌<◌, ◌≤◌, ◌==◌, Bool, true, false, if◌then◌else◌, List, [], ◌∷◌, ◌++◌, length, take, drop, slice_index, None, refl, sym, ap, subst, ◌∙◌, inl, inr, ◌⊎◌, true≢false, append_assoc, append-nil, take-append-drop, length-take-le, arith}
use Rattle.std.specs.Bool.{then_some}
use Rattle.std.specs.Int.{w16, w32, from_be_bytes}
use Rattle.std.proofs.lemmas.Bool.{cases_lt, cases_eq}
use Rattle.std.proofs.lemmas.List.{drop_more}
use Rattle.gtpu.specs.declared.Kind.{Kind}
use Rattle.gtpu.specs.declared.Kind.TheVariants.{EchoRequest, EchoResponse, ErrorIndication, EndMarker, GPdu}
use Rattle.gtpu.specs.declared.GtpuError.{GtpuError}
use Rattle.gtpu.specs.declared.GtpuError.TheVariants as errors
use Rattle.gtpu.specs.Headers.{ExtensionHeader, units, may_have, is_required, chain_octets, Begins, IsChain, SplitsOff}
use Rattle.gtpu.specs.Packets.{GtpuPacket, Gtpu, kind_code, s_flag, pn_flag, has_flag}
use Rattle.gnb_types.specs.Refusals.{IsFirst}
use Rattle.gtpu.specs.Refusals.{IsRefusal, faults_at, length_of, first_of, header_refusals}
use Rattle.gtpu.proofs.Chains.{Passes, passes_none, passes_more, fault_then, split_shorter}
use Rattle.gtpu.proofs.Reading.{Opens, refused_short, refused_version, refused_kind, refused_truncated, refused_longer, refused_flagged, refused_headers, found_plain, found_flagged}

-- ---- one header

-- a length that fits
fitting : (code n : ℕ) (rest : List ℕ) → 0 < code → is_required code ≡ false → may_have code n ≡ true → 0 < n → 4 * n ≤ 1 + length rest
    → (content : List ℕ) × (next : ℕ) × (after : List ℕ) × SplitsOff code (n ∷ rest) content next after
fitting code n rest some passed size more room =
    let k = 4 * n - 2 in
    let content = take k rest in
    let next = slice_index rest k in
    let after = drop (k + 1) rest in
    let h : ExtensionHeader = record { code = code; content = content } in
    let long : length content + 2 ≡ 4 * n = omega (arith, length-take-le k rest (omega arith)) in
    let count : units h ≡ n = omega (arith, long) in
    let inside : k < length rest = omega arith in
    let parts : rest ≡ (content ++ next ∷ []) ++ after =
    sym (take-append-drop k rest) ∙ ap (λ (xs : List ℕ). content ++ xs) (drop_more rest k 0 inside)
    ∙ sym (append_assoc content (next ∷ []) after) in
    (content, next, after, (record { some = some; passed = passed; whole = omega (arith, long, count); size = ap (may_have code) count ∙ size }, λ i. sym count i ∷ parts i))

no_units : (a b : Bool) → (if a then false else (if b then false else false)) ≡ true → ⊥
no_units true b e = true≢false (sym e)
no_units false true e = true≢false (sym e)
no_units false false e = true≢false (sym e)

some_units : (code n : ℕ) → may_have code n ≡ true → 0 < n
some_units code zero size = absurd (no_units (code == 0xC0) (code == 0x82) size)
some_units code (suc n) size = omega arith

-- a header is split off, or it has a fault
abbrev Splits : ℕ → List ℕ → Type 0
Splits code rest = (content : List ℕ) × (next : ℕ) × (after : List ℕ) × SplitsOff code rest content next after

abbrev Fails : ℕ → List ℕ → Type 0
Fails code rest = (e : GtpuError) × IsFirst (faults_at code rest) e

by_length : (code n : ℕ) (rest : List ℕ) → 0 < code → is_required code ≡ false → (b : Bool) → may_have code n ≡ b → Fails code (n ∷ rest)
    ⊎ Splits code (n ∷ rest)
by_length code n rest some passed false size = inl (errors.ExtLength, inr (λ required. true≢false (sym required ∙ passed), inl (inl size, refl)))
by_length code n rest some passed true size =
    elim (cases_lt (1 + length rest) (4 * n)) [
      | inl long ↦ inl (errors.ExtLength, inr (λ required. true≢false (sym required ∙ passed), inl (inr long, refl)))
      | inr room ↦ inr (fitting code n rest some passed size (some_units code n size) room)
    ]

by_octets : (code : ℕ) (rest : List ℕ) → 0 < code → is_required code ≡ false → Fails code rest ⊎ Splits code rest
by_octets code [] some passed = inl (errors.ExtLength, inr (λ required. true≢false (sym required ∙ passed), inl (tt, refl)))
by_octets code (n ∷ rest) some passed = by_length code n rest some passed (may_have code n) refl

by_type : (code : ℕ) (rest : List ℕ) → 0 < code → (b : Bool) → is_required code ≡ b → Fails code rest ⊎ Splits code rest
by_type code rest some true required = inl (errors.ExtRequired, inl (required, refl))
by_type code rest some false passed = by_octets code rest some passed

-- ---- all headers

abbrev Settled : ℕ → List ℕ → Type 0
Settled first octets = ((hs : List ExtensionHeader) × (rest : List ℕ) × Begins first octets hs 0 rest)
    ⊎ ((e : GtpuError) × IsFirst (header_refusals first octets) e)

at_end : (first : ℕ) (octets : List ℕ) (code : ℕ) (rest : List ℕ) → code ≤ 0 → Passes first octets code rest → Settled first octets
at_end first octets code rest none p =
    let is : code ≡ 0 = omega arith in
    inl (p.hs, rest, subst (λ (c : ℕ). Begins first octets p.hs c rest) is p.begins)

settle : (n first : ℕ) (octets : List ℕ) (code : ℕ) (rest : List ℕ) → length rest < n → Passes first octets code rest → Settled first octets
settle zero first octets code rest short p = absurd (omega arith)
settle (suc n) first octets code rest short p =
    elim (cases_lt 0 code) [
      | inl some ↦ elim (by_type code rest some (is_required code) refl) [
        | inl fault ↦ inr (fault.0, fault_then first octets code rest fault.0 some p fault.1)
        | inr s ↦ settle n first octets s.1 s.2 (omega (arith, split_shorter code rest s.0 s.1 s.2 s.3)) (passes_more first octets code rest s.0 s.1 s.2 p s.3)
      ]
      | inr none ↦ at_end first octets code rest none p
    ]

-- ---- all octets

no_kind : (code : ℕ) → code ≢ 1 → code ≢ 2 → code ≢ 26 → code ≢ 254 → code ≢ 255 → (kind : Kind) → code ≢ kind_code kind
no_kind code a b c d e EchoRequest = a
no_kind code a b c d e EchoResponse = b
no_kind code a b c d e ErrorIndication = c
no_kind code a b c d e EndMarker = d
no_kind code a b c d e GPdu = e

kind_known : (code : ℕ) → ((kind : Kind) × (code ≡ kind_code kind)) ⊎ ((kind : Kind) → code ≢ kind_code kind)
kind_known code =
    elim (cases_eq code 1) [
      | inl is ↦ inl (EchoRequest, is)
      | inr a ↦ elim (cases_eq code 2) [
        | inl is ↦ inl (EchoResponse, is)
        | inr b ↦ elim (cases_eq code 26) [
          | inl is ↦ inl (ErrorIndication, is)
          | inr c ↦ elim (cases_eq code 254) [
            | inl is ↦ inl (EndMarker, is)
            | inr d ↦ elim (cases_eq code 255) [ inl is ↦ inl (GPdu, is) | inr e ↦ inr (no_kind code a b c d e) ]
          ]
        ]
      ]
    ]

abbrev Decided : List ℕ → Type 0
Decided bytes = ((p : GtpuPacket) × Gtpu p bytes) ⊎ ((e : GtpuError) × IsRefusal e bytes)

abbrev teid_at : List ℕ → ℕ
teid_at bytes = from_be_bytes w32 (slice_index bytes 4 ∷ slice_index bytes 5 ∷ slice_index bytes 6 ∷ slice_index bytes 7 ∷ [])

by_headers : (bytes : List ℕ) (kind : Kind) → Opens bytes kind → length bytes ≡ 8 + length_of bytes → has_flag (slice_index bytes 0) ≡ true
    → 4 ≤ length_of bytes → Settled (first_of bytes) (drop 12 bytes) → Decided bytes
by_headers bytes kind o whole flag room (inr fault) = inr (fault.0, refused_headers bytes kind fault.0 o whole room fault.1)
by_headers bytes kind o whole flag room (inl s) =
    let flags = slice_index bytes 0 in
    let p : GtpuPacket = record {
      kind = kind;
      teid = teid_at bytes;
      seq = then_some (s_flag flags) (from_be_bytes w16 (slice_index bytes 8 ∷ slice_index bytes 9 ∷ []));
      npdu = then_some (pn_flag flags) (slice_index bytes 10);
      first = first_of bytes;
      chain = chain_octets s.0 0;
      payload = s.1;
    } in
    let chain : IsChain (first_of bytes) (chain_octets s.0 0) = (s.0, record { each = s.2.each; first_is = s.2.first_is; octets_are = sym (append-nil (chain_octets s.0 0)) }) in
    inl (p, found_flagged bytes p o refl whole flag room refl refl refl chain s.2.octets_are)

by_flags : (bytes : List ℕ) (kind : Kind) → Opens bytes kind → length bytes ≡ 8 + length_of bytes → (b : Bool)
    → has_flag (slice_index bytes 0) ≡ b → Decided bytes
by_flags bytes kind o whole false none =
    let p : GtpuPacket = record { kind = kind; teid = teid_at bytes; seq = None; npdu = None; first = 0; chain = []; payload = drop 8 bytes } in
    inl (p, found_plain bytes (drop 8 bytes) kind refl o whole none)
by_flags bytes kind o whole true flag =
    elim (cases_lt (length_of bytes) 4) [
      | inl few ↦ inr (errors.Length, refused_flagged bytes kind o whole flag few)
      | inr room ↦ by_headers bytes kind o whole flag room (settle (suc (length (drop 12 bytes))) (first_of bytes) (drop 12 bytes) (first_of bytes) (drop 12 bytes) (omega arith) (passes_none (first_of bytes) (drop 12 bytes)))
    ]

by_count : (bytes : List ℕ) (kind : Kind) → Opens bytes kind → Decided bytes
by_count bytes kind o =
    elim (cases_lt (length bytes) (8 + length_of bytes)) [
      | inl few ↦ inr (errors.Truncated, refused_truncated bytes kind o few)
      | inr enough ↦ elim (cases_lt (8 + length_of bytes) (length bytes)) [
        | inl more ↦ inr (errors.Length, refused_longer bytes kind o more)
        | inr within ↦ by_flags bytes kind o (omega arith) (has_flag (slice_index bytes 0)) refl
      ]
    ]

pub decided : (bytes : List ℕ) → ((p : GtpuPacket) × Gtpu p bytes) ⊎ ((e : GtpuError) × IsRefusal e bytes)
decided bytes =
    elim (cases_lt (length bytes) 8) [
      | inl short ↦ inr (errors.Truncated, refused_short bytes short)
      | inr long ↦ elim (cases_eq (slice_index bytes 0 / 16) 3) [
        | inr other ↦ inr (errors.Version, refused_version bytes long other)
        | inl version ↦ elim (kind_known (slice_index bytes 1)) [
          | inr none ↦ inr (errors.Kind, refused_kind bytes long version none)
          | inl k ↦ by_count bytes k.0 (record { long = long; version = version; code = k.1 })
        ]
      ]
    ]
