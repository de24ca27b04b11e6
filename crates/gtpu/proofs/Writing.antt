-- What is written, and that it is read again.
use Rattle.std.proofs.Common.{◌≡◌, ℕ, ◌+◌, ◌/◌, ◌^◌, ◌<◌, ◌==◌, Bool, true, false, if◌then◌else◌, List, [], ◌∷◌, ◌++◌, length, bit_and, Option, Some, None, is_some, unwrap_or, IfSome, eqb-true, refl, sym, ap, ◌∙◌, length-append, arith}
use Rattle.std.specs.Int.{w16, w32, to_be_bytes, from_be_bytes}
use Rattle.std.proofs.lemmas.Nat.{from_be_bytes-to_be_bytes_2, from_be_bytes-to_be_bytes_4}
use Rattle.gtpu.specs.Headers.{ExtensionHeader, IsChain, AreHeaders}
use Rattle.gtpu.specs.Packets.{GtpuPacket, Gtpu, IsBody, IsWritable, gtpu_octets, flags_of, fields_of, optional_of, body_of, kind_code, has_flag}
use Rattle.gtpu.proofs.Flags.{no_flag, some_flag}

pub no_fields : (p : GtpuPacket) (flags : ℕ) → flags ≡ flags_of p → bit_and flags 7 ≡ 0 → [] ≡ optional_of p
no_fields p flags are none = sym (ap (λ (b : Bool). if b then fields_of p else []) (no_flag (flags_of p) (sym (ap (λ (n : ℕ). bit_and n 7) are) ∙ none)))

pub all_fields : (p : GtpuPacket) (flags : ℕ) → flags ≡ flags_of p → (bit_and flags 7 ≡ 0 → ⊥) → fields_of p ≡ optional_of p
all_fields p flags are some = sym (ap (λ (b : Bool). if b then fields_of p else []) (some_flag (flags_of p) (λ none. some (ap (λ (n : ℕ). bit_and n 7) are ∙ none))))

pub length-body : (p : GtpuPacket) (optional : List ℕ) → optional ≡ optional_of p
    → length optional + length p.chain + length p.payload ≡ length (body_of p)
length-body p optional is = omega (arith, ap length is, length-append (optional_of p ++ p.chain) p.payload, length-append (optional_of p) p.chain)

-- one piece after the other
pub in_pieces : (p : GtpuPacket) (a b c d e f g : List ℕ) (flags code count : ℕ) (optional : List ℕ) → flags ≡ flags_of p
    → code ≡ kind_code p.kind → count ≡ length (body_of p) → optional ≡ optional_of p
    → a ≡ [] → b ≡ a ++ (flags ∷ code ∷ []) → c ≡ b ++ to_be_bytes w16 count → d ≡ c ++ to_be_bytes w32 p.teid → e ≡ d ++ optional
    → f ≡ e ++ p.chain → g ≡ f ++ p.payload → g ≡ gtpu_octets p
unfolding gtpu_octets
in_pieces p a b c d e f g flags code count optional flags-are code-is counted is none head stated tunnel fields chain payload =
    let start : c ≡ flags_of p ∷ kind_code p.kind ∷ to_be_bytes w16 (length (body_of p)) =
    stated ∙ (λ i. (head ∙ (λ j. none j ++ (flags-are j ∷ code-is j ∷ []))) i ++ to_be_bytes w16 (counted i)) in
    let body : g ≡ (((c ++ to_be_bytes w32 p.teid) ++ optional_of p) ++ p.chain) ++ p.payload =
    payload ∙ (λ i. (chain ∙ (λ j. (fields ∙ (λ k. tunnel k ++ is k)) j ++ p.chain)) i ++ p.payload) in
    body ∙ (λ i. (((start i ++ to_be_bytes w32 p.teid) ++ optional_of p) ++ p.chain) ++ p.payload)

-- ---- what is written is read again

abbrev flags_by : Bool → Bool → Bool → ℕ
flags_by none s pn = 48 + (if none then 0 else 4) + (if s then 2 else 0) + (if pn then 1 else 0)

version_by : (none s pn : Bool) → flags_by none s pn / 16 ≡ 3
version_by true true true = refl
version_by true true false = refl
version_by true false true = refl
version_by true false false = refl
version_by false true true = refl
version_by false true false = refl
version_by false false true = refl
version_by false false false = refl

seq_back : (seq : Option ℕ) (n : ℕ) → seq ≡ Some n → n < 2 ^ 16 → seq ≡ Some (from_be_bytes w16 (to_be_bytes w16 (unwrap_or seq 0)))
seq_back seq n is fits = is ∙ ap (λ (m : ℕ). Some m) (sym (from_be_bytes-to_be_bytes_2 n fits))
    ∙ ap (λ (o : Option ℕ). Some (from_be_bytes w16 (to_be_bytes w16 (unwrap_or o 0)))) (sym is)

npdu_back : (npdu : Option ℕ) (n : ℕ) → npdu ≡ Some n → npdu ≡ Some (unwrap_or npdu 0)
npdu_back npdu n is = is ∙ ap (λ (o : Option ℕ). Some (unwrap_or o 0)) (sym is)

chain_none : (first : ℕ) (chain : List ℕ) → first ≡ 0 → IsChain first chain → chain ≡ []
chain_none first chain none p = go p.0 p.1
  where
    go : (hs : List ExtensionHeader) → AreHeaders hs first chain → chain ≡ []
    go [] p = p.octets_are
    go (h ∷ hs) p = absurd (omega (arith, p.each.0.some, p.first_is, none))

-- the body after the flags that the fields give
written_body : (p : GtpuPacket) (none : Bool) (seq npdu : Option ℕ) → (p.first == 0) ≡ none → p.seq ≡ seq → p.npdu ≡ npdu
    → IfSome seq (λ n. n < 2 ^ 16) → IsChain p.first p.chain
    → let flags = flags_by none (is_some seq) (is_some npdu) in IsBody p flags (has_flag flags) ((if has_flag flags then fields_of p else []) ++ p.chain ++ p.payload)
written_body p true None None e seqs npdus fits chain =
    let none : p.first ≡ 0 = eqb-true p.first 0 e in
    let empty = chain_none p.first p.chain none chain in
    record { seq = seqs; npdu = npdus; first = none; chain = empty; payload = ap (λ (xs : List ℕ). xs ++ p.payload) empty }
written_body p true None (Some n) e seqs npdus fits chain = record { seq = seqs; npdu = npdu_back p.npdu n npdus; first = eqb-true p.first 0 e; chain = chain; parts = refl }
written_body p true (Some s) None e seqs npdus fits chain = record { seq = seq_back p.seq s seqs fits; npdu = npdus; first = eqb-true p.first 0 e; chain = chain; parts = refl }
written_body p true (Some s) (Some n) e seqs npdus fits chain = record { seq = seq_back p.seq s seqs fits; npdu = npdu_back p.npdu n npdus; first = eqb-true p.first 0 e; chain = chain; parts = refl }
written_body p false None None e seqs npdus fits chain = record { seq = seqs; npdu = npdus; first = refl; chain = chain; parts = refl }
written_body p false None (Some n) e seqs npdus fits chain = record { seq = seqs; npdu = npdu_back p.npdu n npdus; first = refl; chain = chain; parts = refl }
written_body p false (Some s) None e seqs npdus fits chain = record { seq = seq_back p.seq s seqs fits; npdu = npdus; first = refl; chain = chain; parts = refl }
written_body p false (Some s) (Some n) e seqs npdus fits chain = record { seq = seq_back p.seq s seqs fits; npdu = npdu_back p.npdu n npdus; first = refl; chain = chain; parts = refl }

pub written_is_read : (p : GtpuPacket) → IsWritable p → Gtpu p (gtpu_octets p)
unfolding Gtpu gtpu_octets
written_is_read p w =
    record {
      version = version_by (p.first == 0) (is_some p.seq) (is_some p.npdu);
      kind = refl;
      length_is = sym (from_be_bytes-to_be_bytes_2 (length (body_of p)) (omega (arith, w.length_fits)));
      teid_is = sym (from_be_bytes-to_be_bytes_4 p.teid w.teid);
      body_is = written_body p (p.first == 0) p.seq p.npdu refl refl refl w.seq w.chain;
    }
