-- What a reader finds at each place of the octets, and each of its refusals.
use Rattle.std.proofs.Common.{◌≡◌, ◌≢◌, ℕ, ◌+◌, ◌/◌, ◌<◌, ◌≤◌, ◌==◌, Bool, true, false, not, if◌then◌else◌, List, [], ◌∷◌, ◌++◌, length, drop, slice_index, Option, None, refl, sym, ap, subst, ◌∙◌, inl, inr, ◌⊎◌, arith, get_or-drop, drop-drop, length-drop, slice_range, bit_and, ne_eqb, eq-eqb}
use Rattle.std.proofs.lemmas.Slice.{between_to_end}
use Rattle.std.specs.Bool.{then_some}
use Rattle.std.specs.Int.{w16, w32, from_be_bytes}
use Rattle.gtpu.specs.declared.Kind.{Kind}
use Rattle.gtpu.specs.declared.GtpuError.{GtpuError}
use Rattle.gtpu.specs.declared.GtpuError.TheVariants as errors
use Rattle.gtpu.specs.Headers.{IsChain}
use Rattle.gtpu.specs.Packets.{GtpuPacket, Gtpu, kind_code, e_flag, s_flag, pn_flag, has_flag, IsFlagged, IsBody, IsPacket}
use Rattle.gtpu.proofs.Flags.{e_test, s_test, pn_test}
use Rattle.gnb_types.specs.Refusals.{IsFirst}
use Rattle.gtpu.specs.Refusals.{IsRefusal, length_of, first_of, header_refusals}

-- ---- the refusals, one after the other

pub refused_short : (bytes : List ℕ) → length bytes < 8 → IsRefusal errors.Truncated bytes
unfolding IsRefusal
refused_short bytes short = inl (short, refl)

pub refused_version : (bytes : List ℕ) → 8 ≤ length bytes → slice_index bytes 0 / 16 ≢ 3 → IsRefusal errors.Version bytes
unfolding IsRefusal
refused_version bytes long other = inr (λ short. omega arith, inl (other, refl))

pub refused_kind : (bytes : List ℕ) → 8 ≤ length bytes → slice_index bytes 0 / 16 ≡ 3
    → ((kind : Kind) → slice_index bytes 1 ≢ kind_code kind) → IsRefusal errors.Kind bytes
unfolding IsRefusal
refused_kind bytes long version none = inr (λ short. omega arith, inr (λ other. other version, inl (none, refl)))

-- the first octets have passed
pub record Opens (bytes : List ℕ) (kind : Kind) : Type 0 where
  pub long : 8 ≤ length bytes
  pub version : slice_index bytes 0 / 16 ≡ 3
  pub code : slice_index bytes 1 ≡ kind_code kind

pub refused_truncated : (bytes : List ℕ) (kind : Kind) → Opens bytes kind → length bytes < 8 + length_of bytes
    → IsRefusal errors.Truncated bytes
unfolding IsRefusal
refused_truncated bytes kind o few =
    inr (λ short. omega (arith, o.long), inr (λ other. other o.version, inr (λ none. none kind o.code, inl (few, refl))))

pub refused_longer : (bytes : List ℕ) (kind : Kind) → Opens bytes kind → 8 + length_of bytes < length bytes → IsRefusal errors.Length bytes
unfolding IsRefusal
refused_longer bytes kind o more =
    inr (λ short. omega (arith, o.long), inr (λ other. other o.version, inr (λ none. none kind o.code, inr (λ few. omega arith, inl (inl more, refl)))))

pub refused_flagged : (bytes : List ℕ) (kind : Kind) → Opens bytes kind → length bytes ≡ 8 + length_of bytes
    → has_flag (slice_index bytes 0) ≡ true → length_of bytes < 4 → IsRefusal errors.Length bytes
unfolding IsRefusal
refused_flagged bytes kind o whole flag few =
    inr (λ short. omega (arith, o.long), inr (λ other. other o.version, inr (λ none. none kind o.code, inr (λ less. omega arith, inl (inr (flag, few), refl)))))

pub refused_headers : (bytes : List ℕ) (kind : Kind) (e : GtpuError) → Opens bytes kind → length bytes ≡ 8 + length_of bytes
    → 4 ≤ length_of bytes → IsFirst (header_refusals (first_of bytes) (drop 12 bytes)) e → IsRefusal e bytes
unfolding IsRefusal
refused_headers bytes kind e o whole room h =
    let fits : ¬ ((8 + length_of bytes < length bytes) ⊎ ((has_flag (slice_index bytes 0) ≡ true) × (length_of bytes < 4))) =
    λ x. elim x [ inl more ↦ omega (arith, more) | inr few ↦ omega (arith, few.1) ] in
    inr (λ short. omega (arith, o.long), inr (λ other. other o.version, inr (λ none. none kind o.code, inr (λ less. omega arith, inr (fits, h)))))

-- ---- parts of the octets, as code takes them

abbrev pub past : ℕ → List ℕ → List ℕ
past n xs = slice_range xs n (length xs)

pub past_is : (n : ℕ) (xs : List ℕ) → past n xs ≡ drop n xs
past_is n xs = between_to_end xs n (length xs) (omega arith)

pub past_twice : (bytes : List ℕ) → past 4 (past 8 bytes) ≡ drop 12 bytes
past_twice bytes = past_is 4 (past 8 bytes) ∙ ap (drop 4) (past_is 8 bytes) ∙ drop-drop 4 8 bytes

pub past_at : (bytes : List ℕ) (i : ℕ) → slice_index (past 8 bytes) i ≡ slice_index bytes (8 + i)
past_at bytes i = ap (λ (xs : List ℕ). slice_index xs i) (past_is 8 bytes) ∙ get_or-drop 8 bytes i 0

pub first_read : (bytes : List ℕ) → bit_and (slice_index bytes 0) 4 ≢ 0 → slice_index (past 8 bytes) 3 ≡ first_of bytes
first_read bytes set =
    let flag : e_flag (slice_index bytes 0) ≡ true = sym (e_test (slice_index bytes 0))
    ∙ ap not (ne_eqb (bit_and (slice_index bytes 0) 4) 0 set) in
    past_at bytes 3 ∙ sym (ap (λ (b : Bool). if b then slice_index bytes 11 else 0) flag)

pub first_none : (bytes : List ℕ) → bit_and (slice_index bytes 0) 4 ≡ 0 → 0 ≡ first_of bytes
first_none bytes unset =
    let flag : e_flag (slice_index bytes 0) ≡ false = sym (e_test (slice_index bytes 0))
    ∙ ap not (eq-eqb (bit_and (slice_index bytes 0) 4) 0 unset) in
    sym (ap (λ (b : Bool). if b then slice_index bytes 11 else 0) flag)

pub seq_read : (bytes : List ℕ) (n : ℕ) (seq : Option ℕ)
    → n ≡ from_be_bytes w16 (slice_index (past 8 bytes) 0 ∷ slice_index (past 8 bytes) 1 ∷ [])
    → seq ≡ then_some (not (bit_and (slice_index bytes 0) 2 == 0)) n
    → seq ≡ then_some (s_flag (slice_index bytes 0)) (from_be_bytes w16 (slice_index bytes 8 ∷ slice_index bytes 9 ∷ []))
seq_read bytes n seq number given =
    let at : n ≡ from_be_bytes w16 (slice_index bytes 8 ∷ slice_index bytes 9 ∷ []) = number
    ∙ (λ i. from_be_bytes w16 (past_at bytes 0 i ∷ past_at bytes 1 i ∷ [])) in
    given ∙ (λ i. then_some (s_test (slice_index bytes 0) i) (at i))

pub npdu_read : (bytes : List ℕ) (npdu : Option ℕ)
    → npdu ≡ then_some (not (bit_and (slice_index bytes 0) 1 == 0)) (slice_index (past 8 bytes) 2)
    → npdu ≡ then_some (pn_flag (slice_index bytes 0)) (slice_index bytes 10)
npdu_read bytes npdu given = given ∙ (λ i. then_some (pn_test (slice_index bytes 0) i) (past_at bytes 2 i))

-- ---- the octets of a packet, by their places

pub packet_at : (p : GtpuPacket) (bytes : List ℕ) → 8 ≤ length bytes
    → IsPacket p (slice_index bytes 0) (slice_index bytes 1) (from_be_bytes w16 (slice_index bytes 2 ∷ slice_index bytes 3 ∷ [])) (from_be_bytes w32 (slice_index bytes 4 ∷ slice_index bytes 5 ∷ slice_index bytes 6 ∷ slice_index bytes 7 ∷ [])) (drop 8 bytes)
    → Gtpu p bytes
unfolding Gtpu
packet_at p (a ∷ b ∷ c ∷ d ∷ e ∷ f ∷ g ∷ h ∷ body) long is = is
packet_at p _ long is = absurd (omega arith)

flagged_at : (p : GtpuPacket) (flags : ℕ) (body : List ℕ) → 4 ≤ length body
    → IsFlagged p flags (slice_index body 0) (slice_index body 1) (slice_index body 2) (slice_index body 3) (drop 4 body)
    → IsBody p flags true body
flagged_at p flags (a ∷ b ∷ c ∷ d ∷ rest) long is = is
flagged_at p flags _ long is = absurd (omega arith)

pub found_plain : (bytes body : List ℕ) (kind : Kind) → body ≡ drop 8 bytes → Opens bytes kind → length bytes ≡ 8 + length_of bytes
    → has_flag (slice_index bytes 0) ≡ false
    → Gtpu (record {
      kind = kind;
      teid = from_be_bytes w32 (slice_index bytes 4 ∷ slice_index bytes 5 ∷ slice_index bytes 6 ∷ slice_index bytes 7 ∷ []);
      seq = None;
      npdu = None;
      first = 0;
      chain = [];
      payload = body;
    }) bytes
found_plain bytes body kind is o whole none =
    let p : GtpuPacket = record { kind = kind; teid = from_be_bytes w32 (slice_index bytes 4 ∷ slice_index bytes 5 ∷ slice_index bytes 6 ∷ slice_index bytes 7 ∷ []); seq = None; npdu = None; first = 0; chain = []; payload = body } in
    packet_at p bytes o.long (record {
      version = o.version;
      kind = o.code;
      length_is = omega (arith, o.long, length-drop 8 bytes);
      teid_is = refl;
      body_is = subst (λ (b : Bool). IsBody p (slice_index bytes 0) b (drop 8 bytes)) (sym none) (record { seq = refl; npdu = refl; first = refl; chain = refl; payload = sym is });
    })

pub found_flagged : (bytes : List ℕ) (p : GtpuPacket) → Opens bytes p.kind
    → p.teid ≡ from_be_bytes w32 (slice_index bytes 4 ∷ slice_index bytes 5 ∷ slice_index bytes 6 ∷ slice_index bytes 7 ∷ [])
    → length bytes ≡ 8 + length_of bytes → has_flag (slice_index bytes 0) ≡ true → 4 ≤ length_of bytes
    → p.seq ≡ then_some (s_flag (slice_index bytes 0)) (from_be_bytes w16 (slice_index bytes 8 ∷ slice_index bytes 9 ∷ []))
    → p.npdu ≡ then_some (pn_flag (slice_index bytes 0)) (slice_index bytes 10)
    → p.first ≡ first_of bytes → IsChain p.first p.chain → drop 12 bytes ≡ p.chain ++ p.payload
    → Gtpu p bytes
found_flagged bytes p o teid whole some room seq npdu first chain parts =
    let flags = slice_index bytes 0 in
    let body = drop 8 bytes in
    let at : (i : ℕ) → slice_index bytes (8 + i) ≡ slice_index body i = λ i. sym (get_or-drop 8 bytes i 0) in
    packet_at p bytes o.long (record {
      version = o.version;
      kind = o.code;
      length_is = omega (arith, o.long, length-drop 8 bytes);
      teid_is = teid;
      body_is = subst (λ (b : Bool). IsBody p flags b body) (sym some) (flagged_at p flags body (omega (arith, o.long, length-drop 8 bytes)) (record {
        seq = seq ∙ (λ i. then_some (s_flag flags) (from_be_bytes w16 (at 0 i ∷ at 1 i ∷ [])));
        npdu = npdu ∙ ap (then_some (pn_flag flags)) (at 2);
        first = first ∙ ap (λ (n : ℕ). if e_flag flags then n else 0) (at 3);
        chain = chain;
        parts = drop-drop 4 8 bytes ∙ parts;
      }));
    })
