-- What answers the questions of a number, a string or a count is a loose layout of one.
use Rattle.std.proofs.Common.{◌≡◌, ℕ, ◌+◌, ◌-◌, ◌*◌, ◌^◌, ◌<◌, ◌≤◌, ◌==◌, nat_lt, ◌&&◌, ◌||◌, Bool, true, false, List, [], ◌∷◌, ◌++◌, None, refl, sym, ap, ◌∙◌, arith}
use Rattle.std.specs.Prelude.{ℤ, pos, ◌+ℤ◌, nat_le}
use Rattle.std.specs.Int.Signed.{le_z}
use Rattle.std.proofs.Math.Nat.{pow-le-pow_right}
use Rattle.std.proofs.lemmas.Bool.Decides.{nat_tests}
use Rattle.aper_defs.specs.Values.{Value}
use Rattle.aper_defs.specs.Numbers.{bits_for, octets_for, unsigned_part, signed_octets_for, twos_complement, signed_number, is_signed, above}
use Rattle.aper_defs.specs.Fields.{Path, Role, Ask, Field, flag, constrained, digits, signed, small, extent, character, pad, whole, part, bit, octet, asked, run as run_field}
use Rattle.aper_defs.specs.Fields as fields
use Rattle.aper_defs.specs.Parts.{large_fields, number_fields, extension_fields, index_fields}
use Rattle.aper_defs.specs.Membership.{is_index_of}
use Rattle.aper_defs.specs.Questions.{Prog, done, ask, ask_aligned, ask_large, ask_number, ask_extension, ask_integer, ask_integer_by, ask_index, ask_index_by}
use Rattle.proof_aper.proofs.answers.NumberFacts.{is_below, is_not_below, is_at_most, octets_at_most}
use Rattle.proof_aper.proofs.values.FoundNumbers.{IsDigits, octets_few, octets_unique}
use Rattle.proof_aper.proofs.values.FoundIndices.{half, IsOctets, octets_again, extensible_is, in_its_range, index_fields_are}
use Rattle.proof_aper.proofs.values.FoundElements.{bit_again}
use Rattle.aper_defs.specs.loose_defs.Forms.{integer_form, HasIntegerForm}
use Rattle.proof_aper.proofs.alive.Allowed.{Allowed, IsSigned}
use Rattle.proof_aper.proofs.alive.Steps.{Steps, Parted, parted_none, parted_as, parted_then, parted_by, joined_is, parted_ask, parted_aligned}

-- ---- numbers
-- one question, of which something is known
back_one : (N : ℕ → Type 0) (p : Path) (question : Ask) (K : ℕ → Prog) (fs : List Field) (w : Value)
    → ((n : ℕ) → Allowed question n → N n)
    → Steps fs (ask p question K) (done w) → Parted (λ n gs. N n × (gs ≡ asked p question n ∷ [])) K fs w
back_one N p question K fs w so s =
    parted_as (λ n gs. Allowed question n × (gs ≡ asked p question n ∷ [])) (λ n gs. N n × (gs ≡ asked p question n ∷ [])) K K fs w
    (λ n. n) (λ n gs h. (so n h.0, h.1)) (λ n gs h. refl) (parted_ask p question K fs w s)

back_padded : (N : ℕ → Type 0) (p : Path) (question : Ask) (K : ℕ → Prog) (fs : List Field) (w : Value)
    → ((n : ℕ) → Allowed question n → N n)
    → Steps fs (ask_aligned p question K) (done w) → Parted (λ n gs. N n × (gs ≡ asked p pad 0 ∷ asked p question n ∷ [])) K fs w
back_padded N p question K fs w so s =
    parted_as (λ n gs. Allowed question n × (gs ≡ asked p pad 0 ∷ asked p question n ∷ []))
    (λ n gs. N n × (gs ≡ asked p pad 0 ∷ asked p question n ∷ [])) K K fs w
    (λ n. n) (λ n gs h. (so n h.0, h.1)) (λ n gs h. refl) (parted_aligned p question K fs w s)

back_large : (p : Path) (span : ℕ) (K : ℕ → Prog) (fs : List Field) (w : Value) → Steps fs (ask_large p span K) (done w)
    → Parted (λ n gs. (n ≤ span) × (gs ≡ large_fields p span n)) K fs w
back_large p span K fs w s =
    let most = octets_for span - 1 in
    let count : Ask = constrained fields.value (bits_for most) most in
    let Q = λ (n : ℕ) (gs : List Field). (n ≤ span) × (gs ≡ large_fields p span n) in
    parted_then (λ k gs. (k ≤ most) × (gs ≡ asked p count k ∷ [])) Q (λ k. ask_aligned p (digits (k + 1) span) K) K fs w
    (parted_ask p count (λ k. ask_aligned p (digits (k + 1) span) K) fs w s)
    (λ k front gs h s2. parted_as (λ n hs. IsDigits (k + 1) span n × (hs ≡ asked p pad 0 ∷ asked p (digits (k + 1) span) n ∷ []))
    (λ n hs. Q n (front ++ hs)) K K gs w (λ n. n)
    (λ n hs g. (g.0.most-is, joined_is front hs _ _ h.1 g.1 ∙ sym (same k n h.0 g.0)))
    (λ n hs g. refl) (parted_aligned p (digits (k + 1) span) K gs w s2))
  where
    same : (k n : ℕ) → k ≤ octets_for span - 1 → IsDigits (k + 1) span n
        → large_fields p span n ≡ asked p (constrained fields.value (bits_for (octets_for span - 1)) (octets_for span - 1)) k
        ∷ asked p pad 0 ∷ asked p (digits (k + 1) span) n ∷ []
    same k n low is =
        let count : Ask = constrained fields.value (bits_for (octets_for span - 1)) (octets_for span - 1) in
        let size : octets_for n ≡ k + 1 =
        octets_unique n (k + 1) (omega arith) (omega (arith, low, octets_at_most span)) is.fits is.least in
        let less : octets_for n - 1 ≡ k = omega (arith, size) in
        ap (λ (j : ℕ). asked p count j ∷ asked p pad 0 ∷ asked p (digits (octets_for n) span) n ∷ []) less
        ∙ ap (λ (j : ℕ). asked p count k ∷ asked p pad 0 ∷ asked p (digits j span) n ∷ []) size

pub back_number : (p : Path) (role : Role) (span : ℕ) (K : ℕ → Prog) (fs : List Field) (w : Value)
    → Steps fs (ask_number p role span K) (done w)
    → Parted (λ n gs. (n ≤ span) × (gs ≡ number_fields p role span n)) K fs w
unfolding ask_number number_fields
back_number p role span K fs w =
    let N = λ (n : ℕ). n ≤ span in
    parted_by N (span == 0) _ _ _ _ K fs w (λ s. parted_none (λ n gs. N n × (gs ≡ [])) K fs w 0 (omega arith, refl) s)
    (parted_by N (nat_lt span 255) _ _ _ _ K fs w (back_one N p (constrained role (bits_for span) span) K fs w (λ n a. a))
    (parted_by N (span == 255) _ _ _ _ K fs w (back_padded N p (constrained role 8 span) K fs w (λ n a. a))
    (parted_by N (nat_lt span 65536) _ _ _ _ K fs w (back_padded N p (constrained role 16 span) K fs w (λ n a. a))
    (back_large p span K fs w))))

pub back_extension : (p : Path) (extensible : Bool) (K : Bool → Prog) (fs : List Field) (w : Value)
    → Steps fs (ask_extension p extensible K) (done w)
    → Parted (λ b gs. (extensible ≡ false → b ≡ false) × (gs ≡ extension_fields p extensible b)) K fs w
back_extension p false K fs w s =
    parted_none (λ b gs. (false ≡ false → b ≡ false) × (gs ≡ extension_fields p false b)) K fs w false (λ h. refl, refl) s
back_extension p true K fs w s =
    parted_as (λ n gs. (n < 2) × (gs ≡ asked p flag n ∷ [])) (λ b gs. (true ≡ false → b ≡ false) × (gs ≡ extension_fields p true b))
    (λ b. K (b == 1)) K fs w (λ n. n == 1)
    (λ n gs h. (λ g. cc, h.1 ∙ ap (λ (m : ℕ). asked p flag m ∷ []) (bit_again n h.0))) (λ n gs h. refl) (parted_ask p flag (λ b. K (b == 1)) fs w s)

-- ---- INTEGER
record IsSpelledOut (count n : ℕ) (z : ℤ) : Type 0 where
  pub size : signed_octets_for z ≡ count
  pub back : twos_complement count z ≡ n
  pub signed_so : is_signed z ≡ true

spelled_out : (count n : ℕ) → 1 ≤ count → count ≤ 8 → IsSigned count n → IsSpelledOut count n (signed_number count n)
spelled_out count n some low is =
    let z = signed_number count n in
    let o : IsOctets count n z = octets_again count n some is.fits in
    let u = unsigned_part z in
    let fitting : 8 * count - 1 ≤ 63 = omega arith in
    let up : 2 ^ (8 * count - 1) ≤ 2 ^ 63 = pow-le-pow_right {n = 2} (omega arith) fitting in
    let most : signed_octets_for z ≤ count = octets_few (2 * u) count some low (omega (arith, half count some, o.small_part)) in record {
      size = omega (arith, is.least, most);
      back = o.back;
      signed_so = is_below u (2 ^ 63) (omega (arith, o.small_part, up));
    }

octet_fields : Path → ℤ → ℤ → ℕ → ℕ → List Field
octet_fields p low high count n = asked p pad 0 ∷ asked p (extent (whole 1 8 None)) count ∷ asked p (signed count low high) n ∷ []

back_outside : (p : Path) (low high : ℤ) (K : ℤ → Prog) (fs : List Field) (w : Value)
    → Steps fs (ask_integer_by p low high K true) (done w)
    → Parted (λ z gs. (is_signed z ≡ true) × (gs ≡ octet_fields p low high (signed_octets_for z) (twos_complement (signed_octets_for z) z)))
    K fs w
unfolding octet_fields
back_outside p low high K fs w s =
    let Q = λ (z : ℤ) (gs : List Field). (is_signed z ≡ true)
    × (gs ≡ octet_fields p low high (signed_octets_for z) (twos_complement (signed_octets_for z) z)) in
    let question : Ask = extent (whole 1 8 None) in
    let K1 = λ (count : ℕ). ask p (signed count low high) (λ n. K (signed_number count n)) in
    parted_then (λ count gs. ((1 ≤ count) × (count ≤ 8)) × (gs ≡ asked p pad 0 ∷ asked p question count ∷ [])) Q K1 K fs w
    (parted_aligned p question K1 fs w s)
    (λ count front gs h s2. parted_as (λ n hs. IsSigned count n × (hs ≡ asked p (signed count low high) n ∷ []))
    (λ z hs. Q z (front ++ hs)) (λ n. K (signed_number count n)) K gs w (λ n. signed_number count n)
    (λ n hs g. let o = spelled_out count n h.0.0 h.0.1 g.0 in (
      o.signed_so,
      joined_is front hs (asked p pad 0 ∷ asked p question count ∷ []) (asked p (signed count low high) n ∷ []) h.1 g.1
          ∙ sym (ap (λ (k : ℕ). octet_fields p low high k (twos_complement k (signed_number count n))) o.size
          ∙ ap (λ (m : ℕ). octet_fields p low high count m) o.back),
    ))
    (λ n hs g. refl) (parted_ask p (signed count low high) (λ n. K (signed_number count n)) gs w s2))

-- an INTEGER in a form
abbrev pub IsLooseInteger : Path → ℤ → ℤ → Bool → ℤ → List Field → Type 0
IsLooseInteger p low high extensible z gs = (outside : Bool) × HasIntegerForm low high extensible outside z
    × (gs ≡ integer_form p low high extensible outside z)

pub back_integer : (p : Path) (low high : ℤ) (extensible : Bool) (K : ℤ → Prog) (fs : List Field) (w : Value) → le_z low high ≡ true
    → Steps fs (ask_integer p low high extensible K) (done w)
    → Parted (IsLooseInteger p low high extensible) K fs w
unfolding ask_integer octet_fields
back_integer p low high extensible K fs w ordered s =
    parted_then (λ b gs. (extensible ≡ false → b ≡ false) × (gs ≡ extension_fields p extensible b)) (IsLooseInteger p low high extensible)
    (ask_integer_by p low high K) K fs w (back_extension p extensible (ask_integer_by p low high K) fs w s) by
  where
    by : (b : Bool) (front gs : List Field) → (extensible ≡ false → b ≡ false) × (front ≡ extension_fields p extensible b)
        → Steps gs (ask_integer_by p low high K b) (done w)
        → Parted (λ z hs. IsLooseInteger p low high extensible z (front ++ hs)) K gs w
    by false front gs h s2 =
        let span = above low high in
        let N = λ (n : ℕ) (hs : List Field). (n ≤ span) × (hs ≡ number_fields p fields.value span n) in
        parted_as N (λ z hs. IsLooseInteger p low high extensible z (front ++ hs)) (λ n. K (low +ℤ pos n)) K gs w
        (λ n. low +ℤ pos n)
        (λ n hs g. let r = in_its_range low high n ordered g.0 in (
          false,
          r.0,
          joined_is front hs (extension_fields p extensible false) (number_fields p fields.value span n) h.1 g.1
              ∙ ap (λ (m : ℕ). extension_fields p extensible false ++ number_fields p fields.value span m) (sym r.1),
        ))
        (λ n hs g. refl) (back_number p fields.value span (λ n. K (low +ℤ pos n)) gs w s2)
    by true front gs h s2 =
        let O = λ (z : ℤ) (hs : List Field). (is_signed z ≡ true)
        × (hs ≡ octet_fields p low high (signed_octets_for z) (twos_complement (signed_octets_for z) z)) in
        parted_as O (λ z hs. IsLooseInteger p low high extensible z (front ++ hs)) K K gs w (λ z. z)
        (λ z hs g. (
          true,
          (extensible_is extensible h.0, g.0),
          joined_is front hs (extension_fields p extensible true)
              (octet_fields p low high (signed_octets_for z) (twos_complement (signed_octets_for z) z)) h.1 g.1,
        ))
        (λ z hs g. refl) (back_outside p low high K gs w s2)

-- ---- an index
pub back_index : (p : Path) (count : ℕ) (extensible : Bool) (K : ℕ → Prog) (fs : List Field) (w : Value) → 1 ≤ count
    → Steps fs (ask_index p count extensible K) (done w)
    → Parted (λ i gs. (is_index_of count extensible i ≡ true) × (gs ≡ index_fields p count extensible i)) K fs w
unfolding ask_index
back_index p count extensible K fs w some s =
    parted_then (λ b gs. (extensible ≡ false → b ≡ false) × (gs ≡ extension_fields p extensible b))
    (λ i gs. (is_index_of count extensible i ≡ true) × (gs ≡ index_fields p count extensible i))
    (ask_index_by p count K) K fs w (back_extension p extensible (ask_index_by p count K) fs w s) by
  where
    by : (b : Bool) (front gs : List Field) → (extensible ≡ false → b ≡ false) × (front ≡ extension_fields p extensible b)
        → Steps gs (ask_index_by p count K b) (done w)
        → Parted (λ i hs. (is_index_of count extensible i ≡ true) × (front ++ hs ≡ index_fields p count extensible i)) K gs w
    by false front gs h s2 =
        parted_as (λ n hs. (n ≤ count - 1) × (hs ≡ number_fields p fields.index (count - 1) n))
        (λ i hs. (is_index_of count extensible i ≡ true) × (front ++ hs ≡ index_fields p count extensible i)) K K gs w (λ n. n)
        (λ n hs g. let low : n ≤ count - 1 = g.0 in (
          ap (λ b. b || (extensible && nat_lt n (count + 64))) (is_below n count (omega (arith, low, some))),
          joined_is front hs (extension_fields p extensible false) (number_fields p fields.index (count - 1) n) h.1 g.1
              ∙ index_fields_are p count extensible n false true (root n low) (is_below n count (omega (arith, low, some))),
        ))
        (λ n hs g. refl) (back_number p fields.index (count - 1) K gs w s2)
      where
        root : (n : ℕ) → n ≤ count - 1 → nat_le count n ≡ false
        root n low = let inside : n < count = omega (arith, low, some) in grind (arith, nat_tests)
    by true front gs h s2 =
        parted_as (λ n hs. (n < 64) × (hs ≡ asked p (small fields.index) n ∷ []))
        (λ i hs. (is_index_of count extensible i ≡ true) × (front ++ hs ≡ index_fields p count extensible i)) (λ n. K (count + n)) K gs w
        (λ n. count + n)
        (λ n hs g. let low : n < 64 = g.0 in (
          ap (λ b. b || (extensible && nat_lt (count + n) (count + 64))) (is_not_below (count + n) count (omega arith))
              ∙ ap (λ b. b && nat_lt (count + n) (count + 64)) (extensible_is extensible h.0)
              ∙ is_below (count + n) (count + 64) (omega (arith, low)),
          joined_is front hs (extension_fields p extensible true) (asked p (small fields.index) n ∷ []) h.1 g.1
              ∙ ap (λ (m : ℕ). extension_fields p extensible true ++ asked p (small fields.index) m ∷ [])
              (let u : n ≡ count + n - count = omega arith in u)
              ∙ index_fields_are p count extensible (count + n) true false (is_at_most count (count + n) (omega arith))
              (is_not_below (count + n) count (omega arith)),
        ))
        (λ n hs g. refl) (parted_ask p (small fields.index) (λ n. K (count + n)) gs w s2)
