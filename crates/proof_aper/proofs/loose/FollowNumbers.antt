-- The fields of numbers answer what is asked for them, in the root of a range or outside it.
use Rattle.std.proofs.Common.{◌≡◌, ℕ, ◌+◌, ◌-◌, ◌≤◌, Bool, true, false, cond, ◌==◌, nat_lt, List, [], ◌∷◌, ◌++◌, None, refl, sym, ap, arith}
use Rattle.std.specs.Prelude.{ℤ, pos, ◌+ℤ◌, nat_le}
use Rattle.std.proofs.lemmas.Bool.Decides.{nat_tests}
use Rattle.aper_defs.specs.Numbers.{bits_for, octets_for, signed_octets_for, twos_complement, signed_number, is_signed, above}
use Rattle.aper_defs.specs.Fields.{Path, Role, Ask, Field, flag, constrained, digits, signed, small, extent, pad, whole, asked}
use Rattle.aper_defs.specs.Fields as fields
use Rattle.aper_defs.specs.Parts.{large_fields, number_fields, extension_fields, index_fields}
use Rattle.aper_defs.specs.Membership.{is_index_of}
use Rattle.aper_defs.specs.Questions.{Prog, ask, ask_aligned, ask_large, ask_number, ask_extension, ask_integer, ask_integer_by, ask_index, ask_index_by}
use Rattle.aper_defs.specs.Reading.{Cursor}
use Rattle.proof_aper.proofs.answers.NumberFacts.{by_cases, below, not_below, same, octets_positive, above_again, above_at_most, in_range_low, signed_again, signed_part_fits, signed_octets_positive}
use Rattle.proof_aper.proofs.answers.ForthStrings.{past_size}
use Rattle.aper_defs.specs.loose_defs.Forms.{integer_form, HasIntegerForm}
use Rattle.aper_defs.specs.loose_defs.Wrong.{place_after}
use Rattle.proof_aper.proofs.loose.Following.{Follow, both, nothing, asked_so, asks_on, one, then_on, by_test}

-- a question after a pad
pub aligned : (p : Path) (question : Ask) (n : ℕ) (K : ℕ → Prog) (c : Cursor)
    → Follow (asked p pad 0 ∷ asked p question n ∷ []) (ask_aligned p question K) (K n) c
aligned p question n K c = then_on p pad 0 _ (λ z. ask p question K) _ c (one p question n K _)

-- and what comes after both
pub aligned_on : (p : Path) (question : Ask) (n : ℕ) (fs : List Field) (K : ℕ → Prog) (Q : Prog) (c : Cursor)
    → Follow fs (K n) Q (place_after (asked p pad 0 ∷ asked p question n ∷ []) c)
    → Follow (asked p pad 0 ∷ asked p question n ∷ fs) (ask_aligned p question K) Q c
aligned_on p question n fs K Q c leads = then_on p pad 0 _ (λ z. ask p question K) Q c (then_on p question n fs K Q _ leads)

large : (p : Path) (span n : ℕ) (K : ℕ → Prog) (c : Cursor) → Follow (large_fields p span n) (ask_large p span K) (K n) c
large p span n K c =
    let most = octets_for span - 1 in
    let again : octets_for n - 1 + 1 ≡ octets_for n = omega (arith, octets_positive n) in
    then_on p (constrained fields.value (bits_for most) most) (octets_for n - 1) _ (λ k. ask_aligned p (digits (k + 1) span) K) (K n) c
    (asked_so _ _ _ _ _ (ap (λ (k : ℕ). ask_aligned p (digits k span) K) again) (aligned p (digits (octets_for n) span) n K _))

pub follow_number : (p : Path) (role : Role) (span n : ℕ) (K : ℕ → Prog) (c : Cursor) → n ≤ span
    → Follow (number_fields p role span n) (ask_number p role span K) (K n) c
unfolding number_fields ask_number
follow_number p role span n K c h =
    by_cases (span == 0) (λ b. Follow (cond b []
    (cond (nat_lt span 255) (asked p (constrained role (bits_for span) span) n ∷ [])
    (cond (span == 255) (asked p pad 0 ∷ asked p (constrained role 8 span) n ∷ [])
    (cond (nat_lt span 65536) (asked p pad 0 ∷ asked p (constrained role 16 span) n ∷ []) (large_fields p span n)))))
    (cond b (K 0) (cond (nat_lt span 255) (ask p (constrained role (bits_for span) span) K)
    (cond (span == 255) (ask_aligned p (constrained role 8 span) K)
    (cond (nat_lt span 65536) (ask_aligned p (constrained role 16 span) K) (ask_large p span K))))) (K n) c)
    (λ none. nothing (K 0) (K n) c (let e : 0 ≡ n = omega (arith, same span 0 none) in ap K e))
    (λ some. by_test (nat_lt span 255) _ _ _ _ (K n) c (one p (constrained role (bits_for span) span) n K c)
    (by_test (span == 255) _ _ _ _ (K n) c (aligned p (constrained role 8 span) n K c)
    (by_test (nat_lt span 65536) _ _ _ _ (K n) c (aligned p (constrained role 16 span) n K c) (large p span n K c))))

-- an extension bit
pub follow_extension : (p : Path) (extensible extended : Bool) (K : Bool → Prog) (c : Cursor) → (extensible ≡ false → extended ≡ false)
    → Follow (extension_fields p extensible extended) (ask_extension p extensible K) (K extended) c
follow_extension p true true K c h = one p flag 1 (λ b. K (b == 1)) c
follow_extension p true false K c h = one p flag 0 (λ b. K (b == 1)) c
follow_extension p false extended K c h = nothing (K false) (K extended) c (ap K (sym (h refl)))

-- ---- INTEGER
integer_octets : (p : Path) (low high z : ℤ) (K : ℤ → Prog) (c : Cursor) → is_signed z ≡ true
    → Follow (asked p pad 0 ∷ asked p (extent (whole 1 8 None)) (signed_octets_for z) ∷ asked p (signed (signed_octets_for z) low high)
    (twos_complement (signed_octets_for z) z) ∷ [])
    (ask_integer_by p low high K true) (K z) c
integer_octets p low high z K c h =
    let count = signed_octets_for z in
    aligned_on p (extent (whole 1 8 None)) count _ (λ k. ask p (signed k low high) (λ n. K (signed_number k n))) (K z) c
    (asks_on _ _ _ _ _ (one p (signed count low high) (twos_complement count z) (λ n. K (signed_number count n)) _)
    (ap K (signed_again count z (signed_octets_positive z) (signed_part_fits z h))))

pub follow_integer : (p : Path) (low high : ℤ) (extensible outside : Bool) (z : ℤ) (K : ℤ → Prog) (c : Cursor)
    → HasIntegerForm low high extensible outside z
    → Follow (integer_form p low high extensible outside z) (ask_integer p low high extensible K) (K z) c
unfolding ask_integer
follow_integer p low high extensible true z K c h =
    both (extension_fields p extensible true) _ _ _ (K z) c
    (follow_extension p extensible true (ask_integer_by p low high K) c (λ e. cc (h.0, e)))
    (integer_octets p low high z K _ h.1)
follow_integer p low high extensible false z K c h =
    both (extension_fields p extensible false) (number_fields p fields.value (above low high) (above low z)) _ _ (K z) c
    (follow_extension p extensible false (ask_integer_by p low high K) c (λ e. refl))
    (asks_on _ _ _ _ _ (follow_number p fields.value (above low high) (above low z) (λ n. K (low +ℤ pos n)) _
    (above_at_most low high z h))
    (ap K (above_again low z (in_range_low low high z h))))

-- ---- an index
pub follow_index : (p : Path) (count : ℕ) (extensible : Bool) (i : ℕ) (K : ℕ → Prog) (c : Cursor) → is_index_of count extensible i ≡ true
    → Follow (index_fields p count extensible i) (ask_index p count extensible K) (K i) c
unfolding index_fields ask_index
follow_index p count extensible i K c h =
    by_cases (nat_lt i count) (λ b. Follow (extension_fields p extensible (nat_le count i) ++ cond b
    (number_fields p fields.index (count - 1) i) (asked p (small fields.index) (i - count) ∷ []))
    (ask_extension p extensible (ask_index_by p count K)) (K i) c)
    (λ root. let inside : nat_le count i ≡ false = grind (arith, nat_tests) in
    both (extension_fields p extensible (nat_le count i)) (number_fields p fields.index (count - 1) i) _
    (ask_number p fields.index (count - 1) K) (K i) c
    (asks_on _ _ _ _ _ (follow_extension p extensible (nat_le count i) (ask_index_by p count K) c (λ e. inside))
    (ap (ask_index_by p count K) inside))
    (follow_number p fields.index (count - 1) i K _ (omega (arith, below i count root))))
    (λ out. let outside : nat_le count i ≡ true = grind (arith, nat_tests) in
    let again : count + (i - count) ≡ i = omega (arith, not_below i count out) in
    both (extension_fields p extensible (nat_le count i)) (asked p (small fields.index) (i - count) ∷ []) _
    (ask p (small fields.index) (λ n. K (count + n))) (K i) c
    (asks_on _ _ _ _ _ (follow_extension p extensible (nat_le count i) (ask_index_by p count K) c
    (λ e. cc (past_size (nat_lt i count) extensible (nat_lt i (count + 64)) h out, e))) (ap (ask_index_by p count K) outside))
    (asks_on (asked p (small fields.index) (i - count) ∷ []) _ _ _ _ (one p (small fields.index) (i - count) (λ n. K (count + n)) _)
    (ap K again)))
