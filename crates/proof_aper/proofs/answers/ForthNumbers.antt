-- The fields of numbers answer what is asked for them.
use Rattle.std.proofs.Common.{◌≡◌, ℕ, ◌+◌, ◌-◌, ◌≤◌, Bool, true, false, cond, ◌&&◌, ◌||◌, ◌==◌, nat_lt, [], ◌∷◌, ◌++◌, None, refl, sym, ap, ◌∙◌, arith}
use Rattle.std.specs.Prelude.{ℤ, pos, ◌+ℤ◌, nat_le}
use Rattle.std.proofs.lemmas.Bool.Decides.{nat_tests}
use Rattle.aper_defs.specs.Numbers.{bits_for, octets_for, signed_octets_for, twos_complement, signed_number, is_signed, in_range, above}
use Rattle.aper_defs.specs.Fields.{Path, Role, Ask, Field, flag, constrained, digits, signed, small, extent, pad, whole, asked}
use Rattle.aper_defs.specs.Fields as fields
use Rattle.aper_defs.specs.Parts.{large_fields, number_fields, extension_fields, integer_fields, index_fields}
use Rattle.aper_defs.specs.Membership.{is_number_of, is_index_of}
use Rattle.aper_defs.specs.Questions.{Prog, ask, ask_aligned, ask_large, ask_number, ask_extension, ask_integer, ask_integer_by, ask_index, ask_index_by}
use Rattle.aper_defs.specs.Reading.{Cursor, run, answered_at}
use Rattle.proof_aper.proofs.answers.Standing.{Leads, answered, both, nothing, asks_on, one, by_test}
use Rattle.proof_aper.proofs.answers.NumberFacts.{by_cases, below, not_below, same, octets_positive, above_again, above_at_most, in_range_low, signed_again, signed_part_fits, signed_octets_positive}

-- a question after a pad
pub aligned : (p : Path) (question : Ask) (n : ℕ) (K : ℕ → Prog) (c : Cursor)
    → Leads (asked p pad 0 ∷ asked p question n ∷ []) (ask_aligned p question K) (K n) c
aligned p question n K c s = answered p pad (λ z. ask p question K) c 0 s.0 ∙ answered p question K (answered_at pad 0 c) n s.1.0

large : (p : Path) (span n : ℕ) (K : ℕ → Prog) (c : Cursor) → Leads (large_fields p span n) (ask_large p span K) (K n) c
large p span n K c s =
    let most = octets_for span - 1 in
    let again : octets_for n - 1 + 1 ≡ octets_for n = omega (arith, octets_positive n) in
    let count : Ask = constrained fields.value (bits_for most) most in
    let d : Cursor = answered_at count (octets_for n - 1) c in
    answered p count (λ k. ask_aligned p (digits (k + 1) span) K) c (octets_for n - 1) s.0
    ∙ ap (λ (k : ℕ). run (ask_aligned p (digits k span) K) d) again
    ∙ aligned p (digits (octets_for n) span) n K d s.1

pub forth_number : (p : Path) (role : Role) (span n : ℕ) (K : ℕ → Prog) (c : Cursor) → n ≤ span
    → Leads (number_fields p role span n) (ask_number p role span K) (K n) c
unfolding number_fields ask_number
forth_number p role span n K c h =
    by_cases (span == 0) (λ b. Leads (cond b []
    (cond (nat_lt span 255) (asked p (constrained role (bits_for span) span) n ∷ [])
    (cond (span == 255) (asked p pad 0 ∷ asked p (constrained role 8 span) n ∷ [])
    (cond (nat_lt span 65536) (asked p pad 0 ∷ asked p (constrained role 16 span) n ∷ []) (large_fields p span n)))))
    (cond b (K 0) (cond (nat_lt span 255) (ask p (constrained role (bits_for span) span) K)
    (cond (span == 255) (ask_aligned p (constrained role 8 span) K)
    (cond (nat_lt span 65536) (ask_aligned p (constrained role 16 span) K) (ask_large p span K))))) (K n) c)
    (λ none. nothing (K 0) (K n) c (let e : 0 ≡ n = omega (arith, same span 0 none) in ap K e))
    (λ some. by_test (nat_lt span 255) _ _ _ _ (K n) c (one p (constrained role (bits_for span) span) n K c)
    (by_test (span == 255) _ _ _ _ (K n) c (aligned p (constrained role 8 span) n K c)
    (by_test (nat_lt span 65536) _ _ _ _ (K n) c (aligned p (constrained role 16 span) n K c) (large p span n K c))))

-- an extension bit
pub forth_extension : (p : Path) (extensible extended : Bool) (K : Bool → Prog) (c : Cursor) → (extensible ≡ false → extended ≡ false)
    → Leads (extension_fields p extensible extended) (ask_extension p extensible K) (K extended) c
forth_extension p true true K c h = one p flag 1 (λ b. K (b == 1)) c
forth_extension p true false K c h = one p flag 0 (λ b. K (b == 1)) c
forth_extension p false extended K c h = nothing (K false) (K extended) c (ap K (sym (h refl)))

-- INTEGER
pub in_or_signed : (low high : ℤ) (extensible : Bool) (z : ℤ) → is_number_of low high extensible z ≡ true → in_range low high z ≡ false
    → (extensible ≡ true) × (is_signed z ≡ true)
in_or_signed low high extensible z h out = go (in_range low high z) extensible (is_signed z) h out
  where
    go : (a b c : Bool) → (a || (b && c)) ≡ true → a ≡ false → (b ≡ true) × (c ≡ true)
    go true b c h out = cc
    go false true true h out = (refl, refl)
    go false true false h out = cc
    go false false c h out = cc

integer_octets : (p : Path) (low high z : ℤ) (K : ℤ → Prog) (c : Cursor) → is_signed z ≡ true
    → Leads (asked p pad 0 ∷ asked p (extent (whole 1 8 None)) (signed_octets_for z) ∷ asked p (signed (signed_octets_for z) low high)
    (twos_complement (signed_octets_for z) z) ∷ [])
    (ask_integer_by p low high K true) (K z) c
integer_octets p low high z K c h s =
    let count = signed_octets_for z in
    let d : Cursor = answered_at (extent (whole 1 8 None)) count (answered_at pad 0 c) in
    answered p pad (λ x. ask p (extent (whole 1 8 None)) (λ k. ask p (signed k low high) (λ n. K (signed_number k n)))) c 0 s.0
    ∙ answered p (extent (whole 1 8 None)) (λ k. ask p (signed k low high) (λ n. K (signed_number k n))) (answered_at pad 0 c) count s.1.0
    ∙ answered p (signed count low high) (λ n. K (signed_number count n)) d (twos_complement count z) s.1.1.0
    ∙ ap (λ (y : ℤ). run (K y) (answered_at (signed count low high) (twos_complement count z) d))
    (signed_again count z (signed_octets_positive z) (signed_part_fits z h))

pub forth_integer : (p : Path) (low high : ℤ) (extensible : Bool) (z : ℤ) (K : ℤ → Prog) (c : Cursor)
    → is_number_of low high extensible z ≡ true
    → Leads (integer_fields p low high extensible z) (ask_integer p low high extensible K) (K z) c
unfolding integer_fields ask_integer
forth_integer p low high extensible z K c h =
    by_cases (in_range low high z) (λ b. Leads (extension_fields p extensible (cond b false true)
    ++ cond b (number_fields p fields.value (above low high) (above low z))
    (asked p pad 0 ∷ asked p (extent (whole 1 8 None)) (signed_octets_for z) ∷ asked p (signed (signed_octets_for z) low high)
    (twos_complement (signed_octets_for z) z) ∷ []))
    (ask_extension p extensible (ask_integer_by p low high K)) (K z) c)
    (λ root. both (extension_fields p extensible false) (number_fields p fields.value (above low high) (above low z)) _ _ (K z) c
    (forth_extension p extensible false (ask_integer_by p low high K) c (λ e. refl))
    (asks_on _ _ _ _ _ (forth_number p fields.value (above low high) (above low z) (λ n. K (low +ℤ pos n)) _
    (above_at_most low high z root))
    (ap K (above_again low z (in_range_low low high z root)))))
    (λ out. let facts = in_or_signed low high extensible z h out in
    both (extension_fields p extensible true) _ _ _ (K z) c
    (forth_extension p extensible true (ask_integer_by p low high K) c (λ e. cc (facts.0, e)))
    (integer_octets p low high z K _ facts.1))

-- an index
past_root : (count : ℕ) (extensible : Bool) (i : ℕ) → is_index_of count extensible i ≡ true → nat_lt i count ≡ false → extensible ≡ true
past_root count extensible i h out = go (nat_lt i count) extensible (nat_lt i (count + 64)) h out
  where
    go : (a b c : Bool) → (a || (b && c)) ≡ true → a ≡ false → b ≡ true
    go true b c h out = cc
    go false true c h out = refl
    go false false c h out = cc

pub forth_index : (p : Path) (count : ℕ) (extensible : Bool) (i : ℕ) (K : ℕ → Prog) (c : Cursor) → is_index_of count extensible i ≡ true
    → Leads (index_fields p count extensible i) (ask_index p count extensible K) (K i) c
unfolding index_fields ask_index
forth_index p count extensible i K c h =
    by_cases (nat_lt i count) (λ b. Leads (extension_fields p extensible (nat_le count i) ++ cond b
    (number_fields p fields.index (count - 1) i) (asked p (small fields.index) (i - count) ∷ []))
    (ask_extension p extensible (ask_index_by p count K)) (K i) c)
    (λ root. let inside : nat_le count i ≡ false = grind (arith, nat_tests) in
    both (extension_fields p extensible (nat_le count i)) (number_fields p fields.index (count - 1) i) _
    (ask_number p fields.index (count - 1) K) (K i) c
    (asks_on _ _ _ _ _ (forth_extension p extensible (nat_le count i) (ask_index_by p count K) c (λ e. inside))
    (ap (ask_index_by p count K) inside))
    (forth_number p fields.index (count - 1) i K _ (omega (arith, below i count root))))
    (λ out. let outside : nat_le count i ≡ true = grind (arith, nat_tests) in
    let again : count + (i - count) ≡ i = omega (arith, not_below i count out) in
    both (extension_fields p extensible (nat_le count i)) (asked p (small fields.index) (i - count) ∷ []) _
    (ask p (small fields.index) (λ n. K (count + n))) (K i) c
    (asks_on _ _ _ _ _ (forth_extension p extensible (nat_le count i) (ask_index_by p count K) c
    (λ e. cc (past_root count extensible i h out, e))) (ap (ask_index_by p count K) outside))
    (asks_on (asked p (small fields.index) (i - count) ∷ []) _ _ _ _ (one p (small fields.index) (i - count) (λ n. K (count + n)) _)
    (ap K again)))
