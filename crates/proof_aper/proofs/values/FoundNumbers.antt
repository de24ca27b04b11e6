-- What is read as a number is one, in its own fields.
use Rattle.std.proofs.Common.{◌≡◌, ℕ, zero, suc, ◌+◌, ◌-◌, ◌*◌, ◌^◌, ◌<◌, ◌≤◌, ◌==◌, nat_lt, cond, ◌&&◌, Bool, true, false, List, [], ◌∷◌, None, Some, Ok, refl, sym, ap, subst, ◌∙◌, arith}
use Rattle.std.specs.Prelude.{nat_le}
use Rattle.std.proofs.Math.Nat.{pow-le-pow_right}
use Rattle.aper_defs.specs.declared.reason.Reason.TheVariants as reasons
use Rattle.aper_defs.specs.Values.{Value}
use Rattle.aper_defs.specs.Numbers.{least_count, bits_for, octets_for}
use Rattle.aper_defs.specs.Fields.{Path, Role, Ask, Field, flag, constrained, digits, signed, small, extent, pad, whole, asked}
use Rattle.aper_defs.specs.Fields as fields
use Rattle.aper_defs.specs.Parts.{large_fields, number_fields, extension_fields}
use Rattle.aper_defs.specs.Questions.{Prog, ask, ask_aligned, ask_large, ask_number, ask_extension}
use Rattle.aper_defs.specs.Reading.{Cursor, read, unless, too_great, answered_at}
use Rattle.proof_aper.proofs.answers.Standing.{StandAll, after_all}
use Rattle.proof_aper.proofs.answers.NumberFacts.{by_cases, below, not_below, at_most, same, octets_positive, octets_fit, octets_at_most}
use Rattle.proof_aper.proofs.values.Found.{Ends, Found, found_none, found_as, found_ask, Answered, answer_read, not_wrong}

-- ---- answers that were read
pub flag_read : (c : Cursor) (n : ℕ) → read flag c ≡ Ok n → n < 2
flag_read c n e = let a : Answered flag c n = answer_read flag c n e in omega (arith, a.small, a.same)

pub pad_read : (c : Cursor) (n : ℕ) → read pad c ≡ Ok n → n ≡ 0
pad_read c n e = let a : Answered pad c n = answer_read pad c n e in sym a.same ∙ same a.m 0 (not_wrong (a.m == 0) reasons.Padding a.right)

pub constrained_read : (role : Role) (width most : ℕ) (c : Cursor) (n : ℕ) → read (constrained role width most) c ≡ Ok n → n ≤ most
constrained_read role width most c n e =
    let a : Answered (constrained role width most) c n = answer_read (constrained role width most) c n e in
    omega (arith, a.same, at_most a.m most (not_wrong (nat_le a.m most) (too_great role) a.right))

pub small_read : (role : Role) (c : Cursor) (n : ℕ) → read (small role) c ≡ Ok n → n < 64
small_read role c n e =
    let a : Answered (small role) c n = answer_read (small role) c n e in
    omega (arith, a.same, below a.m 64 (not_wrong (nat_lt a.m 64) (too_great role) a.right))

-- ---- least octets
least_at_most : (unit tries count n k : ℕ) → count ≤ k → n < 2 ^ (unit * k) → k ≤ count + tries → least_count unit tries count n ≤ k
least_at_most unit zero count n k from fits most = omega arith
least_at_most unit (suc tries) count n k from fits most =
    by_cases (nat_lt n (2 ^ (unit * count))) (λ b. cond b count (least_count unit tries (count + 1) n) ≤ k)
    (λ e. from)
    (λ e. least_at_most unit tries (count + 1) n k (further (not_below n (2 ^ (unit * count)) e)) fits (omega arith))
  where
    further : 2 ^ (unit * count) ≤ n → count + 1 ≤ k
    further above_it = by_cases (nat_lt count k) (λ b. count + 1 ≤ k) (λ g. omega (arith, below count k g))
        (λ g. let e : count ≡ k = omega (arith, not_below count k g) in absurd (omega (arith, ap (λ (m : ℕ). 2 ^ (unit * m)) e)))

pub octets_few : (n k : ℕ) → 1 ≤ k → k ≤ 8 → n < 2 ^ (8 * k) → octets_for n ≤ k
octets_few n k some few fits = least_at_most 8 7 1 n k some fits few

powers : (a b : ℕ) → a ≤ b → 2 ^ a ≤ 2 ^ b
powers a b h = pow-le-pow_right {n = 2} (omega arith) h

pub octets_unique : (n k : ℕ) → 1 ≤ k → k ≤ 8 → n < 2 ^ (8 * k) → (1 < k → 2 ^ (8 * (k - 1)) ≤ n) → octets_for n ≡ k
octets_unique n k some few fits least =
    let most : octets_for n ≤ k = octets_few n k some few fits in
    let up : 2 ^ (8 * k) ≤ 2 ^ 64 = powers (8 * k) 64 (omega arith) in
    let limit : n < 2 ^ 64 = omega (arith, up) in
    by_cases (nat_lt (octets_for n) k) (λ b. octets_for n ≡ k)
    (λ e. let h : octets_for n < k = below (octets_for n) k e in
    let low : 2 ^ (8 * octets_for n) ≤ 2 ^ (8 * (k - 1)) = powers (8 * octets_for n) (8 * (k - 1)) (omega arith) in
    absurd (omega (arith, least (omega (arith, octets_positive n)), octets_fit n limit, low)))
    (λ e. omega (arith, not_below (octets_for n) k e))

pub record IsDigits (count most n : ℕ) : Type 0 where
  pub most-is : n ≤ most
  pub fits : n < 2 ^ (8 * count)
  pub least : 1 < count → 2 ^ (8 * (count - 1)) ≤ n

pub digits_read : (count most : ℕ) (c : Cursor) (n : ℕ) → read (digits count most) c ≡ Ok n → IsDigits count most n
digits_read count most c n e =
    let a : Answered (digits count most) c n = answer_read (digits count most) c n e in
    subst (IsDigits count most) a.same (go (nat_lt 1 count) (nat_lt a.m (2 ^ (8 * (count - 1)))) a.m refl refl a.right a.small)
  where
    go : (b d : Bool) (m : ℕ) → nat_lt 1 count ≡ b → nat_lt m (2 ^ (8 * (count - 1))) ≡ d
        → cond (b && d) (Some reasons.NotMinimal) (unless (nat_le m most) reasons.Range) ≡ None → m < 2 ^ (8 * count)
        → IsDigits count most m
    go true true m f g r s = cc
    go true false m f g r s = record {
      most-is = at_most m most (not_wrong
          (nat_le m most) reasons.Range r);
      fits = s;
      least = λ h. not_below m (2 ^ (8 * (count - 1))) g;
    }
    go false d m f g r s = record {
      most-is = at_most m most (not_wrong (nat_le m most) reasons.Range r);
      fits = s;
      least = λ h. absurd
          (omega (arith, not_below 1 count f));
    }

-- ---- numbers
-- nothing more is known of what was read than that it stands there
abbrev pub Any : {X : Type 0} → X → Type 0
Any x = Unit {0}

pub found_aligned : (p : Path) (question : Ask) (K : ℕ → Prog) (c : Cursor) (y : Value × Cursor) → Ends (ask_aligned p question K) c y
    → Found Any (λ n. asked p pad 0 ∷ asked p question n ∷ []) K c y
found_aligned p question K c y e =
    let a = found_ask p pad (λ z. ask p question K) c y e in
    let b = found_ask p question K (answered_at pad 0 c) y a.rest in
    record { made = b.made; is = tt; stand = (subst (λ n. read pad c ≡ Ok n) (pad_read c a.made a.is) a.is, (b.is, tt)); rest = b.rest }

found_constrained : (p : Path) (role : Role) (width most : ℕ) (K : ℕ → Prog) (c : Cursor) (y : Value × Cursor)
    → Ends (ask p (constrained role width most) K) c y
    → Found (λ n. n ≤ most) (λ n. asked p (constrained role width most) n ∷ []) K c y
found_constrained p role width most K c y e =
    found_as (λ n. read (constrained role width most) c ≡ Ok n) (λ n. n ≤ most) (λ n. asked p
    (constrained role width most) n ∷ []) _ K K c y (λ n. n)
    (λ n h s. constrained_read role width most c n h) (λ n h. refl) (λ n h. refl) (found_ask p (constrained role width most) K c y e)

found_padded : (p : Path) (role : Role) (width most : ℕ) (K : ℕ → Prog) (c : Cursor) (y : Value × Cursor)
    → Ends (ask_aligned p (constrained role width most) K) c y
    → Found (λ n. n ≤ most) (λ n. asked p pad 0 ∷ asked p (constrained role width most) n ∷ []) K c y
found_padded p role width most K c y e =
    found_as Any (λ n. n ≤ most) (λ n. asked p pad 0 ∷ asked p (constrained role width most) n ∷ []) _ K K c y (λ n. n)
    (λ n h s. constrained_read role width most (answered_at pad 0 c) n s.1.0) (λ n h. refl) (λ n h. refl) (found_aligned p
    (constrained role width most) K c y e)

found_large : (p : Path) (span : ℕ) (K : ℕ → Prog) (c : Cursor) (y : Value × Cursor) → span < 2 ^ 64 → Ends (ask_large p span K) c y
    → Found (λ n. n ≤ span) (λ n. large_fields p span n) K c y
found_large p span K c y bound e =
    let most = octets_for span - 1 in
    let count : Ask = constrained fields.value (bits_for most) most in
    let a = found_ask p count (λ k. ask_aligned p (digits (k + 1) span) K) c y e in
    let k = a.made in
    let few : k ≤ most = constrained_read fields.value (bits_for most) most c k a.is in
    let d : Cursor = answered_at count k c in
    let b = found_aligned p (digits (k + 1) span) K d y a.rest in
    let n = b.made in
    let is : IsDigits (k + 1) span n = digits_read (k + 1) span (answered_at pad 0 d) n b.stand.1.0 in
    let size : octets_for n ≡ k + 1 =
    octets_unique n (k + 1) (omega arith) (omega (arith, few, octets_at_most span)) is.fits is.least in
    let low : octets_for n - 1 ≡ k = omega (arith, size) in
    let same : large_fields p span n ≡ asked p count k ∷ asked p pad 0 ∷ asked p (digits (k + 1) span) n ∷ [] =
    ap (λ (j : ℕ). asked p count j ∷ asked p pad 0 ∷ asked p (digits (octets_for n) span) n ∷ []) low
    ∙ ap (λ (j : ℕ). asked p count k ∷ asked p pad 0 ∷ asked p (digits j span) n ∷ []) size in
    record {
      made = n;
      is = is.most-is;
      stand = subst (λ fs. StandAll fs c) (sym same) (a.is, b.stand);
      rest = subst (λ fs. Ends (K n) (after_all fs c) y) (sym same) b.rest;
    }

-- what a test takes
pub found_by : {X : Type 0} (P : X → Type 0) (b : Bool) (f g : X → List Field) (A B : Prog) (K : X → Prog) (c : Cursor) (y : Value × Cursor)
    → (Ends A c y → Found P f K c y) → (Ends B c y → Found P g K c y) → Ends (cond b A B) c y → Found P (λ x. cond b (f x) (g x)) K c y
found_by P true f g A B K c y first second e = first e
found_by P false f g A B K c y first second e = second e

pub found_number : (p : Path) (role : Role) (span : ℕ) (K : ℕ → Prog) (c : Cursor) (y : Value × Cursor) → span < 2 ^ 64
    → Ends (ask_number p role span K) c y
    → Found (λ n. n ≤ span) (λ n. number_fields p role span n) K c y
unfolding ask_number number_fields
found_number p role span K c y bound =
    found_by (λ n. n ≤ span) (span == 0) _ _ _ _ K c y (λ e. found_none (λ n. n ≤ span) K c y 0 (omega arith) e)
    (found_by (λ n. n ≤ span) (nat_lt span 255) _ _ _ _ K c y (found_constrained p role (bits_for span) span K c y)
    (found_by (λ n. n ≤ span) (span == 255) _ _ _ _ K c y (found_padded p role 8 span K c y)
    (found_by (λ n. n ≤ span) (nat_lt span 65536) _ _ _ _ K c y (found_padded p role 16 span K c y) (found_large p span K c y bound))))

-- an extension bit
pub found_extension : (p : Path) (extensible : Bool) (K : Bool → Prog) (c : Cursor) (y : Value × Cursor)
    → Ends (ask_extension p extensible K) c y
    → Found (λ b. extensible ≡ false → b ≡ false) (λ b. extension_fields p extensible b) K c y
found_extension p false K c y e = found_none (λ b. false ≡ false → b ≡ false) K c y false (λ h. refl) e
found_extension p true K c y e =
    found_as (λ n. read flag c ≡ Ok n) (λ b. true ≡ false → b ≡ false) (λ n. asked p flag n ∷ []) (λ b. extension_fields p true b)
    (λ b. K (b == 1)) K c y (λ n. n == 1)
    (λ n h s. λ g. cc) (λ n h. bit_is n (flag_read c n h)) (λ n h. refl) (found_ask p flag (λ b. K (b == 1)) c y e)
  where
    bit_is : (n : ℕ) → n < 2 → asked p flag n ∷ [] ≡ asked p flag (cond (n == 1) 1 0) ∷ []
    bit_is zero h = refl
    bit_is (suc zero) h = refl
    bit_is (suc (suc n)) h = absurd (omega arith)
