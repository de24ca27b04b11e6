-- The fields of numbers, strings and counts stand where their bits are.
use Rattle.std.proofs.Common.{◌≡◌, ℕ, ◌-◌, ◌*◌, ◌^◌, ◌<◌, ◌≤◌, ◌==◌, nat_lt, cond, ◌&&◌, Bool, true, false, List, [], ◌∷◌, Some, refl, ap, ◌∙◌, arith}
use Rattle.std.specs.Prelude.{ℤ, nat_le}
use Rattle.std.proofs.lemmas.Bool.Decides.{nat_tests}
use Rattle.aper_defs.specs.declared.reason.Reason.TheVariants as reasons
use Rattle.aper_defs.specs.Numbers.{bits_for, octets_for, signed_octets_for, twos_complement, signed_number, is_signed, in_range}
use Rattle.aper_defs.specs.Fields.{Path, Role, Ask, Field, bit, octet, flag, constrained, digits, signed, small, extent, character, pad, whole, part, asked, run as run_field}
use Rattle.aper_defs.specs.Fields as fields
use Rattle.aper_defs.specs.Parts.{large_fields, number_fields, extension_fields}
use Rattle.aper_defs.specs.Membership.{is_printable}
use Rattle.aper_defs.specs.Reading.{unless, too_great}
use Rattle.proof_aper.proofs.answers.NumberFacts.{by_cases, below, not_below, is_below, is_not_below, is_at_most, same, octets_fit, octets_least, octets_grow, octets_at_most, bits_fit, signed_again, signed_part_fits, twos_complement_fits, signed_octets_positive}
use Rattle.proof_aper.proofs.places.Placed.{Allowed, Placed, placed_none, placed_asked}
use Rattle.proof_aper.proofs.places.Extents.{unless_true}
use Rattle.proof_aper.proofs.places.Opened.{allowed_pad}

pub by_branch : (b : Bool) (x y : List Field) → (b ≡ true → Placed x) → (b ≡ false → Placed y) → Placed (cond b x y)
by_branch true x y first second = first refl
by_branch false x y first second = second refl

-- ---- what is allowed
pub allowed_flag : (n : ℕ) → n < 2 → Allowed flag n
allowed_flag n h = record { wide = λ c rest e. refl; small = λ place. h; right = λ c. refl; same = λ c. refl }

pub allowed_constrained : (role : Role) (width most n : ℕ) → n ≤ most → n < 2 ^ width → Allowed (constrained role width most) n
allowed_constrained role width most n h k = record {
  wide = λ c rest e. refl;
  small = λ place. k;
  right = λ c. unless_true (nat_le n most) (is_at_most n most h) (too_great role);
  same = λ c. refl;
}

minimal : (n : ℕ) → (nat_lt 1 (octets_for n) && nat_lt n (2 ^ (8 * (octets_for n - 1)))) ≡ false
minimal n = by_cases (nat_lt 1 (octets_for n)) (λ b. (b && nat_lt n (2 ^ (8 * (octets_for n - 1)))) ≡ false)
    (λ e. is_not_below n (2 ^ (8 * (octets_for n - 1))) (octets_least n (below 1 (octets_for n) e))) (λ e. refl)

pub allowed_digits : (most n : ℕ) → n ≤ most → n < 2 ^ 64 → Allowed (digits (octets_for n) most) n
allowed_digits most n h k = record {
  wide = λ c rest e. refl;
  small = λ place. octets_fit n k;
  right = λ c. ap (λ b. cond b (Some reasons.NotMinimal) (unless (nat_le n most) reasons.Range)) (minimal n)
      ∙ unless_true (nat_le n most) (is_at_most n most h) reasons.Range;
  same = λ c. refl;
}

pub allowed_signed : (low high z : ℤ) → is_signed z ≡ true → in_range low high z ≡ false
    → Allowed (signed (signed_octets_for z) low high) (twos_complement (signed_octets_for z) z)
allowed_signed low high z h out =
    let k = signed_octets_for z in
    let again : signed_number k (twos_complement k z) ≡ z = signed_again k z (signed_octets_positive z) (signed_part_fits z h) in record {
      wide = λ c rest e. refl;
      small = λ place. twos_complement_fits k z (signed_octets_positive z) (signed_part_fits z h);
      right = λ c. ap (λ (y : ℤ). unless (nat_le k (signed_octets_for y) && cond (in_range low high y) false true) reasons.NotMinimal) again
          ∙ ap (λ b. unless (b && cond (in_range low high z) false true) reasons.NotMinimal) (is_at_most k k (omega arith))
          ∙ ap (λ b. unless (cond b false true) reasons.NotMinimal) out;
      same = λ c. refl;
    }

pub allowed_small : (role : Role) (n : ℕ) → n < 64 → Allowed (small role) n
allowed_small role n h = record {
  wide = λ c rest e. refl;
  small = λ place. omega arith;
  right = λ c. unless_true (nat_lt n 64) (is_below n 64 h) (too_great role);
  same = λ c. refl;
}

printable_small : (c : ℕ) → is_printable c ≡ true → c < 2 ^ 8
printable_small c h = by_cases (nat_lt c 256) (λ b. c < 2 ^ 8) (λ e. below c 256 e)
    (λ e. let k : 256 ≤ c = not_below c 256 e in absurd (grind (arith, nat_tests)))

pub allowed_character : (c : ℕ) → is_printable c ≡ true → Allowed character c
allowed_character c h = record {
  wide = λ d rest e. refl;
  small = λ place. printable_small c h;
  right = λ d. unless_true (is_printable c) h reasons.Character;
  same = λ d. refl;
}

-- ---- numbers
pub padded : (p : Path) (question : Ask) (n : ℕ) (fs : List Field) → Placed (asked p question n ∷ fs)
    → Placed (asked p pad 0 ∷ asked p question n ∷ fs)
padded p question n fs h = placed_asked p pad 0 (asked p question n ∷ fs) allowed_pad (λ place opens. refl) h

pub placed_constrained : (p : Path) (role : Role) (width most n : ℕ) → n ≤ most → n < 2 ^ width
    → Placed (asked p (constrained role width most) n ∷ [])
placed_constrained p role width most n h k = placed_asked p (constrained role width most) n [] (allowed_constrained role width most n h k)
    (λ place opens. refl) placed_none

placed_large : (p : Path) (span n : ℕ) → n ≤ span → span < 2 ^ 64 → Placed (large_fields p span n)
placed_large p span n h k =
    let most = octets_for span - 1 in
    let count : octets_for n ≤ octets_for span = octets_grow n span h in
    let few : octets_for span ≤ 8 = octets_at_most span in
    placed_asked p (constrained fields.value (bits_for most) most) (octets_for n - 1)
    (asked p pad 0 ∷ asked p (digits (octets_for n) span) n ∷ [])
    (allowed_constrained fields.value (bits_for most) most (octets_for n - 1) (omega arith)
    (omega (arith, bits_fit most (omega arith), count)))
    (λ place opens. refl)
    (padded p (digits (octets_for n) span) n []
    (placed_asked p (digits (octets_for n) span) n [] (allowed_digits span n h (omega arith)) (λ place opens. refl) placed_none))

pub placed_number : (p : Path) (role : Role) (span n : ℕ) → n ≤ span → span < 2 ^ 64 → Placed (number_fields p role span n)
unfolding number_fields
placed_number p role span n h k =
    by_branch (span == 0) _ _ (λ e. placed_none)
    (λ e. by_branch (nat_lt span 255) _ _
    (λ f. placed_constrained p role (bits_for span) span n h (omega (arith, h, bits_fit span (omega (arith, below span 255 f)))))
    (λ f. by_branch (span == 255) _ _
    (λ g. padded p (constrained role 8 span) n [] (placed_constrained p role 8 span n h (omega (arith, same span 255 g))))
    (λ g. by_branch (nat_lt span 65536) _ _
    (λ i. padded p (constrained role 16 span) n [] (placed_constrained p role 16 span n h (omega (arith, below span 65536 i))))
    (λ i. placed_large p span n h k))))

pub placed_extension : (p : Path) (extensible extended : Bool) → Placed (extension_fields p extensible extended)
placed_extension p false extended = placed_none
placed_extension p true true = placed_asked p flag 1 [] (allowed_flag 1 (omega arith)) (λ place opens. refl) placed_none
placed_extension p true false = placed_asked p flag 0 [] (allowed_flag 0 (omega arith)) (λ place opens. refl) placed_none
