-- How long numbers are.
use Rattle.std.proofs.Common.{◌≡◌, ℕ, ◌<◌, ◌≤◌, ◌==◌, cond, nat_lt, Bool, true, false, List, [], ◌∷◌, ◌++◌, ap, ◌∙◌, arith}
use Rattle.std.specs.Prelude.{ℤ}
use Rattle.std.proofs.lemmas.Bool.Decides.{nat_tests}
use Rattle.aper_defs.specs.Numbers.{bits_for, in_range, above}
use Rattle.aper_defs.specs.Fields.{Path, Role, Field, asked, constrained, pad}
use Rattle.aper_defs.specs.Fields as roles
use Rattle.aper_defs.specs.Parts.{large_fields, number_fields, extension_fields, integer_fields}
use Rattle.proof_aper.proofs.answers.NumberFacts.{is_not_below}
use Rattle.aper_fields.specs.Outside.{outside_fields}
use Rattle.aper_fields.specs.widths.Ends.{end_of, Ends}
use Rattle.aper_fields.proofs.widths.EndLemmas.{ends_both}

differs : (a b : ℕ) → b < a → (a == b) ≡ false
differs a b h = grind (arith, nat_tests)

large_number : (p : Path) (role : Role) (span n : ℕ) → 65536 ≤ span → number_fields p role span n ≡ large_fields p span n
unfolding number_fields
large_number p role span n h =
    let a : List Field = asked p (constrained role (bits_for span) span) n ∷ [] in
    let b : List Field = asked p pad 0 ∷ asked p (constrained role 8 span) n ∷ [] in
    let c : List Field = asked p pad 0 ∷ asked p (constrained role 16 span) n ∷ [] in
    let d : List Field = large_fields p span n in
    ap (λ t. cond t [] (cond (nat_lt span 255) a (cond (span == 255) b (cond (nat_lt span 65536) c d)))) (differs span 0 (omega (arith, h)))
    ∙ ap (λ t. cond t a (cond (span == 255) b (cond (nat_lt span 65536) c d))) (is_not_below span 255 (omega (arith, h)))
    ∙ ap (λ t. cond t b (cond (nat_lt span 65536) c d)) (differs span 255 (omega (arith, h)))
    ∙ ap (λ t. cond t c d) (is_not_below span 65536 h)

pub large_ends : (old new span n : ℕ) → 65536 ≤ span → Ends old new (λ p. large_fields p span n)
    → (role : Role) → Ends old new (λ p. number_fields p role span n)
large_ends old new span n h f role p rest = ap (λ fs. end_of old (fs ++ rest)) (large_number p role span n h) ∙ f p rest

module _ (low high z : ℤ) (e : Bool) (old mid new : ℕ) where
  -- the fields, where the test has this outcome
  tested : Bool → Path → List Field
  tested b p = extension_fields p e (cond b false true) ++ cond b (number_fields p roles.value (above low high) (above low z)) (outside_fields p low high z)

  pub integer_inside : in_range low high z ≡ true → Ends old mid (λ p. extension_fields p e false)
      → Ends mid new (λ p. number_fields p roles.value (above low high) (above low z))
      → Ends old new (λ p. integer_fields p low high e z)
  unfolding integer_fields tested
  integer_inside is f g p rest =
      ap (λ b. end_of old (tested b p ++ rest)) is
      ∙ ends_both old mid new (λ q. extension_fields q e false) (λ q. number_fields q roles.value (above low high) (above low z)) f g p rest

  pub integer_outside : in_range low high z ≡ false → Ends old mid (λ p. extension_fields p e true)
      → Ends mid new (λ p. outside_fields p low high z)
      → Ends old new (λ p. integer_fields p low high e z)
  unfolding integer_fields tested
  integer_outside is f g p rest =
      ap (λ b. end_of old (tested b p ++ rest)) is
      ∙ ends_both old mid new (λ q. extension_fields q e true) (λ q. outside_fields q low high z) f g p rest
