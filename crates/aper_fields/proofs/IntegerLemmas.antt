-- INTEGER: the extension bit, and the number in its range or past it.
use Rattle.std.proofs.Common.{◌≡◌, ℕ, cond, Bool, true, false, List, ◌++◌, refl, sym, ap, ◌∙◌, append_assoc}
use Rattle.std.specs.Prelude.{ℤ}
use Rattle.bits_core.specs.Writing.{Written}
use Rattle.aper_defs.specs.Numbers.{in_range, above}
use Rattle.aper_defs.specs.Fields.{Path, Field}
use Rattle.aper_defs.specs.Fields as roles
use Rattle.aper_defs.specs.Bits.{put_all}
use Rattle.aper_defs.specs.Parts.{extension_fields, number_fields, integer_fields}
use Rattle.aper_fields.specs.Following.{Follows}
use Rattle.aper_fields.specs.Outside.{outside_fields}

both : (old mid new : Written) (F G : Path → List Field) → Follows old mid F → Follows mid new G → Follows old new (λ p. F p ++ G p)
both old mid new F G f g p rest = ap (put_all old.bits) (append_assoc (F p) (G p) rest) ∙ f p (G p ++ rest) ∙ g p rest

module _ (low high z : ℤ) (e : Bool) (old mid new : Written) where
  -- the fields, where the test has this outcome
  tested : Bool → Path → List Field
  tested b p = extension_fields p e (cond b false true) ++ cond b (number_fields p roles.value (above low high) (above low z)) (outside_fields p low high z)

  pub integer_inside : in_range low high z ≡ true → Follows old mid (λ p. extension_fields p e false)
      → Follows mid new (λ p. number_fields p roles.value (above low high) (above low z))
      → Follows old new (λ p. integer_fields p low high e z)
  unfolding integer_fields tested
  integer_inside is f g p rest =
      ap (λ b. put_all old.bits (tested b p ++ rest)) is
      ∙ both old mid new (λ q. extension_fields q e false) (λ q. number_fields q roles.value (above low high) (above low z)) f g p rest

  pub integer_outside : in_range low high z ≡ false → Follows old mid (λ p. extension_fields p e true)
      → Follows mid new (λ p. outside_fields p low high z)
      → Follows old new (λ p. integer_fields p low high e z)
  unfolding integer_fields tested
  integer_outside is f g p rest =
      ap (λ b. put_all old.bits (tested b p ++ rest)) is
      ∙ both old mid new (λ q. extension_fields q e true) (λ q. outside_fields q low high z) f g p rest
