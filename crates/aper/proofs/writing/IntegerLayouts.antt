-- The layout of an INTEGER, of numbers that are known to be the same.
use Rattle.std.proofs.Common.{◌≡◌, Bool, ◌++◌, List, refl, sym, ap, subst, ◌∙◌}
use Rattle.std.specs.Prelude.{ℤ}
use Rattle.bits_core.specs.Writing.{Written}
use Rattle.aper_defs.specs.Trees.{integer}
use Rattle.aper_defs.specs.Values.{Value, number}
use Rattle.aper_defs.specs.Fields.{Path, Field}
use Rattle.aper_defs.specs.Bits.{put_all}
use Rattle.aper_defs.specs.Parts.{integer_fields}
use Rattle.aper_defs.specs.Layouts.{layout}
use Rattle.aper_fields.specs.Following.{Follows}
use Rattle.aper_fields.specs.members.Followed.{ValueFollows}

integer_layout : (p : Path) (low high : ℤ) (e : Bool) (z : ℤ) → layout p (integer low high e) (number z) ≡ integer_fields p low high e z
unfolding layout
integer_layout p low high e z = refl

pub integer_follows : (low high z low' high' z' : ℤ) (e : Bool) (old new : Written) (v : Value) → low' ≡ low → high' ≡ high → z' ≡ z
    → v ≡ number z → Follows old new (λ p. integer_fields p low' high' e z') → ValueFollows old new (integer low high e) v
integer_follows low high z low' high' z' e old new v a b c seen follows p rest =
    ap (λ w. put_all old.bits (layout p (integer low high e) w ++ rest)) seen
    ∙ ap (λ fs. put_all old.bits (fs ++ rest)) (integer_layout p low high e z)
    ∙ subst (λ x. Follows old new (λ q. integer_fields q low high e x)) c
    (subst (λ x. Follows old new (λ q. integer_fields q low x e z')) b
    (subst (λ x. Follows old new (λ q. integer_fields q x high' e z')) a follows)) p rest
