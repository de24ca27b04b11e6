-- Parts by their places, and how many members there are.
use Rattle.std.proofs.Common.{◌≡◌, ℕ, zero, suc, ◌+◌, List, [], ◌∷◌, length, drop, refl, ap, arith}
use Rattle.asn1_syntax.specs.declared.types.definition.Component.{Component}
use Rattle.asn1_defs.specs.Links.{AreBelow, OptionBelow}
use Rattle.aper_defs.specs.Values.{value_count, ie_count}
use Rattle.aper_values.specs.declared.value.Value.{Value}
use Rattle.aper_values.specs.declared.value.Element.{Element}
use Rattle.aper_values.specs.Views.{values_view, ies_view}
use Rattle.aper_fields.specs.members.Rows.{part_type}

pub values_count : (vs : List Value) → value_count (values_view vs) ≡ length vs
values_count [] = refl
values_count (v ∷ vs) = ap suc (values_count vs)

pub elements_count : (es : List (Element Value)) → ie_count (ies_view es) ≡ length es
elements_count [] = refl
elements_count (e ∷ es) = ap suc (elements_count es)

pub part_below : (n i : ℕ) (parts : List Component) → AreBelow n parts → OptionBelow n (part_type i parts)
part_below n i [] h = tt
part_below n zero (c ∷ parts) h = h.0
part_below n (suc i) (c ∷ parts) h = part_below n i parts h.1

pub further : {A : Type 0} (i : ℕ) (x : A) (xs : List A) → drop (suc i + 1) (x ∷ xs) ≡ drop (i + 1) xs
further i x xs = let e : suc i + 1 ≡ suc (i + 1) = omega arith in ap (λ n. drop n (x ∷ xs)) e
