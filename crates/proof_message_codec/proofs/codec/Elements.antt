-- What the elements of a set are, of a message's value: a mandatory one, and one that may be there.
use Rattle.std.proofs.Common.{◌≡◌, ◌==◌, true, cond, Option, Some, None, option_map, refl, sym, ap, subst, ◌∙◌}
use Rattle.std.specs.Prelude.{List}
use Rattle.aper_defs.specs.Trees.{slots}
use Rattle.aper_defs.specs.Values.{Value, Ies, no_ies, ie}
use Rattle.aper_defs.specs.Fields.{Path}
use Rattle.aper_defs.specs.Membership.{HasRow}
use Rattle.message_defs.specs.profile_defs.Elements.{Element}
use Rattle.message_defs.specs.profile_defs.Tables.{Use}
use Rattle.message_defs.specs.Places.{element_of, or_empty, the, any}
use Rattle.proof_messages.proofs.message_elements.Ordered.{ie_of, is_mandatory, there, body_of}
use Rattle.proof_messages.proofs.message_elements.Matched.{its_rows, AreIts}

same_element : (e : Element) (ies : Ies) → element_of e ies ≡ ie_of e.id ies
same_element e no_ies = refl
same_element e (ie id criticality v others) = ap (λ (x : Option Value). cond (id == e.id) (Some v) x) (same_element e others)

module _ (uses : List Use) (p : Path) (ies : Ies) where
  pub the_is : {A : Type 0} → (P : A → Type 0) (e : Element) (to : Value → A) → is_mandatory e.id (slots (its_rows uses p ies)) ≡ true
      → AreIts uses p ies → ((v : Value) → HasRow p (its_rows uses p ies) e.id v → P (to v)) → P (the e to ies)
  the_is P e to m are each =
      let found = there (slots (its_rows uses p ies)) (λ id v. HasRow p (its_rows uses p ies) id v) (slots (its_rows uses p ies)) ies e.id m are in
      let it : element_of e ies ≡ Some found.0 = same_element e ies ∙ found.1 in
      subst (λ (x : Option Value). P (to (or_empty x))) (sym it)
      (each found.0 (body_of (slots (its_rows uses p ies)) (λ id v. HasRow p (its_rows uses p ies) id v) (slots (its_rows uses p ies)) ies e.id found.0 are found.1))

  pub any_is : {A : Type 0} → (P : Option A → Type 0) (e : Element) (to : Value → A) → P None
      → AreIts uses p ies → ((v : Value) → HasRow p (its_rows uses p ies) e.id v → P (Some (to v))) → P (any e to ies)
  any_is P e to none are each = by (element_of e ies) (sym (same_element e ies))
    where
      by : (x : Option Value) → ie_of e.id ies ≡ x → P (option_map to x)
      by None is = none
      by (Some v) is = each v (body_of (slots (its_rows uses p ies)) (λ id v. HasRow p (its_rows uses p ies) id v) (slots (its_rows uses p ies)) ies e.id v are is)
