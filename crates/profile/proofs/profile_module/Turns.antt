-- The types of a module, looked at one after another.
use Rattle.std.proofs.Common.{◌≡◌, ℕ, zero, suc, ◌+◌, List, [], ◌∷◌, drop, slice_get, Bool, true, false, ap, ◌∙◌, arith}
use Rattle.std.specs.Prelude.{Some, if◌then◌else◌}
use Rattle.asn1_syntax.specs.declared.types.definition.TypeId.{TypeId}
use Rattle.asn1_syntax.specs.declared.assignments.assignment.Assignment.{Assignment}
use Rattle.asn1_defs.specs.Targets.{type_name}
use Rattle.profile.specs.profile_module.inside.Same.{is_among, first_new}

some_same : {X : Type 0} {x y : X} → Some x ≡ Some y → x ≡ y
some_same e = cc

drop_same : (i : ℕ) (id : TypeId) (ids : List TypeId) → slice_get ids i ≡ Some id → drop i ids ≡ id ∷ drop (suc i) ids
drop_same i id [] h = cc
drop_same zero id (x ∷ ids) h = ap (λ (y : TypeId). y ∷ ids) (some_same h)
drop_same (suc i) id (x ∷ ids) h = drop_same i id ids h

module _ (names : List (List ℕ)) (assignments : List Assignment) (ids : List TypeId) where
  pub new_here : (i : ℕ) (id : TypeId) → slice_get ids i ≡ Some id → is_among (type_name id assignments) names ≡ false
      → first_new names assignments (drop i ids) ≡ Some (type_name id assignments)
  unfolding first_new
  new_here i id at new =
      ap (first_new names assignments) (drop_same i id ids at)
      ∙ ap (λ (b : Bool). if b then first_new names assignments (drop (suc i) ids) else Some (type_name id assignments)) new

  pub new_later : (i : ℕ) (id : TypeId) → slice_get ids i ≡ Some id → is_among (type_name id assignments) names ≡ true
      → first_new names assignments (drop i ids) ≡ first_new names assignments (drop (i + 1) ids)
  unfolding first_new
  new_later i id at known =
      let next : suc i ≡ i + 1 = omega arith in
      ap (first_new names assignments) (drop_same i id ids at)
      ∙ ap (λ (b : Bool). if b then first_new names assignments (drop (suc i) ids) else Some (type_name id assignments)) known
      ∙ ap (λ (k : ℕ). first_new names assignments (drop k ids)) next
