-- Values put one after the other.
use Rattle.std.proofs.Common.{◌≡◌, ℕ, suc, ◌+◌, ◌<◌, ◌≤◌, List, [], ◌∷◌, ◌++◌, length, drop, get_or, map, Bool, true, false, not, ◌&&◌, ◌||◌, Option, Some, None, refl, sym, ap, ◌∙◌}
use Rattle.std.specs.Prelude.{nat_le}
use Rattle.std.proofs.lemmas.List.{drop_more}
use Rattle.serde_json.specs.declared.value.Value as trees
use Rattle.serde_json.specs.View.{view as json, items_view}
use Rattle.aper_defs.specs.Values as seen
use Rattle.aper_values.specs.declared.value.Element.{Element}
use Rattle.aper_values.specs.Views.{values_of, options_of, ies_of}
use Rattle.json_defs.specs.Members.{is_null, item_count}
use Rattle.json_defs.specs.Readings.{present_if}
use Rattle.json_defs.specs.Demands.{any_told}
use Rattle.proof_json.proofs.values.Words.{is_at_most}

pub mapped : {A B : Type 0} (f : A → B) (xs : List A) (x : A) (y : B) → f x ≡ y → map f (xs ++ x ∷ []) ≡ map f xs ++ y ∷ []
mapped f [] x y e = ap (λ z. z ∷ []) e
mapped f (w ∷ xs) x y e = ap (λ zs. f w ∷ zs) (mapped f xs x y e)

-- ---- values that were made, before others
abbrev pub values_then : List seen.Value → seen.Values → seen.Values
values_then [] vs = vs
values_then (v ∷ made) vs = seen.value v (values_then made vs)

pub values_more : (made : List seen.Value) (v : seen.Value) (vs : seen.Values) → values_then (made ++ v ∷ []) vs ≡ values_then made (seen.value v vs)
values_more [] v vs = refl
values_more (w ∷ made) v vs = ap (seen.value w) (values_more made v vs)

abbrev pub options_then : List (Option seen.Value) → seen.Options → seen.Options
options_then [] vs = vs
options_then (None ∷ made) vs = seen.absent (options_then made vs)
options_then (Some v ∷ made) vs = seen.present v (options_then made vs)

pub absent_more : (made : List (Option seen.Value)) (vs : seen.Options) → options_then (made ++ None ∷ []) vs ≡ options_then made (seen.absent vs)
absent_more [] vs = refl
absent_more (None ∷ made) vs = ap seen.absent (absent_more made vs)
absent_more (Some w ∷ made) vs = ap (seen.present w) (absent_more made vs)

pub present_more : (made : List (Option seen.Value)) (v : seen.Value) (vs : seen.Options)
    → options_then (made ++ Some v ∷ []) vs ≡ options_then made (seen.present v vs)
present_more [] v vs = refl
present_more (None ∷ made) v vs = ap seen.absent (present_more made v vs)
present_more (Some w ∷ made) v vs = ap (seen.present w) (present_more made v vs)

abbrev pub ies_then : List (Element seen.Value) → seen.Ies → seen.Ies
ies_then [] ies = ies
ies_then (e ∷ made) ies = seen.ie e.id e.criticality e.body (ies_then made ies)

pub ies_more : (made : List (Element seen.Value)) (e : Element seen.Value) (ies : seen.Ies)
    → ies_then (made ++ e ∷ []) ies ≡ ies_then made (seen.ie e.id e.criticality e.body ies)
ies_more [] e ies = refl
ies_more (f ∷ made) e ies = ap (seen.ie f.id f.criticality f.body) (ies_more made e ies)

pub values_end : (made : List seen.Value) → values_then made seen.no_values ≡ values_of made
values_end [] = refl
values_end (v ∷ made) = ap (seen.value v) (values_end made)

pub options_end : (made : List (Option seen.Value)) → options_then made seen.no_options ≡ options_of made
options_end [] = refl
options_end (None ∷ made) = ap seen.absent (options_end made)
options_end (Some v ∷ made) = ap (seen.present v) (options_end made)

pub ies_end : (made : List (Element seen.Value)) → ies_then made seen.no_ies ≡ ies_of made
ies_end [] = refl
ies_end (e ∷ made) = ap (seen.ie e.id e.criticality e.body) (ies_end made)

pub option_more : (made : List (Option seen.Value)) (o : Option seen.Value) (vs : seen.Options)
    → options_then (made ++ o ∷ []) vs ≡ options_then made (present_if o vs)
option_more made None vs = absent_more made vs
option_more made (Some v) vs = present_more made v vs

-- ---- items of a list of additions
pub items_count : (vs : List trees.Value) → item_count (items_view vs) ≡ length vs
items_count [] = refl
items_count (v ∷ vs) = ap suc (items_count vs)

pub told_from : (vs : List trees.Value) (i : ℕ) (x : trees.Value) → i < length vs → x ≡ get_or vs i x
    → any_told (items_view (drop i vs)) ≡ (not (is_null (json x)) || any_told (items_view (drop (i + 1) vs)))
told_from vs i x lt is =
    ap (λ (ws : List trees.Value). any_told (items_view ws)) (drop_more vs i x lt ∙ ap (λ (y : trees.Value). y ∷ drop (i + 1) vs) (sym is))

are_some : (x : Bool) → x ≡ (true && x && true)
are_some true = refl
are_some false = refl

are_none : (a b : Bool) → false ≡ (a && b && false)
are_none true true = refl
are_none true false = refl
are_none false true = refl
are_none false false = refl

module _ (vs : List trees.Value) where
  abbrev counted : ℕ → Bool → Bool
  counted n b = nat_le 1 n && nat_le n 64 && b

  pub some_told : 1 ≤ length vs → any_told (items_view vs) ≡ true
      → nat_le (length vs) 64 ≡ counted (item_count (items_view vs)) (any_told (items_view vs))
  some_told most h =
      are_some (nat_le (length vs) 64)
      ∙ ap (λ (b : Bool). b && nat_le (length vs) 64 && true) (sym (is_at_most 1 (length vs) most))
      ∙ ap (counted (length vs)) (sym h)
      ∙ ap (λ (n : ℕ). counted n (any_told (items_view vs))) (sym (items_count vs))

  pub none_told : any_told (items_view vs) ≡ false → false ≡ counted (item_count (items_view vs)) (any_told (items_view vs))
  none_told h = are_none (nat_le 1 n) (nat_le n 64) ∙ ap (counted n) (sym h)
    where
      n : ℕ
      n = item_count (items_view vs)
