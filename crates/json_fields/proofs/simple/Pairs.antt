-- Lists of two, and objects of one member.
use Rattle.std.proofs.Common.{◌≡◌, ℕ, suc, List, [], ◌∷◌, length, true, false, Some, None, is_some, refl, ap}
use Rattle.std.specs.Prelude.{slice_get}
use Rattle.serde_json.specs.Data.{array, item, no_items}
use Rattle.serde_json.specs.declared.value.Value.{Value}
use Rattle.serde_json.specs.View.{view, items_view, members_view}
use Rattle.serde_json.proofs.Views.{Entry}
use Rattle.json_defs.specs.Members.{member_count}
use Rattle.json_defs.specs.Demands.{is_past}

pub count_is : (es : List Entry) → member_count (members_view es) ≡ length es
count_is [] = refl
count_is (e ∷ es) = ap suc (count_is es)

pub none_first : (vs : List Value) (room : ℕ) → None ≡ slice_get vs 0 → is_past room (array (items_view vs)) ≡ false
none_first [] room h = refl
none_first (a ∷ vs) room h = cc

pub none_second : (vs : List Value) (room : ℕ) → None ≡ slice_get vs 1 → is_past room (array (items_view vs)) ≡ false
none_second [] room h = refl
none_second (a ∷ []) room h = refl
none_second (a ∷ b ∷ vs) room h = cc

pub third_there : (vs : List Value) (room : ℕ) → is_some (slice_get vs 2) ≡ true → is_past room (array (items_view vs)) ≡ false
third_there [] room h = refl
third_there (a ∷ []) room h = refl
third_there (a ∷ b ∷ []) room h = cc
third_there (a ∷ b ∷ c ∷ vs) room h = refl

pub two_are : (vs : List Value) (a b : Value) → Some a ≡ slice_get vs 0 → Some b ≡ slice_get vs 1 → is_some (slice_get vs 2) ≡ false
    → array (items_view vs) ≡ array (item (view a) (item (view b) no_items))
two_are [] a b h g k = cc
two_are (x ∷ []) a b h g k = cc
two_are (x ∷ y ∷ []) a b h g k = cc
two_are (x ∷ y ∷ z ∷ vs) a b h g k = cc
