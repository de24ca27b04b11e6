-- How much JSON there is: what is inside is less.
use Rattle.std.proofs.Common.{◌≡◌, ℕ, zero, suc, ◌+◌, ◌<◌, ◌≤◌, List, [], ◌∷◌, length, get_or, Bool, true, false, cond, Option, Some, None, Ordering, Less, Equal, Greater, Vec, BTreeMap, String, Global, refl, sym, ap, subst, ◌∙◌, arith}
use Rattle.std.proofs.lemmas.Option.{same_Some}
use Rattle.std.specs.Ordering.{nat_cmp, match_ordering}
use Rattle.std.specs.Cmp.Lexicographic.{slice_cmp}
use Rattle.serde_json.specs.Data.{Data, null, boolean, number, string, array, object, Items, no_items, item, Members, no_members, member}
use Rattle.serde_json.specs.Find.{get_member}
use Rattle.serde_json.specs.declared.value.Value.{Value}
use Rattle.serde_json.specs.declared.value.Value.{Array, Object}
use Rattle.serde_json.specs.View.{view, items_view, members_view}
use Rattle.json_defs.specs.Members.{dots, outcomes}
use Rattle.json_defs.specs.Readings.{first_of, numbered, outcome_in}
use Rattle.serde_json.proofs.Views.{view-Array, view-Object}

abbrev mutual
  pub weight : Data → ℕ
  weight null = 1
  weight (boolean b) = 1
  weight (number n) = 1
  weight (string s) = 1
  weight (array ds) = suc (items_weight ds)
  weight (object ms) = suc (members_weight ms)

  pub items_weight : Items → ℕ
  items_weight no_items = 0
  items_weight (item d ds) = weight d + items_weight ds

  pub members_weight : Members → ℕ
  members_weight no_members = 0
  members_weight (member k d ms) = weight d + members_weight ms

by_order : (o : Ordering) (d e : Data) (rest : Option Data) (n : ℕ) → match_ordering o rest (Some e) rest ≡ Some d
    → (rest ≡ Some d → weight d ≤ n) → weight d ≤ weight e + n
by_order Less d e rest n h again = omega (arith, again h)
by_order Equal d e rest n h again = let same : e ≡ d = cc in subst (λ (x : Data). weight x ≤ weight e + n) same (omega arith)
by_order Greater d e rest n h again = omega (arith, again h)

pub member_light : (name : List ℕ) (ms : Members) (d : Data) → get_member name ms ≡ Some d → weight d ≤ members_weight ms
member_light name no_members d h = cc
member_light name (member k e ms) d h =
    by_order (slice_cmp nat_cmp name k) d e (get_member name ms) (members_weight ms) h (member_light name ms d)

pub item_light : (vs : List Value) (i : ℕ) (v : Value) → i < length vs → v ≡ get_or vs i v → weight (view v) ≤ items_weight (items_view vs)
item_light [] i v lt is = absurd (omega arith)
item_light (x ∷ vs) zero v lt is =
    subst (λ (y : Value). weight (view y) ≤ weight (view x) + items_weight (items_view vs)) (sym is) (omega arith)
item_light (x ∷ vs) (suc i) v lt is = omega (arith, item_light vs i v (omega arith) is)

-- ---- a tree of `serde_json` that is a list or an object
pub seen_array : (d : Value) (v : Vec Value Global) (vs : List Value) → d ≡ Array v → vs ≡ v.items → view d ≡ array (items_view vs)
seen_array d v vs e g = ap view e ∙ view-Array v ∙ ap (λ (ws : List Value). array (items_view ws)) (sym g)

pub array_weight : (d : Value) (v : Vec Value Global) (vs : List Value) → d ≡ Array v → vs ≡ v.items
    → weight (view d) ≡ suc (items_weight (items_view vs))
array_weight d v vs e g = ap weight (seen_array d v vs e g)

pub seen_object : (d : Value) (m : BTreeMap (String Global) Value) → d ≡ Object m → view d ≡ object (members_view m.entries)
seen_object d m e = ap view e ∙ view-Object m

pub object_weight : (d : Value) (m : BTreeMap (String Global) Value) → d ≡ Object m
    → weight (view d) ≡ suc (members_weight (members_view m.entries))
object_weight d m e = ap weight (seen_object d m e)

-- ---- the outcome of a message
by_first : (name : List ℕ) (names : List (List ℕ)) (i : ℕ) (ms : Members) (o : Option Data) (index : ℕ) (d : Data) → get_member name ms ≡ o
    → (Some (index, d) ≡ outcome_in names (suc i) ms → weight d ≤ members_weight ms)
    → Some (index, d) ≡ first_of (numbered i o) (outcome_in names (suc i) ms) → weight d ≤ members_weight ms
by_first name names i ms None index d e again h = again h
by_first name names i ms (Some x) index d e again h =
    let same : x ≡ d = sym (ap (λ (q : ℕ × Data). q.1) (same_Some _ _ h)) in member_light name ms d (e ∙ ap Some same)

outcomes_light : (names : List (List ℕ)) (i : ℕ) (ms : Members) (index : ℕ) (d : Data) → Some (index, d) ≡ outcome_in names i ms
    → weight d ≤ members_weight ms
outcomes_light [] i ms index d h = cc
outcomes_light (name ∷ names) i ms index d h =
    by_first name names i ms (get_member name ms) index d refl (outcomes_light names (suc i) ms index d) h

pub outcome_light : (ms : Members) (index : ℕ) (d : Data) → Some (index, d) ≡ outcome_in outcomes 0 ms → weight d ≤ members_weight ms
outcome_light ms index d h = outcomes_light outcomes 0 ms index d h

pub additions_light : (e : Bool) (ms : Members) (d : Data) → Some d ≡ cond e (get_member dots ms) None → weight d ≤ members_weight ms
additions_light true ms d h = member_light dots ms d (sym h)
additions_light false ms d h = cc
