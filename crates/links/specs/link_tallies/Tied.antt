-- The tallies are those of links: sums over the links, of how many of their items are of a bearer and direction, and how many show a
-- COUNT. `items_in` gives the items of a link.
use Rattle.std.specs.Prelude.{◌≡◌, ◌==◌, ℕ, ◌+◌, Bool, false, ◌&&◌, if◌then◌else◌, List, [], ◌∷◌, Option, Some, None, sum_by}
use Rattle.std.specs.Ordering.{eq_by_cmp}
use Rattle.std.specs.Map.{values_of}
use Rattle.gnb_types.specs.declared.keys.EntityKey.{EntityKey}
use Rattle.gnb_types.specs.Orders.{entity_cmp}
use Rattle.transport_defs.specs.declared.Item.{Item}
use Rattle.links.specs.link_tallies.Tallies.{Tallies, number, times}

abbrev pub one_if : Bool → ℕ
one_if b = if b then 1 else 0

abbrev pub is_count : Option ℕ → ℕ → Bool
is_count None c = false
is_count (Some d) c = d == c

abbrev pub is_of_key : {X : Type 0} → EntityKey → Item X → ℕ
is_of_key key item = one_if (eq_by_cmp entity_cmp item.key key)

abbrev pub shows : {X : Type 0} → EntityKey → ℕ → Item X → ℕ
shows key c item = one_if (eq_by_cmp entity_cmp item.key key && is_count item.count c)

-- a sum over items, and over all links
abbrev pub weight : {X : Type 0} → (Item X → ℕ) → List (Item X) → ℕ
weight w [] = 0
weight w (item ∷ items) = w item + weight w items

abbrev pub total : {K V X : Type 0} → (V → List (Item X)) → (Item X → ℕ) → List (K × V) → ℕ
total items_in w links = sum_by (λ v. weight w (items_in v)) (values_of links)

pub record AreTallies {K V X : Type 0} (items_in : V → List (Item X)) (t : Tallies) (links : List (K × V)) : Type 0 where
  pub numbers : (key : EntityKey) → number t key ≡ total items_in (is_of_key key) links
  pub counts : (key : EntityKey) (c : ℕ) → times t key c ≡ total items_in (shows key c) links
