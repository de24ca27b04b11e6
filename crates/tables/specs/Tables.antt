-- A table as the list of its entries in key order, and what the calls of a table give. `R` compares the keys.
use Rattle.std.specs.Prelude.{◌≡◌, not, List, [], ◌∷◌, Option, Some, None, unwrap_or, if◌then◌else◌}
use Rattle.std.specs.declared.cmp.Ordering.{Ordering}
use Rattle.std.specs.declared.cmp.Ordering.TheVariants.{Equal}
use Rattle.std.specs.Ordering.{is_lt}
use Rattle.std.specs.Cmp.{IsTotalOrder}
use Rattle.std.specs.List.{filter}
use Rattle.std.specs.List.Sorted.{IsStrictlySortedBy}
use Rattle.std.specs.Map.{lookup, keys_of}
use Rattle.std.specs.BTreeMap.{is_at, insert_entry}

module _ {K X : Type 0} (R : K → K → Ordering) where
  -- the value at the key k
  unfoldable pub find : List (K × X) → K → Option X
  find m k = lookup (is_at (R k)) m

  -- with the value v at the key k: in the place of the value that stands there, or else between the keys below and above k
  unfoldable pub put : List (K × X) → K → X → List (K × X)
  put m k v = insert_entry R m k v

  -- without the key k
  unfoldable pub without : List (K × X) → K → List (K × X)
  without m k = filter (λ e. not (is_at (R k) e.0)) m

  -- the first entry whose key is above k
  unfoldable pub entry_after : List (K × X) → K → Option (K × X)
  entry_after [] k = None
  entry_after (e ∷ es) k = if is_lt (R k e.0) then Some e else entry_after es k

  -- each key is below those after it
  abbrev pub IsSorted : List (K × X) → Type 0
  IsSorted m = IsStrictlySortedBy R (keys_of m)

unfoldable pub first_entry : {K X : Type 0} → List (K × X) → Option (K × X)
first_entry [] = None
first_entry (e ∷ es) = Some e

-- an order that distinguishes all keys
pub record IsKeyOrder {K : Type 0} (R : K → K → Ordering) : Type 0 where
  pub total : IsTotalOrder R
  pub exact : (x y : K) → R x y ≡ Equal → x ≡ y

-- the value at the key k, or d where there is none
unfoldable pub at : {K X : Type 0} → (K → K → Ordering) → X → List (K × X) → K → X
at R d m k = unwrap_or (find R m k) d

-- f of each value
unfoldable pub map_values : {K X Y : Type 0} → (X → Y) → List (K × X) → List (K × Y)
map_values f [] = []
map_values f (e ∷ es) = (e.0, f e.1) ∷ map_values f es
