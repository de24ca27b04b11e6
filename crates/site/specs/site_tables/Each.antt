-- What is done to the values of a table at some keys.
use Rattle.std.specs.Prelude.{List, [], ◌∷◌, Option, Some, None}
use Rattle.std.specs.declared.cmp.Ordering.{Ordering}
use Rattle.tables.specs.Tables.{find, put}

module _ {K X : Type 0} (R : K → K → Ordering) (f : X → X) where
  -- f of what stands at the key k
  abbrev pub one_at : List (K × X) → K → Option X → List (K × X)
  one_at m k None = m
  one_at m k (Some x) = put R m k (f x)

  -- f of what stands at these keys
  abbrev pub each_at : List K → List (K × X) → List (K × X)
  each_at [] m = m
  each_at (k ∷ ks) m = each_at ks (one_at m k (find R m k))
