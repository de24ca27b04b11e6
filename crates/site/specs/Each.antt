-- What is so of each value of a table.
use Rattle.std.specs.Prelude.{◌≡◌, List, Some}
use Rattle.std.specs.declared.cmp.Ordering.{Ordering}
use Rattle.tables.specs.Tables.{find}

abbrev pub EachIs : {K X : Type 0} → (K → K → Ordering) → (X → Type 0) → List (K × X) → Type 0
EachIs {K = K} {X = X} R P m = (k : K) (x : X) → find R m k ≡ Some x → P x
