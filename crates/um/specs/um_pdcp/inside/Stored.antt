-- Internal: the first of what is stored, and what is handed up from it.
use Rattle.std.specs.Prelude.{◌==◌, ℕ, nat_lt, if◌then◌else◌, List, [], ◌∷◌, drop, Option, Some, None}

abbrev pub first_count : {X : Type 0} → List (ℕ × X) → Option ℕ
first_count [] = None
first_count (e ∷ es) = Some e.0

-- the first packet, if its COUNT is this one
abbrev pub first_at : {X : Type 0} → ℕ → List (ℕ × X) → Option (ℕ × X)
first_at count [] = None
first_at count (e ∷ es) = if e.0 == count then Some e else None

-- the first packet, if its COUNT is below this one
abbrev pub first_below : {X : Type 0} → ℕ → List (ℕ × X) → Option (ℕ × X)
first_below count [] = None
first_below count (e ∷ es) = if nat_lt e.0 count then Some e else None

-- what is left where this was taken out
abbrev pub left_by : {X : Type 0} → Option (ℕ × X) → List (ℕ × X) → List (ℕ × X)
left_by None es = es
left_by (Some e) es = drop 1 es

-- those below a COUNT, up to the first that isn't, and the others
abbrev pub below : {X : Type 0} → ℕ → List (ℕ × X) → List (ℕ × X)
below count [] = []
below count (e ∷ es) = if nat_lt e.0 count then e ∷ below count es else []

abbrev pub from : {X : Type 0} → ℕ → List (ℕ × X) → List (ℕ × X)
from count [] = []
from count (e ∷ es) = if nat_lt e.0 count then from count es else e ∷ es
