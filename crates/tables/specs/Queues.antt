-- A queue as a list, the oldest item first.
use Rattle.std.specs.Prelude.{◌≡◌, List, [], ◌∷◌, Option, Some, None}

abbrev pub first_item : {T : Type 0} → List T → Option T
first_item [] = None
first_item (x ∷ xs) = Some x

-- the oldest item is out; an empty queue stays as it is
abbrev pub TakesFirst : {T : Type 0} → List T → List T → Option T → Type 0
TakesFirst old new (Some x) = old ≡ x ∷ new
TakesFirst old new None = (old ≡ []) × (new ≡ [])
