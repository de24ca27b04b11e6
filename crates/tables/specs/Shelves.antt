-- Internal: a shelf as its index, from keys to slots, and what stands in the slots.
use Rattle.std.specs.Prelude.{◌≡◌, ℕ, List, [], ◌∷◌, Option, Some, None, IsSome}
use Rattle.std.specs.declared.cmp.Ordering.{Ordering}
use Rattle.std.specs.List.{AllByRecursion}
use Rattle.tables.specs.Tables.{IsSorted}

-- an entry before others, where its slot isn't empty
abbrev pub seen_one : {K V : Type 0} → K → Option V → List (K × V) → List (K × V)
seen_one k None rest = rest
seen_one k (Some v) rest = (k, v) ∷ rest

-- the entries: f gives what stands in a slot
unfoldable pub seen : {K V : Type 0} → (ℕ → Option V) → List (K × ℕ) → List (K × V)
seen f [] = []
seen f (e ∷ es) = seen_one e.0 (f e.1) (seen f es)

abbrev pub HasOtherSlot : {K : Type 0} → ℕ → List (K × ℕ) → Type 0
HasOtherSlot s es = AllByRecursion (λ e. e.1 ≡ s → ⊥) es

-- each key has a slot of its own
abbrev pub HaveOwnSlots : {K : Type 0} → List (K × ℕ) → Type 0
HaveOwnSlots [] = Unit {0}
HaveOwnSlots (e ∷ es) = HasOtherSlot e.1 es × HaveOwnSlots es

-- in each slot of the index stands a value
abbrev pub AreFull : {K V : Type 0} → (ℕ → Option V) → List (K × ℕ) → Type 0
AreFull f es = AllByRecursion (λ e. IsSome (f e.1)) es

pub record IsShelf {K V : Type 0} (R : K → K → Ordering) (f : ℕ → Option V) (index : List (K × ℕ)) : Type 0 where
  pub sorted : IsSorted R index
  pub full : AreFull f index
  pub apart : HaveOwnSlots index
