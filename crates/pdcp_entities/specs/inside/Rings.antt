-- Internal: COUNTs in a row as slots, each of which holds the place of a packet or nothing.
use Rattle.std.specs.Prelude.{◌≡◌, ℕ, ◌+◌, ◌-◌, ◌<◌, ◌≤◌, List, [], ◌∷◌, ◌++◌, length, replicate, Option, Some, None, IsSome, Bool, true, false}
use Rattle.pdcp_entities.specs.declared.ring.Ring.{Ring}

module _ {X : Type 0} where
  -- a slot with something in it, before others
  abbrev pub with_slot : ℕ → Option X → List (ℕ × X) → List (ℕ × X)
  with_slot count None es = es
  with_slot count (Some x) es = (count, x) ∷ es

  -- what the slots hold, each with its COUNT; the first slot has this one
  abbrev pub held_from : ℕ → List (Option X) → List (ℕ × X)
  held_from count [] = []
  held_from count (slot ∷ slots) = with_slot count slot (held_from (count + 1) slots)

  -- empty slots at the end, up to this length
  abbrev pub padded : List (Option X) → ℕ → List (Option X)
  padded slots n = slots ++ replicate (n - length slots) None

  -- the first slot holds something, if there is one
  abbrev pub IsFirstFull : List (Option X) → Type 0
  IsFirstFull [] = Unit {0}
  IsFirstFull (slot ∷ slots) = IsSome slot

  -- the last slot holds something, if there is one
  abbrev pub IsLastFull : List (Option X) → Type 0
  IsLastFull [] = Unit {0}
  IsLastFull (slot ∷ []) = IsSome slot
  IsLastFull (slot ∷ next ∷ slots) = IsLastFull (next ∷ slots)

  -- a slot that is there and holds nothing
  abbrev pub is_empty_slot : Option (Option X) → Bool
  is_empty_slot None = false
  is_empty_slot (Some None) = true
  is_empty_slot (Some (Some x)) = false

-- what a ring holds
abbrev pub held : Ring → List (ℕ × ℕ)
held r = held_from r.first r.slots.items
