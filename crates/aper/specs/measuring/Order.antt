-- Internal: the rows that may come after an element.
use Rattle.std.specs.Prelude.{◌≡◌, ℕ, List, Option, Some, None, true}
use Rattle.aper_defs.specs.Trees.{Slot, has_slot, slots_before, slots_after, slots_left, mandatory_count}
use Rattle.aper_defs.specs.Membership.{IsInOrder}

-- none where an element with the id may not come; else those that may come after it
abbrev pub LeavesRows : List Slot → ℕ → List Slot → Option (List Slot) → Type 0
LeavesRows known id left None = IsInOrder known left id → ⊥
LeavesRows known id left (Some rest) = IsInOrder known left id × (slots_left known id left ≡ rest)

-- the same of an element that is known
abbrev pub LeavesKnown : ℕ → List Slot → Option (List Slot) → Type 0
LeavesKnown id left None = (has_slot id left ≡ true) → (mandatory_count (slots_before id left) ≡ 0) → ⊥
LeavesKnown id left (Some rest) = (has_slot id left ≡ true) × (mandatory_count (slots_before id left) ≡ 0) × (slots_after id left ≡ rest)
