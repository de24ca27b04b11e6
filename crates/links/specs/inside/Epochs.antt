-- Internal: a list of epochs, one for each terminal, as the table of those that are connected.
use Rattle.std.specs.Prelude.{ℕ, ◌+◌, List, [], ◌∷◌, Option, Some, None}
use Rattle.gnb_types.specs.declared.names.UeId.{UeId}

abbrev pub ue_at : ℕ → UeId
ue_at n = record { 0 = n }

abbrev pub entry_before : ℕ → Option ℕ → List (UeId × ℕ) → List (UeId × ℕ)
entry_before n None rest = rest
entry_before n (Some epoch) rest = (ue_at n, epoch) ∷ rest

-- the epochs of terminal n and those after it
unfoldable pub entries : ℕ → List (Option ℕ) → List (UeId × ℕ)
entries n [] = []
entries n (epoch ∷ epochs) = entry_before n epoch (entries (n + 1) epochs)
