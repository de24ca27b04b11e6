-- Internal: one read of a line reader.
use Rattle.std.specs.Prelude.{◌≡◌, ◌<◌, ℕ, List, take, Option, Result, Ok, Err}
use Rattle.std.specs.Io.KnownBytes.{Consumes, IsAtEnd, Keeps}

-- A read of so many bytes into the front of a piece: it took the front that it filled, and filled none only at the end.
-- Where it failed, it took nothing.
abbrev pub FillsFront : {E : Type 0} → Option (List ℕ) → Option (List ℕ) → ℕ → Result ℕ E → List ℕ
    → Type 0
FillsFront left0 left1 wanted (Ok count) piece = Consumes left0 left1 (take count piece)
    × (count ≡ 0 → 0 < wanted → IsAtEnd left1)
FillsFront left0 left1 wanted (Err e) piece = Keeps left0 left1
