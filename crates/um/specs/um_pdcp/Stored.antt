-- Packets that are stored under their COUNTs.
use Rattle.std.specs.Prelude.{◌≤◌, ℕ, List, [], ◌∷◌, ⊤}
use Rattle.pdcp.specs.Near.{last_count}

-- each COUNT is one that is given
abbrev pub AreGiven : {X : Type 0} → List (ℕ × X) → Type 0
AreGiven [] = ⊤
AreGiven (e ∷ es) = (e.0 ≤ last_count) × AreGiven es
