-- Tunnel endpoint identifiers (TS 29.281, 3.1): a node gives 1, 2, 3 and so on, and never one again.
use Rattle.std.specs.Prelude.{◌==◌, ℕ, ◌+◌, ◌-◌, ◌^◌, Bool, not, ◌&&◌, nat_le, if◌then◌else◌, List, [], ◌∷◌}
use Rattle.std.specs.Ordering.{nat_cmp}
use Rattle.tables.specs.Tables.{without}

abbrev pub last_teid : ℕ
last_teid = 2 ^ 32 - 1

abbrev pub teids_are_left : ℕ → ℕ → Bool
teids_are_left next count = not (next == 0) && nat_le (next + count - 1) last_teid

abbrev pub teid_after : ℕ → ℕ → ℕ
teid_after next count = if next + count - 1 == last_teid then 0 else next + count

-- those that are closed are given back
abbrev pub without_each : {X : Type 0} → List (ℕ × X) → List ℕ → List (ℕ × X)
without_each table [] = table
without_each table (teid ∷ teids) = without_each (without nat_cmp table teid) teids
