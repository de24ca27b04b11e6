-- Where a COUNT stands: in a list of packets, on a tunnel, at a context.
use Rattle.std.specs.Prelude.{◌≡◌, ◌⊎◌, ℕ, Bool, true, List, [], ◌∷◌, is_some}
use Rattle.std.specs.Ordering.{nat_cmp}
use Rattle.tables.specs.Tables.{find}
use Rattle.bearer_defs.specs.uplink_defs.Models.{Item, numbered, end_marker, uplink_tunnel, Member}
use Rattle.bearer_defs.specs.uplink_defs.Assumptions.{IsOpen}

-- a packet with this COUNT is one of them
abbrev pub has : List (ℕ × List ℕ) → ℕ → Bool
has packets count = is_some (find nat_cmp packets count)

unfoldable pub Stands : ℕ → List Item → Type 0
Stands i [] = ⊥
Stands i (numbered count packet ∷ items) = (i ≡ count) ⊎ Stands i items
Stands i (end_marker ∷ items) = Stands i items

-- it stands on an open tunnel of this context, or is stored there and the terminal is there
abbrev pub IsOnTunnel : Member → ℕ → Type 0
IsOnTunnel m i = Stands i m.forwarded ⊎ ((teid : ℕ) × IsOpen m (uplink_tunnel teid) × Stands i (m.uplink teid))

abbrev pub IsAt : (station x : ℕ) → Member → ℕ → Type 0
IsAt station x m i = (m.is_there ≡ true) × (IsOnTunnel m i ⊎ ((x ≡ station) × (has m.bearer.receiver.stored i ≡ true)))
