-- A context that ends: nothing is left on its tunnels, and those that send on to it have ended.
use Rattle.std.specs.Prelude.{◌≡◌, ◌≢◌, ℕ, Bool, true, false, [], Option, Some, None}
use Rattle.unit_defs.specs.CuUpRecords.{SourceHop}
use Rattle.unit_defs.specs.CuUpBearers.{no_uplink}
use Rattle.bearer_defs.specs.chain_defs.Models as down
use Rattle.bearer_defs.specs.uplink_defs.Models.{Model, uplink_tunnel}
use Rattle.bearer_defs.specs.uplink_defs.Orders.{is_hop_up_done}
use Rattle.bearer_defs.specs.uplink_defs.Assumptions.{IsOpen}
use Rattle.bearer_defs.specs.uplink_defs.Places.{Stands}

-- its N3 is closed, and the hop from its source has ended
abbrev pub IsDoneDown : down.Member → Type 0
IsDoneDown m = (m.is_there ≡ true) × (down.is_open m.bearer.n3 ≡ false) × (down.is_fed m ≡ false)

pub record EndsDown (s : down.Model) (x : ℕ) : Type 0 where
  pub empty : (s.members x).forwarded ≡ []
  pub elsewhere : (x ≢ s.station) × (x ≢ s.path)
  -- those that send on to it
  pub before : (y : ℕ) → (s.members y).is_there ≡ true → (s.members y).flags.frozen ≡ true → (s.members y).next_hop ≡ x
      → IsDoneDown (s.members y)

-- the End Marker was put on the tunnel to the target
abbrev pub has_ended_up : Option SourceHop → Bool
has_ended_up None = false
has_ended_up (Some hop) = hop.up_ended

pub record EndsUp (s : Model) (x : ℕ) : Type 0 where
  pub no_forwarded : (i : ℕ) → Stands i (s.members x).forwarded → ⊥
  pub no_uplink_open : (teid : ℕ) → IsOpen (s.members x) (uplink_tunnel teid) → ⊥
  pub elsewhere : x ≢ s.station
  -- those that send on to it
  pub before : (y : ℕ) → (s.members y).is_there ≡ true → (s.members y).flags.frozen ≡ true → (s.members y).next_hop ≡ x
      → (has_ended_up (s.members y).bearer.hop ≡ true) × (no_uplink (s.members y).bearer.uplinks ≡ true)
      × (is_hop_up_done (s.members y).flags (s.members y).bearer ≡ true)
