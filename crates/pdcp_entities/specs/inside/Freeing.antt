-- Internal: packets that are given up one after another.
use Rattle.std.specs.Prelude.{◌≡◌, ℕ, List, [], ◌∷◌, Option, Some, None}
use Rattle.pdcp_defs.specs.pool_defs.Pools.{PoolState, packet_at}
use Rattle.pdcp_entities.specs.Packets.{HasNone, OthersStay, freed, all_freed}

abbrev pub freed_if : PoolState → Option ℕ → PoolState
freed_if p None = p
freed_if p (Some place) = freed p place

-- of all entries that are to be given up, these are left; what the pool was at first, and what it is
pub record AreLeft (all left : List (ℕ × ℕ)) (first now : PoolState) : Type 0 where
  pub others : OthersStay None all first now
  pub rest : (place : ℕ) → HasNone all place → HasNone left place
  pub gone : (place : ℕ) → HasNone left place → (HasNone all place → ⊥) → packet_at now place ≡ None
  pub freed : all_freed now left ≡ all_freed first all
