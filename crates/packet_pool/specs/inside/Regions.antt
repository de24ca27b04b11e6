-- Internal: the region as its blocks and the list of the free ones, read along their first octets.
use Rattle.std.specs.Prelude.{ℕ, zero, suc, ◌<◌, ◌≤◌, List, [], ◌∷◌, length, slice_get, Option, Some, None}
use Rattle.std.specs.List.{AllByRecursion}
use Rattle.std.specs.Int.{from_le_bytes, w32}
use Rattle.packet_pool.specs.declared.region.Block.{Block}

unfoldable pub link : List ℕ → ℕ
link octets = from_le_bytes w32 octets

abbrev pub octets_of : Option Block → List ℕ
octets_of None = []
octets_of (Some b) = b.octets

-- the octets of a block, none past the last one
abbrev pub octets_at : List Block → ℕ → List ℕ
octets_at blocks n = octets_of (slice_get blocks n)

-- so many free blocks from the first one on
unfoldable pub chain : List Block → ℕ → ℕ → List ℕ
chain blocks first zero = []
chain blocks first (suc n) = first ∷ chain blocks (link (octets_at blocks first)) n

unfoldable pub numbers_from : ℕ → ℕ → List ℕ
numbers_from first zero = []
numbers_from first (suc n) = first ∷ numbers_from (suc first) n

pub record RegionState : Type 0 where
  pub blocks : List Block
  pub free : List ℕ

pub record IsRegion (blocks : List Block) (first free : ℕ) : Type 0 where
  pub within : AllByRecursion (λ n. n < length blocks) (chain blocks first free)
  pub limit : length blocks ≤ 65536
