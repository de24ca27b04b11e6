-- Internal: what each block has, and the packet and the place that follow from it.
use Rattle.std.specs.Prelude.{ℕ, Bool, if◌then◌else◌, List, take, slice_get, Option, Some, None}
use Rattle.pdcp_defs.specs.pool_defs.Pools.{Stored}
use Rattle.packet_pool.specs.declared.contents.Content.{Content}
use Rattle.packet_pool.specs.declared.region.Block.{Block}
use Rattle.packet_pool.specs.inside.Regions.{octets_at}

abbrev pub joined : {X : Type 0} → Option (Option X) → Option X
joined None = None
joined (Some x) = x

-- what a block has, if it is used
abbrev pub content_at : List (Option Content) → ℕ → Option Content
content_at contents n = joined (slice_get contents n)

abbrev pub stored_from : List ℕ → Option Content → Option Stored
stored_from octets None = None
stored_from octets (Some c) = Some (record { key = c.key; bytes = take c.len octets })

-- the packet in a block
unfoldable pub stored_in : List Block → List (Option Content) → ℕ → Option Stored
stored_in blocks contents n = stored_from (octets_at blocks n) (content_at contents n)

abbrev pub place_from : ℕ → Option Content → Option ℕ
place_from n None = None
place_from n (Some c) = if c.parked then Some n else None

-- a parked block is its own place
unfoldable pub place_in : List (Option Content) → ℕ → Option ℕ
place_in contents n = place_from n (content_at contents n)

abbrev pub marked : Bool → Option Content → Option Content
marked parked None = None
marked parked (Some c) = Some (record c { parked = parked })
