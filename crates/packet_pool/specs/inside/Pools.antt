-- Internal: the pool as its region, what each block has, and the accounts.
use Rattle.std.specs.Prelude.{◌≡◌, ◌==◌, ℕ, zero, suc, ◌+◌, ◌≤◌, List, [], ◌∷◌, length, slice_get, Option, Some, None, IfSome}
use Rattle.std.specs.List.{count_by}
use Rattle.std.specs.Map.{values_of}
use Rattle.gnb_types.specs.declared.keys.EntityKey.{EntityKey}
use Rattle.gnb_types.specs.Orders.{entity_cmp}
use Rattle.tables.specs.Tables.{at, IsSorted}
use Rattle.pdcp_defs.specs.pool_defs.Pools.{Stored, PoolState, is_of}
use Rattle.packet_pool.specs.declared.contents.Content.{Content}
use Rattle.packet_pool.specs.inside.Contents.{content_at, stored_in, place_in}
use Rattle.packet_pool.specs.declared.region.Block.{Block}
use Rattle.packet_pool.specs.inside.Regions.{RegionState}
use Rattle.packet_pool.specs.inside.Accounts.{AccountsState, total}

-- the entries of a table from numbers: those of so many numbers from the first one on that have a value
abbrev pub entry_before : {X : Type 0} → ℕ → Option X → List (ℕ × X) → List (ℕ × X)
entry_before n None rest = rest
entry_before n (Some x) rest = (n, x) ∷ rest

unfoldable pub entries : {X : Type 0} → (ℕ → Option X) → ℕ → ℕ → List (ℕ × X)
entries f first zero = []
entries f first (suc n) = entry_before first (f first) (entries f (suc first) n)

abbrev pub refs_of : List Block → List (Option Content) → List (ℕ × Stored)
refs_of blocks contents = entries (stored_in blocks contents) 0 (length contents)

abbrev pub places_of : List (Option Content) → List (ℕ × ℕ)
places_of contents = entries (place_in contents) 0 (length contents)

abbrev pub state : RegionState → List (Option Content) → AccountsState → PoolState
state region contents accounts = record {
  blocks = length contents;
  quotas = accounts.quotas;
  refs = refs_of region.blocks contents;
  parked = places_of contents;
}

-- how often the list of free blocks names a block: once where nothing is in it
abbrev pub named : Option (Option Content) → ℕ
named None = 0
named (Some None) = 1
named (Some (Some c)) = 0

pub record IsConsistent (region : RegionState) (contents : List (Option Content)) (accounts : AccountsState) : Type 0 where
  -- the list of free blocks names each free block once, and no used one
  pub free_once : (n : ℕ) → count_by (λ m. m == n) region.free ≡ named (slice_get contents n)
  pub sized : length region.blocks ≡ length contents
  pub short : (n : ℕ) → IfSome (content_at contents n) (λ c. c.len ≤ 2048)
  pub counted : (key : EntityKey) → at entity_cmp 0 accounts.used key ≡ count_by (is_of key) (values_of (refs_of region.blocks contents))
  pub whole : total accounts.used + length region.free ≡ length contents
  pub fits : total accounts.quotas ≤ length contents
  pub limit : length contents ≤ 65536
  pub sorted : IsSorted entity_cmp accounts.quotas
  pub within : (key : EntityKey) → at entity_cmp 0 accounts.used key ≤ at entity_cmp 0 accounts.quotas key
