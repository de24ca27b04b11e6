-- The pool of packets: each packet under its key, by a reference. A reference is held by who was given it, or lies at a parked
-- place. A key has a quota, which its packets never pass; the quotas together never pass the blocks.
use Rattle.std.specs.Prelude.{◌≡◌, ◌==◌, ℕ, ◌≤◌, Bool, List, [], ◌∷◌, length, Option, Some, None, IsSome, if◌then◌else◌}
use Rattle.std.specs.Ordering.{nat_cmp, eq_by_cmp}
use Rattle.std.specs.List.{count_by, sum, list_any, AllByRecursion}
use Rattle.std.specs.Map.{values_of}
use Rattle.gnb_types.specs.declared.keys.EntityKey.{EntityKey}
use Rattle.gnb_types.specs.Orders.{entity_cmp}
use Rattle.tables.specs.Tables.{find, put, without, at, IsSorted}

-- the bytes of a packet, and the bearer and direction that it is of
pub record Stored : Type 0 where
  pub key : EntityKey
  pub bytes : List ℕ

pub record PoolState : Type 0 where
  pub blocks : ℕ
  pub quotas : List (EntityKey × ℕ)
  pub refs : List (ℕ × Stored)  -- the packet of each reference
  pub parked : List (ℕ × ℕ)  -- the reference at each parked place

-- ---- what is read of a pool

unfoldable pub quota : PoolState → EntityKey → ℕ
quota p key = at entity_cmp 0 p.quotas key

abbrev pub is_of : EntityKey → Stored → Bool
is_of key packet = eq_by_cmp entity_cmp packet.key key

-- how many references of a key there are, parked ones too
unfoldable pub used : PoolState → EntityKey → ℕ
used p key = count_by (is_of key) (values_of p.refs)

-- the quotas together
unfoldable pub reserved : PoolState → ℕ
reserved p = sum (values_of p.quotas)

unfoldable pub is_parked : PoolState → ℕ → Bool
is_parked p r = list_any (λ e. e.1 == r) p.parked

-- the packet of a reference that is held: it is of this pool, and at no place
unfoldable pub packet_of : PoolState → ℕ → Option Stored
packet_of p r = if is_parked p r then None else find nat_cmp p.refs r

abbrev pub packet_by : PoolState → Option ℕ → Option Stored
packet_by p None = None
packet_by p (Some r) = find nat_cmp p.refs r

-- the packet at a parked place
unfoldable pub packet_at : PoolState → ℕ → Option Stored
packet_at p place = packet_by p (find nat_cmp p.parked place)

-- ---- what the calls leave

abbrev pub new_pool : ℕ → PoolState
new_pool blocks = record { blocks = blocks; quotas = []; refs = []; parked = [] }

abbrev pub with_quota : PoolState → EntityKey → ℕ → PoolState
with_quota p key n = record p { quotas = put entity_cmp p.quotas key n }

abbrev pub without_quota : PoolState → EntityKey → PoolState
without_quota p key = record p { quotas = without entity_cmp p.quotas key }

-- a packet is put under a reference
abbrev pub with_packet : PoolState → ℕ → Stored → PoolState
with_packet p r packet = record p { refs = put nat_cmp p.refs r packet }

-- a reference is spent
abbrev pub without_packet : PoolState → ℕ → PoolState
without_packet p r = record p { refs = without nat_cmp p.refs r }

-- a reference is laid at a place
abbrev pub with_place : PoolState → ℕ → ℕ → PoolState
with_place p place r = record p { parked = put nat_cmp p.parked place r }

-- the reference at a place is given back
abbrev pub without_place : PoolState → ℕ → PoolState
without_place p place = record p { parked = without nat_cmp p.parked place }

-- ---- what is always so

-- no two entries have one reference
abbrev pub AreApart : List (ℕ × ℕ) → Type 0
AreApart [] = Unit {0}
AreApart (e ∷ es) = AllByRecursion (λ x. x.1 ≡ e.1 → ⊥) es × AreApart es

pub record IsPool (limit : ℕ) (p : PoolState) : Type 0 where
  pub refs_sorted : IsSorted nat_cmp p.refs
  pub places_sorted : IsSorted nat_cmp p.parked
  pub quotas_sorted : IsSorted entity_cmp p.quotas
  pub live : AllByRecursion (λ e. IsSome (find nat_cmp p.refs e.1)) p.parked
  pub apart : AreApart p.parked
  pub within : (key : EntityKey) → used p key ≤ quota p key
  pub fits : reserved p ≤ p.blocks
  pub sized : AllByRecursion (λ e. length e.1.bytes ≤ limit) p.refs
