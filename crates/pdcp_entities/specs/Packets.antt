-- The packets of an entity in the pool: each lies at a place of its own, and each call leaves all others as they are.
use Rattle.std.specs.Prelude.{◌≡◌, ℕ, List, [], ◌∷◌, Option, Some, None, IsSome}
use Rattle.std.specs.Ordering.{nat_cmp}
use Rattle.std.specs.List.{AllByRecursion}
use Rattle.tables.specs.Tables.{find, map_values}
use Rattle.pdcp_defs.specs.pool_defs.Pools.{Stored, PoolState, packet_of, packet_at, with_packet, without_packet, with_place, without_place, AreApart}

-- each entry's place holds a packet of this pool, and no place is that of two entries
pub record AreParked (p : PoolState) (es : List (ℕ × ℕ)) : Type 0 where
  pub there : AllByRecursion (λ e. IsSome (packet_at p e.1)) es
  pub apart : AreApart es

-- none of the entries has this place
abbrev pub HasNone : List (ℕ × ℕ) → ℕ → Type 0
HasNone es place = AllByRecursion (λ e. e.1 ≡ place → ⊥) es

-- ---- octets

abbrev pub bytes_of : Option Stored → List ℕ
bytes_of None = []
bytes_of (Some packet) = packet.bytes

abbrev pub octets_at : PoolState → ℕ → List ℕ
octets_at p place = bytes_of (packet_at p place)

-- entries with the octets in place of the places
unfoldable pub octets_in : PoolState → List (ℕ × ℕ) → List (ℕ × List ℕ)
octets_in p es = map_values (octets_at p) es

-- ---- what a call leaves

-- Each reference but the one that was given, each place but those of these entries, and each quota is as before. With the
-- packets stay their keys.
pub record OthersStay (given : Option ℕ) (es : List (ℕ × ℕ)) (old new : PoolState) : Type 0 where
  pub references : (r : ℕ) → (given ≡ Some r → ⊥) → packet_of new r ≡ packet_of old r
  pub places : (place : ℕ) → HasNone es place → packet_at new place ≡ packet_at old place
  pub quotas : new.quotas ≡ old.quotas

-- the packet of a reference is parked at a place that was free
pub record Parks (r : ℕ) (e : ℕ × ℕ) (old new : PoolState) : Type 0 where
  pub free : packet_at old e.1 ≡ None
  pub pool : new ≡ with_place old e.1 r
  pub packet : packet_at new e.1 ≡ packet_of old r
  pub others : OthersStay (Some r) (e ∷ []) old new

-- a packet is put into the pool, and parked at a place that was free
pub record Puts (stored : Stored) (e : ℕ × ℕ) (old new : PoolState) : Type 0 where
  pub reference : ℕ
  pub unused : find nat_cmp old.refs reference ≡ None
  pub free : packet_at old e.1 ≡ None
  pub pool : new ≡ with_place (with_packet old reference stored) e.1 reference
  pub packet : packet_at new e.1 ≡ Some stored
  pub others : OthersStay None (e ∷ []) old new

-- the reference at a place is taken out
pub record Unparks (r : ℕ) (e : ℕ × ℕ) (old new : PoolState) : Type 0 where
  pub pool : new ≡ without_place old e.1
  pub packet : packet_of new r ≡ packet_at old e.1
  pub gone : packet_at new e.1 ≡ None
  pub others : OthersStay (Some r) (e ∷ []) old new

-- the packet at a place is given up
abbrev pub freed_by : PoolState → ℕ → Option ℕ → PoolState
freed_by p place None = p
freed_by p place (Some r) = without_packet (without_place p place) r

unfoldable pub freed : PoolState → ℕ → PoolState
freed p place = freed_by p place (find nat_cmp p.parked place)

abbrev pub all_freed : PoolState → List (ℕ × ℕ) → PoolState
all_freed p [] = p
all_freed p (e ∷ es) = all_freed (freed p e.1) es

-- the packets of these entries are given up
pub record Frees (es : List (ℕ × ℕ)) (old new : PoolState) : Type 0 where
  pub pool : new ≡ all_freed old es
  pub gone : AllByRecursion (λ e. packet_at new e.1 ≡ None) es
  pub others : OthersStay None es old new
