-- The calls of a pool after its quotas are set, and a run of them. A reference and a place are named by the key and by the number
-- of the put that made the reference, counted for each key: so answers can be compared that say a number of a block or of a place.
use Rattle.std.specs.Prelude.{◌≡◌, ◌==◌, ℕ, ◌+◌, ◌<◌, Bool, ◌&&◌, ◌⊎◌, List, [], ◌∷◌, filter, Option, Some, None, if◌then◌else◌}
use Rattle.std.specs.Ordering.{nat_cmp, eq_by_cmp}
use Rattle.gnb_types.specs.declared.keys.EntityKey.{EntityKey}
use Rattle.gnb_types.specs.Orders.{entity_cmp}
use Rattle.tables.specs.Tables.{find}
use Rattle.pdcp_defs.specs.pool_defs.Pools.{Stored, PoolState, used, quota, packet_of, packet_at, with_packet, without_packet, with_place, without_place, IsPool}

pub data Call : Type 0 where
  put_packet : (key : EntityKey) (bytes : List ℕ) → Call
  show_bytes : (key : EntityKey) (number : ℕ) → Call
  take_ref : (key : EntityKey) (number : ℕ) → Call
  park_ref : (key : EntityKey) (number : ℕ) → Call
  show_parked : (key : EntityKey) (number : ℕ) → Call
  unpark_ref : (key : EntityKey) (number : ℕ) → Call

abbrev pub key_of : Call → EntityKey
key_of (put_packet key bytes) = key
key_of (show_bytes key number) = key
key_of (take_ref key number) = key
key_of (park_ref key number) = key
key_of (show_parked key number) = key
key_of (unpark_ref key number) = key

pub data Answer : Type 0 where
  accepted : Answer  -- the packet is the next one of its key
  refused : Answer  -- the quota is used up
  shown : (bytes : List ℕ) → Answer
  done : Answer
  unnamed : Answer  -- nothing is held, or parked, under this name: the call can't be made

-- what became of a put
pub data Fate : Type 0 where
  held : (r : ℕ) → Fate
  laid : (place : ℕ) → Fate
  spent : Fate

pub record Naming : Type 0 where
  pub made : EntityKey → ℕ  -- how many references a key was given
  pub fate : EntityKey → ℕ → Option Fate

abbrev pub no_names : Naming
no_names = record { made = λ key. 0; fate = λ key number. None }

abbrev pub is_key : EntityKey → EntityKey → Bool
is_key key other = eq_by_cmp entity_cmp other key

abbrev pub with_fate : Naming → EntityKey → ℕ → Fate → EntityKey → ℕ → Option Fate
with_fate names key number fate k n = if is_key key k && n == number then Some fate else names.fate k n

abbrev pub renamed : Naming → EntityKey → ℕ → Fate → Naming
renamed names key number fate = record { made = names.made; fate = with_fate names key number fate }

abbrev pub with_new : Naming → EntityKey → ℕ → Naming
with_new names key r = record {
  made = λ k. if is_key key k then names.made k + 1 else names.made k;
  fate = with_fate names key (names.made key) (held r);
}

-- ---- one call: the pool and the names before it, its answer, and those after it, answers the pool's calls say it

abbrev pub Accepts : PoolState → Naming → EntityKey → List ℕ → Answer → PoolState → Naming → Type 0
Accepts p names key bytes a q after =
    (a ≡ accepted) × (used p key < quota p key) × ((r : ℕ) × ((find nat_cmp p.refs r ≡ None)
    × (q ≡ with_packet p r (record { key = key; bytes = bytes })) × (after ≡ with_new names key r)))

abbrev pub Refuses : PoolState → Naming → EntityKey → Answer → PoolState → Naming → Type 0
Refuses p names key a q after = (a ≡ refused) × (used p key ≡ quota p key) × (q ≡ p) × (after ≡ names)

abbrev pub Idles : PoolState → Naming → Answer → PoolState → Naming → Type 0
Idles p names a q after = (a ≡ unnamed) × (q ≡ p) × (after ≡ names)

abbrev pub ShowsPacket : PoolState → Naming → Option Stored → Answer → PoolState → Naming → Type 0
ShowsPacket p names packet a q after = (x : Stored) × ((packet ≡ Some x) × (a ≡ shown x.bytes) × (q ≡ p) × (after ≡ names))

abbrev pub ShowsHeld : PoolState → Naming → Option Fate → Answer → PoolState → Naming → Type 0
ShowsHeld p names (Some (held r)) a q after = ShowsPacket p names (packet_of p r) a q after
ShowsHeld p names (Some (laid place)) a q after = Idles p names a q after
ShowsHeld p names (Some spent) a q after = Idles p names a q after
ShowsHeld p names None a q after = Idles p names a q after

abbrev pub ShowsLaid : PoolState → Naming → Option Fate → Answer → PoolState → Naming → Type 0
ShowsLaid p names (Some (held r)) a q after = Idles p names a q after
ShowsLaid p names (Some (laid place)) a q after = ShowsPacket p names (packet_at p place) a q after
ShowsLaid p names (Some spent) a q after = Idles p names a q after
ShowsLaid p names None a q after = Idles p names a q after

abbrev pub Takes : PoolState → Naming → EntityKey → ℕ → Option Fate → Answer → PoolState → Naming → Type 0
Takes p names key n (Some (held r)) a q after = (a ≡ done) × (q ≡ without_packet p r) × (after ≡ renamed names key n spent)
Takes p names key n (Some (laid place)) a q after = Idles p names a q after
Takes p names key n (Some spent) a q after = Idles p names a q after
Takes p names key n None a q after = Idles p names a q after

abbrev pub Parks : PoolState → Naming → EntityKey → ℕ → Option Fate → Answer → PoolState → Naming → Type 0
Parks p names key n (Some (held r)) a q after =
    (a ≡ done) × ((place : ℕ) × ((find nat_cmp p.parked place ≡ None) × (q ≡ with_place p place r) × (after ≡ renamed names key n (laid place))))
Parks p names key n (Some (laid place)) a q after = Idles p names a q after
Parks p names key n (Some spent) a q after = Idles p names a q after
Parks p names key n None a q after = Idles p names a q after

abbrev pub Unparks : PoolState → Naming → EntityKey → ℕ → Option Fate → Answer → PoolState → Naming → Type 0
Unparks p names key n (Some (held r)) a q after = Idles p names a q after
Unparks p names key n (Some (laid place)) a q after =
    (a ≡ done) × ((r : ℕ) × ((find nat_cmp p.parked place ≡ Some r) × (q ≡ without_place p place) × (after ≡ renamed names key n (held r))))
Unparks p names key n (Some spent) a q after = Idles p names a q after
Unparks p names key n None a q after = Idles p names a q after

abbrev pub Answers : PoolState → Naming → Call → Answer → PoolState → Naming → Type 0
Answers p names (put_packet key bytes) a q after = Accepts p names key bytes a q after ⊎ Refuses p names key a q after
Answers p names (show_bytes key n) a q after = ShowsHeld p names (names.fate key n) a q after
Answers p names (take_ref key n) a q after = Takes p names key n (names.fate key n) a q after
Answers p names (park_ref key n) a q after = Parks p names key n (names.fate key n) a q after
Answers p names (show_parked key n) a q after = ShowsLaid p names (names.fate key n) a q after
Answers p names (unpark_ref key n) a q after = Unparks p names key n (names.fate key n) a q after

-- ---- a run of calls, and what of it is one key's

abbrev pub Runs : ℕ → PoolState → Naming → List Call → List Answer → Type 0
Runs limit p names [] [] = Unit {0}
Runs limit p names [] (a ∷ answers) = ⊥
Runs limit p names (c ∷ cs) [] = ⊥
Runs limit p names (c ∷ cs) (a ∷ answers) =
    (q : PoolState) × ((after : Naming) × (IsPool limit p × Answers p names c a q after × Runs limit q after cs answers))

abbrev pub own_calls : EntityKey → List Call → List Call
own_calls key cs = filter (λ c. is_key key (key_of c)) cs

abbrev pub own_answers : EntityKey → List Call → List Answer → List Answer
own_answers key [] answers = []
own_answers key (c ∷ cs) [] = []
own_answers key (c ∷ cs) (a ∷ answers) = if is_key key (key_of c) then a ∷ own_answers key cs answers else own_answers key cs answers
