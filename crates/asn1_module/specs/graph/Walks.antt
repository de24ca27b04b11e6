-- What walks over a module's steps leave in their tables: which vertices are marked as reached, and how deep types stand.
use Rattle.std.specs.Prelude.{ℕ, ◌+◌, ◌<◌, ◌≤◌, List, [], ◌∷◌, length, Bool, true, false, ◌||◌, ◌&&◌, ◌==◌, nat_lt, min, slice_set, slice_index, if◌then◌else◌}
use Rattle.asn1_defs.specs.declared.graph.Edge.{Edge}
use Rattle.asn1_defs.specs.Paths.{IsAmong, Leads, Nests}

-- steps that are all among these
abbrev pub AreAmong : List Edge → List Edge → Type 0
AreAmong some edges = (e : Edge) → IsAmong e some → IsAmong e edges

-- a table with the greater of a value and its own at a place, and whether it changed
abbrev pub raised : List ℕ → ℕ → ℕ → Bool × List ℕ
raised table at value = if nat_lt at (length table) && nat_lt (slice_index table at) value then (true, slice_set table at value) else (false, table)

-- marks what a marked vertex, or the first one, leads to
unfoldable pub mark_step : ℕ → List ℕ → Edge → Bool × List ℕ
mark_step start table e = if (e.from == start) || nat_lt 0 (slice_index table e.from) then raised table e.to 1 else (false, table)

-- a depth above this one isn't told apart
abbrev pub depth_cap : ℕ
depth_cap = 61

-- what stands around a type is as deep as this one and its own weight
unfoldable pub depth_step : List ℕ → List ℕ → Edge → Bool × List ℕ
depth_step weights table e = if nat_lt e.to (length table) then raised table e.from (min depth_cap (slice_index weights e.from + slice_index table e.to)) else (false, table)

-- one round over all steps, and whether one of them changed the table
unfoldable pub round_of : (List ℕ → Edge → Bool × List ℕ) → Bool → List ℕ → List Edge → Bool × List ℕ
round_of act changed table [] = (changed, table)
round_of act changed table (e ∷ es) = round_of act (changed || (act table e).0) (act table e).1 es

-- the table marks what a vertex leads to
pub record IsReach (count : ℕ) (edges : List Edge) (start : ℕ) (table : List ℕ) : Type 0 where
  pub marked : (v : ℕ) → 0 < slice_index table v → Leads count edges start v
  pub all : (v : ℕ) → Leads count edges start v → 0 < slice_index table v

-- each vertex that leads to itself is marked
abbrev pub MarksLoops : ℕ → List Edge → List ℕ → Type 0
MarksLoops count edges table = (v : ℕ) → Leads count edges v v → 0 < slice_index table v

-- the table tells how deep types stand one inside another, up to the cap
pub record IsDepth (count : ℕ) (edges : List Edge) (weights table : List ℕ) : Type 0 where
  pub reached : (v : ℕ) → v < count → (d : ℕ) × Nests count edges weights v d × (slice_index table v ≤ d)
  pub most : (v d : ℕ) → Nests count edges weights v d → min depth_cap d ≤ slice_index table v
