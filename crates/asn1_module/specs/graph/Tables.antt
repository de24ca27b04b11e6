-- Internal: what tables say while they are filled.
use Rattle.std.specs.Prelude.{◌≡◌, ℕ, ◌<◌, ◌≤◌, List, length, slice_index, ◌==◌, if◌then◌else◌}
use Rattle.asn1_defs.specs.declared.graph.Edge.{Edge}
use Rattle.asn1_defs.specs.Paths.{IsAmong, Leads, Nests}
use Rattle.asn1_module.specs.graph.Walks.{raised}

-- each mark is right
pub record MarksWell (count : ℕ) (edges : List Edge) (start : ℕ) (t : List ℕ) : Type 0 where
  pub size : length t ≡ count
  pub marked : (v : ℕ) → 0 < slice_index t v → Leads count edges start v

-- each depth is reached, and none is below its own weight
pub record TellsWell (count : ℕ) (edges : List Edge) (weights t : List ℕ) : Type 0 where
  pub size : length t ≡ count
  pub reached : (v : ℕ) → v < count → (d : ℕ) × Nests count edges weights v d × (slice_index t v ≤ d)
  pub own : (v : ℕ) → slice_index weights v ≤ slice_index t v

-- no step leads to a greater number
abbrev pub Falls : List ℕ → List Edge → Type 0
Falls ranks edges = (e : Edge) → IsAmong e edges → slice_index ranks e.to ≤ slice_index ranks e.from

-- marks where a step begins that leads to an equal number
abbrev pub level_step : List ℕ → List ℕ → Edge → List ℕ
level_step ranks table e = if slice_index ranks e.to == slice_index ranks e.from then (raised table e.from 1).1 else table

-- the table marks where each step begins that leads to an equal number
abbrev pub MarksLevel : List ℕ → List Edge → List ℕ → Type 0
MarksLevel ranks edges table = (e : Edge) → IsAmong e edges → slice_index ranks e.to ≡ slice_index ranks e.from → e.from < length table → 0 < slice_index table e.from
