-- Paths through a module's types and assignments: what reaches itself, and how deep types stand one inside another.
use Rattle.std.specs.Prelude.{◌≡◌, ℕ, ◌+◌, ◌<◌, List, [], ◌∷◌, ◌⊎◌, slice_index, Option, Some, None}
use Rattle.asn1_defs.specs.declared.graph.Edge.{Edge}
use Rattle.asn1_defs.specs.Graph.{edge}

abbrev pub IsAmong : Edge → List Edge → Type 0
IsAmong e [] = ⊥
IsAmong e (f ∷ es) = (f ≡ e) ⊎ IsAmong e es

-- a step from one of so many vertices to another
pub record IsStep (count : ℕ) (edges : List Edge) (a b : ℕ) : Type 0 where
  pub among : IsAmong (edge a b) edges
  pub from : a < count
  pub to : b < count

-- a path of one step or more
pub data Leads (count : ℕ) (edges : List Edge) (a : ℕ) : ℕ → Type 0 where
  first : {b : ℕ} → IsStep count edges a b → Leads count edges a b
  further : {b c : ℕ} → Leads count edges a b → IsStep count edges b c → Leads count edges a c

-- Types that stand one inside another, from this one on: each adds its own weight, 1 for one that counts.
pub data Nests (count : ℕ) (edges : List Edge) (weights : List ℕ) : ℕ → ℕ → Type 0 where
  alone : {a : ℕ} → a < count → Nests count edges weights a (slice_index weights a)
  around : {a b d : ℕ} → IsStep count edges a b → Nests count edges weights b d → Nests count edges weights a (slice_index weights a + d)

-- the first of so many numbers that has a property, if one does
abbrev pub IsFirst : (ℕ → Type 0) → ℕ → Option ℕ → Type 0
IsFirst P count None = (k : ℕ) → k < count → P k → ⊥
IsFirst P count (Some k) = (k < count) × P k × ((j : ℕ) → j < k → P j → ⊥)
