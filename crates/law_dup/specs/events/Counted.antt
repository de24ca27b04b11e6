-- Packets with their COUNTs: those that lines deliver, each that of its COUNT, one after another.
use Rattle.std.specs.Prelude.{◌≡◌, ℕ, ◌+◌, List, [], ◌∷◌, slice_get, Some}
use Rattle.std.specs.List.{flat_map, AllByRecursion}
use Rattle.dup_defs.specs.declared.types.line.DupLine.{DupLine}
use Rattle.dup_defs.specs.declared.types.line.DupLine.TheVariants as lines

-- a packet that a line delivers, with its COUNT
abbrev pub delivered_by : DupLine → List (ℕ × List ℕ)
delivered_by (lines.Deliver count packet) = (count, packet) ∷ []
delivered_by line = []

abbrev pub delivered_in : List DupLine → List (ℕ × List ℕ)
delivered_in printed = flat_map delivered_by printed

-- each is the packet of its COUNT
abbrev pub AreOf : List (List ℕ) → List (ℕ × List ℕ) → Type 0
AreOf packets es = AllByRecursion (λ e. slice_get packets e.0 ≡ Some e.1) es

-- COUNTs one after another: the first of them, and the one after the last
abbrev pub AreCounted : ℕ → ℕ → List (ℕ × List ℕ) → Type 0
AreCounted first end [] = first ≡ end
AreCounted first end (e ∷ es) = (e.0 ≡ first) × AreCounted (first + 1) end es
