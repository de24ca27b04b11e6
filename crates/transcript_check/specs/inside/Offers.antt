-- Internal: which octets are among the packets that were offered.
use Rattle.std.specs.Prelude.{◌↔◌, ℕ, List, [], ◌∷◌, Some, IsTrue, is_some}
use Rattle.std.specs.declared.cmp.Ordering.{Ordering}
use Rattle.std.specs.Ordering.{nat_cmp}
use Rattle.std.specs.Cmp.Lexicographic.{slice_cmp}
use Rattle.std.specs.Global.{Vec}
use Rattle.tables.specs.Tables.{find}
use Rattle.transcript_defs.specs.Packets.{IsAmong}

abbrev pub octets_cmp : List ℕ → List ℕ → Ordering
octets_cmp = slice_cmp nat_cmp

-- the keys of a set as octets
unfoldable pub octets_of : List (Vec ℕ × Unit {0}) → List (List ℕ × Unit {0})
octets_of [] = []
octets_of (e ∷ es) = (e.0.items, e.1) ∷ octets_of es

-- the set has exactly these packets
abbrev pub IsKnown : List (Vec ℕ × Unit {0}) → List (List ℕ) → Type 0
IsKnown known packets = (packet : List ℕ) → IsTrue (is_some (find octets_cmp (octets_of known) packet)) ↔ IsAmong packets (Some packet)
