use Rattle.std.proofs.Common.{◌≡◌, ◌≤◌, ◌++◌, map, drop}
use Rattle.std.specs.Prelude.{is_some}
use Rattle.pdcp_entities.proofs.ring.Ring.bits_after_first.Given as goal

abbrev pub invariant-loop-i : goal.invariant-loop-i
invariant-loop-i l = l.bits ++ map is_some (drop l.i l.self.slots.items) ≡ map is_some (drop 1 l.self.slots.items)
