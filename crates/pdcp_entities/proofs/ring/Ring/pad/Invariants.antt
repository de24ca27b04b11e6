use Rattle.std.proofs.Common.{◌≡◌, ◌-◌, ◌≤◌, length}
use Rattle.pdcp_entities.specs.inside.Rings.{padded}
use Rattle.pdcp_entities.proofs.ring.Ring.pad.Given as goal

abbrev pub invariant-loop-self : goal.invariant-loop-self
invariant-loop-self l = record {
  first : l.self.first ≡ l.initial.self.first;
  capacity : l.self.slots.capacity ≡ l.initial.self.slots.capacity;
  room : l.len ≤ l.self.slots.capacity;
  rest : padded l.self.slots.items l.len ≡ padded l.initial.self.slots.items l.len;
}

abbrev pub decreases-loop-self : goal.decreases-loop-self
decreases-loop-self l = l.len - length l.self.slots.items
