use Rattle.std.proofs.Common.{◌≡◌, ◌≤◌, length}
use Rattle.pdcp_entities.specs.inside.Rings.{held_from}
use Rattle.pdcp_entities.proofs.ring.Ring.trim_back.Given as goal

abbrev pub invariant-loop-self : goal.invariant-loop-self
invariant-loop-self l = record {
  held : held_from l.self.first l.self.slots.items ≡ held_from l.initial.self.first l.initial.self.slots.items;
  first : l.self.first ≡ l.initial.self.first;
  shorter : length l.self.slots.items ≤ length l.initial.self.slots.items;
  capacity : l.self.slots.capacity ≡ l.initial.self.slots.capacity;
}

abbrev pub decreases-loop-self : goal.decreases-loop-self
decreases-loop-self l = length l.self.slots.items
