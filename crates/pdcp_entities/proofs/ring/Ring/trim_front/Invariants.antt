use Rattle.std.proofs.Common.{◌≡◌, ◌+◌, ◌^◌, ◌<◌, ◌≤◌, length}
use Rattle.pdcp_entities.specs.inside.Rings.{held_from, IsLastFull}
use Rattle.pdcp_entities.proofs.ring.Ring.trim_front.Given as goal

abbrev pub invariant-loop-self : goal.invariant-loop-self
invariant-loop-self l = record {
  held : held_from l.self.first l.self.slots.items ≡ held_from l.initial.self.first l.initial.self.slots.items;
  last : IsLastFull l.self.slots.items;
  end : l.self.first + length l.self.slots.items ≡ l.initial.self.first + length l.initial.self.slots.items;
  after : l.initial.self.first ≤ l.self.first;
  in_range : l.initial.self.first + length l.initial.self.slots.items < 2 ^ 32;
  capacity : l.self.slots.capacity ≡ l.initial.self.slots.capacity;
}

abbrev pub decreases-loop-self : goal.decreases-loop-self
decreases-loop-self l = length l.self.slots.items
