use Rattle.std.proofs.Common.{◌≡◌, ◌+◌, ◌^◌, ◌<◌, ◌≤◌, nat_lt, not, length, filter}
use Rattle.pdcp_entities.specs.Packets.{AreParked}
use Rattle.pdcp_entities.specs.inside.Freeing.{AreLeft}
use Rattle.pdcp_entities.specs.inside.Rings.{held, IsLastFull}
use Rattle.pdcp_entities.proofs.freeing.free_to.Given as goal

abbrev pub invariant-loop-pool : goal.invariant-loop-pool
invariant-loop-pool l = record {
  kept : filter (λ e. nat_lt l.count e.0) (held l.ring) ≡ filter (λ e. nat_lt l.count e.0) (held l.initial.ring);
  left : AreLeft (filter (λ e. not (nat_lt l.count e.0)) (held l.initial.ring)) (filter (λ e. not (nat_lt l.count e.0)) (held l.ring)) l.initial.pool l.pool;
  number : l.freed + length (filter (λ e. not (nat_lt l.count e.0)) (held l.ring)) ≡ length (filter (λ e. not (nat_lt l.count e.0)) (held l.initial.ring));
  few : length (filter (λ e. not (nat_lt l.count e.0)) (held l.initial.ring)) < 2 ^ 32;
  parked : AreParked l.pool (held l.ring);
  in_range : l.initial.ring.first + length l.initial.ring.slots.items < 2 ^ 32;
  end : l.ring.first + length l.ring.slots.items ≡ l.initial.ring.first + length l.initial.ring.slots.items;
  after : l.initial.ring.first ≤ l.ring.first;
  last : IsLastFull l.initial.ring.slots.items → IsLastFull l.ring.slots.items;
  capacity : l.ring.slots.capacity ≡ l.initial.ring.slots.capacity;
}

abbrev pub decreases-loop-pool : goal.decreases-loop-pool
decreases-loop-pool l = length l.ring.slots.items
