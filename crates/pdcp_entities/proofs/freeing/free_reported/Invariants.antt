use Rattle.std.proofs.Common.{◌≡◌, ◌+◌, ◌^◌, ◌<◌, not, length, filter, [], take}
use Rattle.pdcp_defs.specs.Senders.{is_reported}
use Rattle.pdcp_entities.specs.Bits.{bits_of}
use Rattle.pdcp_entities.specs.Packets.{AreParked}
use Rattle.pdcp_entities.specs.inside.Freeing.{AreLeft}
use Rattle.pdcp_entities.specs.inside.Rings.{held, held_from}
use Rattle.pdcp_entities.proofs.freeing.free_reported.Given as goal

abbrev pub invariant-loop-i : goal.invariant-loop-i
invariant-loop-i l = record {
  none : filter (λ e. is_reported l.fmc (bits_of l.bits) e.0) (held_from l.ring.first (take l.i l.ring.slots.items)) ≡ [];
  kept : filter (λ e. not (is_reported l.fmc (bits_of l.bits) e.0)) (held l.ring) ≡ filter (λ e. not (is_reported l.fmc (bits_of l.bits) e.0)) (held l.initial.ring);
  left : AreLeft (filter (λ e. is_reported l.fmc (bits_of l.bits) e.0) (held l.initial.ring)) (filter (λ e. is_reported l.fmc (bits_of l.bits) e.0) (held l.ring)) l.initial.pool l.pool;
  number : l.freed + length (filter (λ e. is_reported l.fmc (bits_of l.bits) e.0) (held l.ring)) ≡ length (filter (λ e. is_reported l.fmc (bits_of l.bits) e.0) (held l.initial.ring));
  few : length (filter (λ e. is_reported l.fmc (bits_of l.bits) e.0) (held l.initial.ring)) < 2 ^ 32;
  parked : AreParked l.pool (held l.ring);
  in_range : l.initial.ring.first + length l.initial.ring.slots.items < 2 ^ 32;
  first : l.ring.first ≡ l.initial.ring.first;
  slots : length l.ring.slots.items ≡ length l.initial.ring.slots.items;
  capacity : l.ring.slots.capacity ≡ l.initial.ring.slots.capacity;
}
