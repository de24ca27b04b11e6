use Rattle.std.proofs.Common.{◌≡◌, ◌+◌, ◌^◌, ◌<◌, nat_le, length, drop}
use Rattle.std.specs.Prelude.{find}
use Rattle.pdcp_entities.specs.inside.Rings.{held_from}
use Rattle.pdcp_entities.proofs.ring.Ring.least_from.Given as goal

abbrev pub invariant-loop-i : goal.invariant-loop-i
invariant-loop-i l = record {
  in_range : l.self.first + length l.self.slots.items < 2 ^ 32;
  rest : find (λ e. nat_le l.from e.0) (held_from (l.self.first + l.i) (drop l.i l.self.slots.items))
      ≡ find (λ e. nat_le l.from e.0) (held_from l.self.first l.self.slots.items);
}
