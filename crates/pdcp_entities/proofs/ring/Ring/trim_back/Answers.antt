use Rattle.std.proofs.Common.{◌≡◌, ◌-◌, ◌≤◌, length, take, ap, ◌∙◌, arith, sym, Some, None}
use Rattle.std.specs.Prelude.{slice_get}
use Rattle.std.proofs.lemmas.Grind.{common_steps}
use Rattle.circular_buffer.specs.Buffer.{last_item}
use Rattle.pdcp_entities.specs.inside.Rings.{held_from}
use Rattle.pdcp_entities.proofs.RingLemmas.{held_from-shorter, last_full, empty_slot, full_slot}
use Rattle.pdcp_entities.proofs.ring.Ring.trim_back.Goals as goal

pub loop-self-preserved : goal.loop-self-preserved
loop-self-preserved c =
    let old = c.loop-self.self.slots in
    let e = c.pop_back.ensures.items in
    let empty = empty_slot (last_item old.items) (sym c.loop-self-test.ensures) in
    let n = ap (λ b. length b.items) e in
    let shorter : length (take (length old.items - 1) old.items) ≤ length old.items = grind (arith, common_steps) in
    record {
      held = ap (λ b. held_from c.loop-self.self.first b.items) e ∙ (held_from-shorter c.loop-self.self.first old.items empty ∙ c.loop-self.invariant.held);
      first = c.loop-self.invariant.first;
      shorter = omega (arith, n, c.loop-self.invariant.shorter);
      capacity = ap (λ b. b.capacity) e ∙ c.loop-self.invariant.capacity;
    }

pub returns-clause-last_full : goal.returns-clause-last_full
returns-clause-last_full c = last_full c.loop-self.self.slots.items (full_slot (last_item c.loop-self.self.slots.items) (sym c.loop-self-test.ensures))
