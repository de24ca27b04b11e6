use Rattle.std.proofs.Common.{◌≡◌, ◌+◌, ◌<◌, ◌≤◌, List, [], ◌∷◌, ◌++◌, length, None, ap, ◌∙◌, arith}
use Rattle.circular_buffer.specs.Buffer.{Buffer, buffer}
use Rattle.pdcp_entities.specs.inside.Rings.{padded}
use Rattle.pdcp_entities.proofs.RingLemmas.{pushed, padded-one}
use Rattle.pdcp_entities.proofs.ring.Ring.pad.Goals as goal

pub loop-self-preserved : goal.loop-self-preserved
loop-self-preserved c =
    let old = c.loop-self.self.slots in
    let short : length old.items < c.args.len = omega arith in
    let room : length old.items < old.capacity = omega arith in
    let e = pushed old c.push_back.new.self None c.push_back.ensures.items room in
    let capacity : c.push_back.new.self.capacity ≡ old.capacity = ap (λ b. b.capacity) e in
    record {
      first = c.loop-self.invariant.first;
      capacity = capacity ∙ c.loop-self.invariant.capacity;
      room = omega arith;
      rest = ap (λ b. padded b.items c.args.len) e ∙ (padded-one old.items c.args.len short ∙ c.loop-self.invariant.rest);
    }
