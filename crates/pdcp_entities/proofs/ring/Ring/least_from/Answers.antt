use Rattle.std.proofs.Common.{◌≡◌, ◌+◌, ◌<◌, ◌≤◌, length, sym, ◌∙◌, arith}
use Rattle.pdcp_entities.proofs.RingLemmas.{find-later, find-full, find-empty}
use Rattle.pdcp_entities.proofs.ring.Ring.least_from.Goals as goal

pub loop-i-init : goal.loop-i-init
loop-i-init c =
    record {
      in_range = c.requires;
      rest = find-later c.args.from c.args.self.now.first c.saturating_sub-start.result c.args.self.now.slots.items (λ k l. omega arith);
    }

pub returns-in-Some : goal.returns-in-Some
returns-in-Some c =
    let inside : c.loop-i.i < length c.args.self.now.slots.items = omega arith in
    let far : c.args.from ≤ c.args.self.now.first + c.loop-i.i = omega arith in
    find-full c.args.from c.args.self.now.first c.loop-i.i c.in-Some.place c.args.self.now.slots.items inside far c.in-Some.ensures
    ∙ c.loop-i.invariant.rest

pub loop-i-preserved : goal.loop-i-preserved
loop-i-preserved c =
    let inside : c.loop-i.i < length c.args.self.now.slots.items = omega arith in
    record {
      in_range = c.requires;
      rest = find-empty c.args.from c.args.self.now.first c.loop-i.i c.args.self.now.slots.items inside (sym c.in_default.ensures) ∙ c.loop-i.invariant.rest;
    }
