use Rattle.std.proofs.Common.{◌≡◌, ◌+◌, ◌<◌, nat_le, length, None, arith, sym, ap, ◌∙◌}
use Rattle.std.proofs.lemmas.Bool.Decides.{nat_tests}
use Rattle.pdcp_defs.specs.Senders.{is_above}
use Rattle.pdcp_entities.proofs.SlotLemmas.{last_held, above_last}
use Rattle.pdcp_entities.proofs.ring.Ring.ends_before.Goals as goal

pub returns-else-is_empty : goal.returns-else-is_empty
returns-else-is_empty c =
    let ring = c.args.self.now in
    let some : 0 < length ring.slots.items = grind (arith, nat_tests) in
    ap (λ n. nat_le (ring.first + n) c.args.count) c.len.ensures.len
    ∙ (above_last ring.first (length ring.slots.items) c.args.count some
    ∙ sym (ap (λ l. is_above c.args.count l) (last_held None ring.first ring.slots.items c.requires.last some)))
