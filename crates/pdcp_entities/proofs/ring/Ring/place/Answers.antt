use Rattle.std.proofs.Common.{◌≡◌, ℕ, ◌+◌, ◌-◌, ◌<◌, ◌≤◌, length, arith, sym, ap, ◌∙◌}
use Rattle.std.specs.Ordering.{nat_cmp}
use Rattle.tables.specs.Tables.{put}
use Rattle.pdcp_entities.specs.declared.ring.Ring.{Ring}
use Rattle.pdcp_entities.specs.inside.Rings.{held, held_from, padded, IsLastFull}
use Rattle.pdcp_entities.proofs.SlotLemmas.{put_slot, put_after, length-slot, length-after, last-slot, last-after}
use Rattle.pdcp_entities.proofs.ring.Ring.place.Goals as goal

pub returns-then-count-self-clause-held : goal.returns-then-count-self-clause-held
returns-then-count-self-clause-held c =
    let old = c.args.self.now in
    let i = c.args.count - old.first in
    let e : old.first + i ≡ c.args.count = omega arith in
    ap (λ n. held_from n c.fill.new.self.slots.items) c.fill.ensures.first
    ∙ (ap (λ b. held_from old.first b.items) c.fill.ensures.slots
    ∙ (put_slot old.first i old.slots.items c.args.place (omega arith) c.requires.empty ∙ ap (λ n. put nat_cmp (held old) n c.args.place) e))

pub returns-then-count-self-clause-more : goal.returns-then-count-self-clause-more
returns-then-count-self-clause-more c =
    let old = c.args.self.now in
    let i = c.args.count - old.first in
    ap (λ n. length (held_from n c.fill.new.self.slots.items)) c.fill.ensures.first
    ∙ (ap (λ b. length (held_from old.first b.items)) c.fill.ensures.slots
    ∙ length-slot old.first i old.slots.items c.args.place (omega arith) c.requires.empty)

pub returns-then-count-self-clause-last_full : goal.returns-then-count-self-clause-last_full
returns-then-count-self-clause-last_full c =
    let old = c.args.self.now in
    rw c.fill.ensures.slots (last-slot (c.args.count - old.first) old.slots.items c.args.place c.requires.last)

pub returns-else-count-self-clause-held : goal.returns-else-count-self-clause-held
returns-else-count-self-clause-held c =
    let old = c.args.self.now in
    let i = c.args.count - old.first in
    let e : old.first + i ≡ c.args.count = omega arith in
    ap (λ n. held_from n c.push.new.self.slots.items) c.push.ensures.first
    ∙ (ap (λ b. held_from old.first b.items) c.push.ensures.slots
    ∙ (put_after old.first i old.slots.items c.args.place (omega arith) ∙ ap (λ n. put nat_cmp (held old) n c.args.place) e))

pub returns-else-count-self-clause-more : goal.returns-else-count-self-clause-more
returns-else-count-self-clause-more c =
    let old = c.args.self.now in
    ap (λ n. length (held_from n c.push.new.self.slots.items)) c.push.ensures.first
    ∙ (ap (λ b. length (held_from old.first b.items)) c.push.ensures.slots
    ∙ length-after old.first (c.args.count - old.first) old.slots.items c.args.place (omega arith))

pub returns-else-count-self-clause-last_full : goal.returns-else-count-self-clause-last_full
returns-else-count-self-clause-last_full c = rw c.push.ensures.slots (last-after (padded c.args.self.now.slots.items (c.args.count - c.args.self.now.first)) c.args.place)
