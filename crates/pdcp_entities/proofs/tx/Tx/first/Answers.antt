use Rattle.std.proofs.Common.{◌≡◌, ◌<◌, length, arith, sym, ap, ◌∙◌}
use Rattle.pdcp_defs.specs.Senders.{first}
use Rattle.pdcp_entities.specs.Entities.{TxState}
use Rattle.pdcp_entities.proofs.TxLemmas.{first_none, first_some}
use Rattle.pdcp_entities.proofs.tx.Tx.first.Goals as goal

pub returns-then-len-eq0-clause-first : goal.returns-then-len-eq0-clause-first
unfolding first
returns-then-len-eq0-clause-first c =
    let ring = c.self.inside.unconfirmed in
    sym (first_none c.self.inside.next ring.first ring.slots.items (sym c.len.ensures.len ∙ c.if-len-eq0.true)) ∙ ap (λ (v : TxState). first v.sender) c.self.view_is

pub returns-else-len-eq0-clause-first : goal.returns-else-len-eq0-clause-first
unfolding first
returns-else-len-eq0-clause-first c =
    let ring = c.self.inside.unconfirmed in
    let some : 0 < length ring.slots.items = omega arith in
    sym (first_some c.self.inside.next ring.first ring.slots.items c.self.invariant.first_full some) ∙ ap (λ (v : TxState). first v.sender) c.self.view_is
