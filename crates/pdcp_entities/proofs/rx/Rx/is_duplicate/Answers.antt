use Rattle.std.proofs.Common.{◌≡◌, ◌≤◌, sym, ap, ◌∙◌, arith}
use Rattle.std.specs.Prelude.{is_some}
use Rattle.std.proofs.lemmas.Bool.Decides.{nat_tests}
use Rattle.pdcp_defs.specs.Receivers.{is_duplicate}
use Rattle.pdcp_entities.specs.Entities.{RxState}
use Rattle.pdcp_entities.proofs.RxLemmas.{duplicate_at, duplicate_below, below_is}
use Rattle.pdcp_entities.proofs.rx.Rx.is_duplicate.Goals as goal

pub returns-then-count-self : goal.returns-then-count-self
returns-then-count-self c =
    let ring = c.self.inside.stored in
    below_is c.args.count ring.first c.if-count-self.true
    ∙ (sym (duplicate_below ring.first c.args.count ring.slots.items c.if-count-self.true)
    ∙ ap (λ (v : RxState). is_duplicate v.receiver c.args.count) c.self.view_is)

pub returns-else-count-self : goal.returns-else-count-self
returns-else-count-self c =
    let ring = c.self.inside.stored in
    c.is_some.ensures
    ∙ (ap is_some c.at.ensures
    ∙ (sym (duplicate_at ring.first c.args.count ring.slots.items c.if-count-self.false)
    ∙ ap (λ (v : RxState). is_duplicate v.receiver c.args.count) c.self.view_is))
