use Rattle.std.proofs.Common.{◌≡◌, ℕ, ◌≤◌, Bool, true, false, cond, Option, Some, None, Result, Ok, Err, sym, ap, ◌∙◌, arith}
use Rattle.pdcp_defs.specs.Receivers.{is_duplicate, is_ahead}
use Rattle.pdcp_defs.specs.Counts.{near_count}
use Rattle.pdcp_entities.specs.declared.rx.Taken.{Taken}
use Rattle.pdcp_entities.specs.declared.rx.Ahead.{Ahead}
use Rattle.pdcp_entities.specs.Entities.{RxState, taken, taking}
use Rattle.pdcp_entities.specs.inside.Rings.{held}
use Rattle.pdcp_entities.proofs.NearLemmas.{near_is, near_agrees}
use Rattle.pdcp_entities.proofs.RxLemmas.{new_count, taking_duplicate, taking_ahead, taking_new}
use Rattle.pdcp_entities.proofs.rx.Rx.take.Goals as goal

pub returns-in_default-clause-result : goal.returns-in_default-clause-result
unfolding taken
returns-in_default-clause-result c =
    let t = c.self.inside in
    let none = near_agrees t.sn t.stored.first c.args.number None tt c.in_default.ensures.only in
    sym (ap (taking c.args.self.now) (ap (λ (v : RxState). near_count v.sn v.receiver.deliv c.args.number) (sym c.self.view_is) ∙ none))

pub returns-then-is_duplicate-clause-result : goal.returns-then-is_duplicate-clause-result
unfolding taken
returns-then-is_duplicate-clause-result c =
    let t = c.self.inside in
    let old = c.args.self.now in
    let found = near_is t.sn t.stored.first c.args.number c.in-Some.count c.in-Some.ensures.found in
    taking_duplicate old (near_count old.sn old.receiver.deliv c.args.number) c.in-Some.count
    (ap (λ (v : RxState). near_count v.sn v.receiver.deliv c.args.number) (sym c.self.view_is) ∙ found)
    (sym c.is_duplicate.ensures ∙ c.if-is_duplicate.true)

pub is_ahead-requires : goal.is_ahead-requires
is_ahead-requires c =
    let ring = c.self.inside.stored in
    let new = new_count ring.first c.in-Some.count ring.slots.items
    (ap (λ (v : RxState). is_duplicate v.receiver c.in-Some.count) c.self.view_is ∙ (sym c.is_duplicate.ensures ∙ c.if-is_duplicate.false)) in
    let deliv = ap (λ (v : RxState). v.receiver.deliv) c.self.view_is in
    omega (arith, new.0, deliv)

pub returns-then-is_ahead-clause-result : goal.returns-then-is_ahead-clause-result
unfolding taken
returns-then-is_ahead-clause-result c =
    let t = c.self.inside in
    let old = c.args.self.now in
    let found = near_is t.sn t.stored.first c.args.number c.in-Some.count c.in-Some.ensures.found in
    taking_ahead old (near_count old.sn old.receiver.deliv c.args.number) c.in-Some.count
    (ap (λ (v : RxState). near_count v.sn v.receiver.deliv c.args.number) (sym c.self.view_is) ∙ found)
    (sym c.is_duplicate.ensures ∙ c.if-is_duplicate.false) (sym c.is_ahead.ensures ∙ c.if-is_ahead.true)

pub returns-clause-result : goal.returns-clause-result
unfolding taken
returns-clause-result c =
    let t = c.self.inside in
    let old = c.args.self.now in
    let found = near_is t.sn t.stored.first c.args.number c.in-Some.count c.in-Some.ensures.found in
    taking_new old (near_count old.sn old.receiver.deliv c.args.number) c.in-Some.count
    (ap (λ (v : RxState). near_count v.sn v.receiver.deliv c.args.number) (sym c.self.view_is) ∙ found)
    (sym c.is_duplicate.ensures ∙ c.if-is_duplicate.false) (sym c.is_ahead.ensures ∙ c.if-is_ahead.false)
