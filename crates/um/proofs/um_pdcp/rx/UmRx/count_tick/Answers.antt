use Rattle.std.proofs.Common.{◌≡◌, ◌-◌, Some, sym, ap, ◌∙◌, subst}
use Rattle.std.specs.Prelude.{IfOk}
use Rattle.um_defs.specs.Receivers.{ticked, entries}
use Rattle.um.specs.um_pdcp.Entity.{UmState}
use Rattle.um.specs.um_pdcp.inside.Views.{um_receiver}
use Rattle.um.proofs.um_pdcp.UmLemmas.{ticked_none, ticked_on, ticked_last}
use Rattle.um.proofs.um_pdcp.rx.UmRx.count_tick.Goals as goal

pub returns-in-None-clause-ticked : goal.returns-in-None-clause-ticked
returns-in-None-clause-ticked c =
    let u = c.args.self.now in
    ticked_none u.ticks u.entity (ap (λ (v : UmState). v.entity.left) (sym c.self.view_is) ∙ c.in-None.is)
    ∙ ap (λ outs. record { packets = entries outs; after = u.entity }) (sym c.new.ensures)

pub returns-in-Some-clause-ticked : goal.returns-in-Some-clause-ticked
returns-in-Some-clause-ticked c =
    let t = c.self.inside in
    let after = um_receiver t.deliv t.next t.reord (Some (c.in-Some.left - 1)) t.stored in
    subst (λ (v : UmState). ticked v.ticks v.entity ≡ record { packets = entries c.new-in-Some.result; after = after }) c.self.view_is
    (ticked_on t.ticks (um_receiver t.deliv t.next t.reord t.left t.stored) c.in-Some.left c.in-Some.is c.if-left-gt1.true
    ∙ ap (λ outs. record { packets = entries outs; after = after }) (sym c.new-in-Some.ensures))

pub returns-in-Some-2-clause-ticked : goal.returns-in-Some-2-clause-ticked
returns-in-Some-2-clause-ticked c =
    let u = c.args.self.now in
    let last = ticked_last u.ticks u.entity c.in-Some.left (ap (λ (v : UmState). v.entity.left) (sym c.self.view_is) ∙ c.in-Some.is) c.if-left-gt1.false in
    subst (λ d. IfOk c.expire.result (λ outs. d ≡ record { packets = entries outs; after = c.expire.new.self.entity })) (sym last) c.expire.ensures.expired
