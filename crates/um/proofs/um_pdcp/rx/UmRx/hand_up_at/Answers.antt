use Rattle.std.proofs.Common.{◌≡◌, ◌++◌, ap, ◌∙◌, subst}
use Rattle.pdcp_defs.specs.Receivers.{deliver_from}
use Rattle.um_defs.specs.Receivers.{arrived, entries}
use Rattle.um.specs.um_pdcp.Entity.{UmState}
use Rattle.um.specs.um_pdcp.inside.Views.{um_receiver}
use Rattle.um.proofs.um_pdcp.UmLemmas.{arrived_here}
use Rattle.um.proofs.um_pdcp.rx.UmRx.hand_up_at.Goals as goal

pub returns-clause-up : goal.returns-clause-up
returns-clause-up c =
    let t = c.self.inside in
    let ups = entries c.hand_up.new.outs in
    let next = c.in_ok-self-inside.field-0 in
    let here = deliver_from t.deliv t.stored in
    subst (λ (v : UmState). arrived c.args.count v.entity
    ≡ record { packets = ups; after = um_receiver next t.next t.reord t.left c.hand_up.new.stored }) c.self.view_is
    (arrived_here c.args.count t.deliv t.next t.reord t.left t.stored c.hand_up.new.stored next ups
    c.if-count-self.false (c.in_ok-self-inside.ensures.up ∙ ap (λ outs. entries outs ++ here.packets) c.new-outs.ensures) c.in_ok-self-inside.ensures.after)
