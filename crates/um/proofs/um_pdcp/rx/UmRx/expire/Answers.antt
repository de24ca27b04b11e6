use Rattle.std.proofs.Common.{◌≡◌, ◌++◌, sym, ap, ◌∙◌, subst}
use Rattle.pdcp_defs.specs.Receivers.{deliver_from}
use Rattle.um_defs.specs.Receivers.{expired, entries}
use Rattle.um.specs.um_pdcp.Entity.{UmState}
use Rattle.um.specs.um_pdcp.inside.Stored.{below}
use Rattle.um.proofs.um_pdcp.UmLemmas.{expired_is}
use Rattle.um.proofs.um_pdcp.rx.UmRx.expire.Goals as goal

pub returns-clause-expired : goal.returns-clause-expired
returns-clause-expired c =
    let t = c.self.inside in
    let low = c.in_ok-hand_up_below.ensures in
    let high = c.in_ok-self-inside.ensures in
    let rest = ap (deliver_from t.reord) low.rest in
    let up = high.up ∙ (ap (λ es. es ++ (deliver_from t.reord c.hand_up_below.new.stored).packets)
    (low.up ∙ ap (λ outs. entries outs ++ below t.reord t.stored) c.new-outs.ensures)
    ∙ ap (λ d. below t.reord t.stored ++ d.packets) rest) in
    subst (λ (v : UmState). expired v.ticks v.entity ≡ record { packets = entries c.hand_up.new.outs; after = c.start_timer.new.self.entity }) c.self.view_is
    (expired_is t.ticks t.deliv t.next t.reord t.left t.stored c.hand_up.new.stored c.in_ok-self-inside.field-0 (entries c.hand_up.new.outs)
    c.start_timer.new.self.entity up (ap (λ d. d.after) (sym rest) ∙ high.after) (ap (λ (v : UmState). v.entity) c.start_timer.ensures))
