use Rattle.std.proofs.Common.{Ok, sym, ap, ◌∙◌, inr, refl}
use Rattle.std.proofs.lemmas.Result.{err_from_is_err_and}
use Rattle.um_defs.specs.Receivers.{started, kept, entries}
use Rattle.um.specs.um_pdcp.Entity.{UmState}
use Rattle.um.proofs.um_pdcp.UmLemmas.{taken_is, refused_is, received_is}
use Rattle.um.proofs.um_pdcp.rx.UmRx.receive.Goals as goal

pub returns-in_err-count-clause-refused : goal.returns-in_err-count-clause-refused
returns-in_err-count-clause-refused c =
    let u = c.args.self.now in
    let p = err_from_is_err_and c.from_residual.result c.from_residual.ensures.1 in
    rw (p.1, p.2) (inr (refused_is u.sn u.ticks u.entity c.args.number c.args.packet.now c.in_err-count.field-0.0 c.in_err-count.ensures.err, refl))

pub returns-clause-taken : goal.returns-clause-taken
returns-clause-taken c =
    let u = c.args.self.now in
    let ok = c.in_ok-count.ensures.ok in
    let count = c.in_ok-count.count in
    let store = c.store.new.self in
    let up = c.hand_up_at.new.self in
    let stop = c.stop_timer.new.self in
    let kept_is = ap (λ packet. kept u.entity count packet) (sym c.in_ok-packet.ensures) ∙ sym (ap (λ (v : UmState). v.entity) c.in_ok-store.ensures.ok) in
    let ticks = ap (λ (v : UmState). v.ticks) c.stop_timer.ensures
    ∙ (ap (λ (v : UmState). v.ticks) c.in_ok-outs.ensures.same ∙ ap (λ (v : UmState). v.ticks) c.in_ok-store.ensures.ok) in
    let start_is = ap (λ (v : UmState). v.entity) c.start_timer.ensures ∙ ap (λ n. started n stop.entity) ticks in
    taken_is u.sn u.ticks u.entity c.args.number c.args.packet.now count ok.0 ok.1
    ∙ ap Ok (received_is u.ticks u.entity store.entity up.entity stop.entity c.start_timer.new.self.entity
    count c.args.packet.now (entries c.in_ok-outs.outs) kept_is c.in_ok-outs.ensures.up (ap (λ (v : UmState). v.entity) c.stop_timer.ensures) start_is)
