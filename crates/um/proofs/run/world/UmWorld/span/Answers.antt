use Rattle.std.proofs.Common.{◌≡◌, ◌-◌, min, sym, ap, ◌∙◌, subst}
use Rattle.um_defs.specs.um_run_defs.Run.{span}
use Rattle.um.specs.run.Worlds.{UmWorldState}
use Rattle.um.proofs.run.SentLemmas.{least_none, least_some, span_is}
use Rattle.um.proofs.run.world.UmWorld.span.Goals as goal

pub returns-in_default : goal.returns-in_default
returns-in_default c =
    let t = c.self.inside in
    let deliv = c.deliv-deliv.result in
    c.saturating_sub.ensures
    ∙ subst (λ (v : UmWorldState). t.puts - deliv ≡ span v.run) c.self.view_is
    (sym (span_is _ deliv c.if-self-eq0.false (least_none t.rx.entity.receiver.deliv t.flight c.in_default.ensures ∙ sym c.deliv-deliv.ensures)))

pub returns : goal.returns
returns c =
    let t = c.self.inside in
    let least = c.min.result in
    c.saturating_sub-3.ensures
    ∙ subst (λ (v : UmWorldState). t.puts - least ≡ span v.run) c.self.view_is
    (sym (span_is _ least c.if-self-eq0.false
    (least_some t.rx.entity.receiver.deliv c.in-Some.number.now c.in-Some.field-0-1.now t.flight c.in-Some.ensures
    ∙ sym (c.min.ensures ∙ (ap (λ n. min n c.saturating_sub-2.result) c.deliv-deliv.ensures
    ∙ ap (min t.rx.entity.receiver.deliv) c.saturating_sub-2.ensures)))))
