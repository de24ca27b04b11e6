use Rattle.std.proofs.Common.{◌≡◌, ◌++◌, ◌-◌, min, fold, ap, ◌∙◌, subst}
use Rattle.dup_defs.specs.dup_run_defs.Run.{counts_on, span}
use Rattle.dup_bearer.specs.Bearers.{BearerState}
use Rattle.dup_bearer.specs.inside.Views.{run_state}
use Rattle.dup_bearer.proofs.BearerLemmas.{span_is}
use Rattle.dup_bearer.proofs.bearer.Bearer.span.Goals as goal

pub returns : goal.returns
returns c =
    let t = c.self.inside in
    let run = run_state t.tx t.legs t.deliv t.stored in
    let counts = counts_on t.legs.first ++ counts_on t.legs.second in
    c.saturating_sub.ensures
    ∙ (ap (λ n. n - c.least.result) c.next-next.ensures
    ∙ subst (λ (v : BearerState). t.tx.entity.sender.next - c.least.result ≡ span v.run) c.self.view_is
    (span_is run c.least.result
    (c.least.ensures ∙ ap (λ m. fold min m counts) (c.min-least.ensures ∙ ap (λ n. min n t.deliv) c.next-next.ensures))))
