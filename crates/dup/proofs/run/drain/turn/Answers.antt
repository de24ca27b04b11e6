use Rattle.std.proofs.Common.{cond, [], sym, subst, ◌∙◌}
use Rattle.dup_defs.specs.dup_run_defs.Steps.{passes, ◌and◌, carry_all, confirm_all}
use Rattle.dup.specs.run.inside.Views.{IsStep}
use Rattle.dup.proofs.run.StepLemmas.{then_is, then_same}
use Rattle.dup.proofs.run.drain.turn.Goals as goal

pub returns-clause-step : goal.returns-clause-step
returns-clause-step c =
    let old = c.args.bearer.now in
    let leg = c.args.leg in
    let ok = c.in_ok-lines.ensures in
    subst (λ b. IsStep (cond b (carry_all old.sn old.quota leg old.run and confirm_all old.sn old.quota leg) (passes [] old.run)) c.all-more.new.bearer.run c.joined.result)
    (sym (sym c.is_up.ensures ∙ c.if-not-is_up.false))
    (then_is old c.all.new.bearer c.all-more.new.bearer c.all-more.result c.joined.result c.in_ok-lines.lines (carry_all old.sn old.quota leg old.run)
    (λ n q. confirm_all n q leg) ok.step ok.same c.all-more.ensures.step c.joined.ensures)

pub returns-clause-same : goal.returns-clause-same
returns-clause-same c =
    then_same c.args.bearer.now c.all.new.bearer c.all-more.new.bearer c.all-more.result c.joined.result c.in_ok-lines.lines c.in_ok-lines.ensures.same
    c.all-more.ensures.same c.joined.ensures
