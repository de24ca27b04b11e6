use Rattle.std.proofs.Common.{sym, subst, ◌∙◌}
use Rattle.dup_defs.specs.dup_run_defs.Run.{DupOutcome, confirm}
use Rattle.dup_bearer.specs.Bearers.{IsOutcome}
use Rattle.dup.proofs.run.StepLemmas.{refused_where_down}
use Rattle.dup.proofs.run.steps.confirm.Goals as goal

pub returns-then-not-is_up-clause-outcome : goal.returns-then-not-is_up-clause-outcome
returns-then-not-is_up-clause-outcome c =
    let old = c.args.bearer.now in
    subst (λ (o : DupOutcome). IsOutcome o old.run c.refused_down.result)
    (refused_where_down c.args.leg old.run (confirm old.sn old.quota c.args.leg old.run) (sym c.is_up.ensures ∙ c.if-not-is_up.true)) (c.refused_down.ensures old.run)
