use Rattle.std.proofs.Common.{◌≡◌, subst}
use Rattle.dup_defs.specs.dup_run_defs.Steps.{DupStep}
use Rattle.dup_bearer.specs.Bearers.{with_run}
use Rattle.dup.specs.run.inside.Views.{IsStep, outcome_by}
use Rattle.dup.proofs.run.StepLemmas.{step_is, outcome_same, steps_are}
use Rattle.dup.proofs.run.run.step.Goals as goal

pub returns : goal.returns
returns c =
    let old = c.args.bearer.now in
    let new = c.outcome-outcome.new.bearer in
    let does = c.outcome-outcome.ensures in
    record {
      step = subst (λ (d : DupStep). IsStep d new.run c.step_of.result) (steps_are old c.args.event.now c.in_default.not-Drain)
          (step_is old new (outcome_by old c.args.event.now) c.outcome-outcome.result c.step_of.result c.step_of.ensures does.outcome does.same);
      same = outcome_same new.sn new.run c.outcome-outcome.result c.step_of.result (new ≡ with_run old new.run) c.step_of.ensures does.same;
    }
