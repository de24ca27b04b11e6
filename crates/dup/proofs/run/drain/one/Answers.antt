use Rattle.std.proofs.Common.{sym, subst}
use Rattle.dup_defs.specs.dup_run_defs.Run.{carry, confirm}
use Rattle.dup.specs.declared.run.drain.Part.{Part}
use Rattle.dup.specs.run.inside.Views.{IsStep}
use Rattle.dup.specs.run.inside.Loops.{step_by}
use Rattle.dup.proofs.run.StepLemmas.{one_step}
use Rattle.dup.proofs.run.drain.one.Goals.{in-Carries, in-Confirms}
use Rattle.dup.proofs.run.drain.one.Goals as goal

pub returns-clause-step : goal.returns-clause-step
returns-clause-step c =
    let old = c.args.bearer.now in
    let new = c.match-part.bearer in
    elim c.match-part.branch [
      | in-Carries w ↦ subst (λ (p : Part). IsStep (step_by old.sn old.quota p c.args.leg old.run) new.run c.step_of.result) (sym w.in-Carries.is)
          (one_step old new w.carry-outcome.new.self (carry old.sn c.args.leg old.run) c.match-part.outcome w.carry-outcome.result c.step_of.result
          w.bearer-is w.outcome-is w.carry-outcome.ensures.outcome w.carry-outcome.ensures.same c.step_of.ensures).0
      | in-Confirms w ↦ subst (λ (p : Part). IsStep (step_by old.sn old.quota p c.args.leg old.run) new.run c.step_of.result) (sym w.in-Confirms.is)
          (one_step old new w.confirm-outcome.new.self (confirm old.sn old.quota c.args.leg old.run) c.match-part.outcome w.confirm-outcome.result c.step_of.result
          w.bearer-is w.outcome-is w.confirm-outcome.ensures.outcome w.confirm-outcome.ensures.same c.step_of.ensures).0
    ]

pub returns-clause-same : goal.returns-clause-same
returns-clause-same c =
    let old = c.args.bearer.now in
    let new = c.match-part.bearer in
    elim c.match-part.branch [
      | in-Carries w ↦ (one_step old new w.carry-outcome.new.self (carry old.sn c.args.leg old.run) c.match-part.outcome w.carry-outcome.result c.step_of.result
          w.bearer-is w.outcome-is w.carry-outcome.ensures.outcome w.carry-outcome.ensures.same c.step_of.ensures).1
      | in-Confirms w ↦ (one_step old new w.confirm-outcome.new.self (confirm old.sn old.quota c.args.leg old.run) c.match-part.outcome w.confirm-outcome.result c.step_of.result
          w.bearer-is w.outcome-is w.confirm-outcome.ensures.outcome w.confirm-outcome.ensures.same c.step_of.ensures).1
    ]
