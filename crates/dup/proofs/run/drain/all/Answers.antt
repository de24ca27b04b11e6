use Rattle.std.proofs.Common.{Ok, arith, ◌∙◌}
use Rattle.std.proofs.lemmas.Result.{err_from_is_err_and}
use Rattle.dup_defs.specs.dup_run_defs.Steps.{printed_first}
use Rattle.dup.specs.run.inside.Loops.{times, step_by, all_by}
use Rattle.dup.proofs.run.StepLemmas.{all_start, all_ends, all_goes, left_none, times_none, then_same}
use Rattle.dup.proofs.run.drain.all.Goals as goal

pub returns-in_err-lines-clause-step : goal.returns-in_err-lines-clause-step
returns-in_err-lines-clause-step c =
    let l = c.loop-left in
    let old = c.args.bearer.now in
    let part = c.args.part in
    let leg = c.args.leg in
    let ended = c.in_err-lines.ensures (step_by l.bearer.sn l.bearer.quota part leg l.bearer.run) c.one-more.new.bearer.run c.one-more.ensures.step in
    let p = err_from_is_err_and c.from_residual.result c.from_residual.ensures.1 in
    rw (p.1, p.2) (all_ends old part leg l.lines l.left l.bearer c.one-more.new.bearer (all_by old part leg) c.in_err-lines.field-0.0 c.loop-left-test.true l.invariant.same
    (l.invariant.all ∙ all_start old part leg c.new-lines.result c.items-left.result c.new-lines.ensures c.items-left.ensures) ended)

pub loop-left-preserved : goal.loop-left-preserved
loop-left-preserved c =
    let l = c.loop-left in
    let old = c.args.bearer.now in
    let part = c.args.part in
    let leg = c.args.leg in
    let whole = printed_first c.new-lines.result (times (step_by old.sn old.quota part leg) c.items-left.result old.run) in
    record {
      all = all_goes old part leg l.lines l.left l.bearer c.one-more.new.bearer whole c.in_ok-lines.lines c.loop-left-test.true l.invariant.same l.invariant.all
          (c.in_ok-lines.ensures (step_by l.bearer.sn l.bearer.quota part leg l.bearer.run) c.one-more.new.bearer.run c.one-more.ensures.step);
      same = then_same old l.bearer c.one-more.new.bearer c.one-more.result (Ok c.in_ok-lines.lines) l.lines l.invariant.same c.one-more.ensures.same c.in_ok-lines.ensures;
    }

pub returns-clause-step : goal.returns-clause-step
returns-clause-step c =
    let l = c.loop-left in
    let old = c.args.bearer.now in
    let step = step_by old.sn old.quota c.args.part c.args.leg in
    left_none l.lines (times step l.left l.bearer.run) (all_by old c.args.part c.args.leg) l.bearer.run
    (l.invariant.all ∙ all_start old c.args.part c.args.leg c.new-lines.result c.items-left.result c.new-lines.ensures c.items-left.ensures)
    (times_none step l.left l.bearer.run (omega (arith, c.loop-left-test.false)))
