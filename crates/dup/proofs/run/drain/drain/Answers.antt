use Rattle.std.proofs.Common.{Ok, sym, ◌∙◌}
use Rattle.std.proofs.lemmas.Result.{err_from_is_err_and}
use Rattle.dup_defs.specs.dup_run_defs.Steps.{printed_first, round, rounds, drains}
use Rattle.dup.proofs.run.StepLemmas.{drain_start, drain_ends, drain_goes, then_same}
use Rattle.dup.proofs.run.drain.drain.Goals as goal

pub returns-in_err-lines-clause-step : goal.returns-in_err-lines-clause-step
returns-in_err-lines-clause-step c =
    let l = c.loop-left in
    let old = c.args.bearer.now in
    let ended = c.in_err-lines.ensures (round l.bearer.sn l.bearer.quota l.bearer.run) c.round-more.new.bearer.run c.round-more.ensures.step in
    let p = err_from_is_err_and c.from_residual.result c.from_residual.ensures.1 in
    rw (p.1, p.2) (drain_ends old l.lines l.left l.bearer c.round-more.new.bearer (drains old.sn old.quota old.run) c.in_err-lines.field-0.0 c.loop-left-test.true
    (sym c.are_empty.ensures ∙ c.if-not-are_empty.true) l.invariant.same
    (l.invariant.all ∙ drain_start old c.new-lines.result c.work-left.result c.new-lines.ensures c.work-left.ensures) ended)

pub loop-left-preserved : goal.loop-left-preserved
loop-left-preserved c =
    let l = c.loop-left in
    let old = c.args.bearer.now in
    let whole = printed_first c.new-lines.result (rounds old.sn old.quota c.work-left.result old.run) in
    record {
      all = drain_goes old l.lines l.left l.bearer c.round-more.new.bearer whole c.in_ok-lines.lines c.loop-left-test.true (sym c.are_empty.ensures ∙ c.if-not-are_empty.true)
          l.invariant.same l.invariant.all (c.in_ok-lines.ensures (round l.bearer.sn l.bearer.quota l.bearer.run) c.round-more.new.bearer.run c.round-more.ensures.step);
      same = then_same old l.bearer c.round-more.new.bearer c.round-more.result (Ok c.in_ok-lines.lines) l.lines l.invariant.same c.round-more.ensures.same c.in_ok-lines.ensures;
    }
