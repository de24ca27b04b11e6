use Rattle.std.proofs.Common.{◌≡◌}
use Rattle.dup_defs.specs.dup_run_defs.Steps.{printed_first}
use Rattle.dup_bearer.specs.Bearers.{with_run}
use Rattle.dup.specs.run.inside.Loops.{times, step_by}
use Rattle.dup.proofs.run.drain.all.Given as goal

-- the steps so far, and so many more, are all
abbrev pub invariant-loop-left : goal.invariant-loop-left
invariant-loop-left l = record {
  all : printed_first l.lines (times (step_by l.initial.bearer.sn l.initial.bearer.quota l.part l.leg) l.left l.bearer.run)
      ≡ printed_first l.initial.lines (times (step_by l.initial.bearer.sn l.initial.bearer.quota l.part l.leg) l.initial.left l.initial.bearer.run);
  same : l.bearer ≡ with_run l.initial.bearer l.bearer.run;
}

abbrev pub decreases-loop-left : goal.decreases-loop-left
decreases-loop-left l = l.left
