use Rattle.std.proofs.Common.{◌≡◌}
use Rattle.dup_defs.specs.dup_run_defs.Steps.{printed_first, rounds}
use Rattle.dup_bearer.specs.Bearers.{with_run}
use Rattle.dup.proofs.run.drain.drain.Given as goal

-- the rounds so far, and so many more, are all
abbrev pub invariant-loop-left : goal.invariant-loop-left
invariant-loop-left l = record {
  all : printed_first l.lines (rounds l.initial.bearer.sn l.initial.bearer.quota l.left l.bearer.run)
      ≡ printed_first l.initial.lines (rounds l.initial.bearer.sn l.initial.bearer.quota l.initial.left l.initial.bearer.run);
  same : l.bearer ≡ with_run l.initial.bearer l.bearer.run;
}

abbrev pub decreases-loop-left : goal.decreases-loop-left
decreases-loop-left l = l.left
