use Rattle.std.proofs.Common.{◌≡◌, ◌+◌, ◌-◌, ◌*◌, ◌++◌}
use Rattle.run_defs.specs.Conditions.{n3_from}
use Rattle.world_events.proofs.attaches.keeping.n3_from.Given as goal

abbrev pub invariant-loop-before : goal.invariant-loop-before
invariant-loop-before l = l.n3 ++ n3_from (l.before + 1) (l.first + 2 * l.before) (l.bearers - l.before) ≡ n3_from 1 l.first l.bearers
