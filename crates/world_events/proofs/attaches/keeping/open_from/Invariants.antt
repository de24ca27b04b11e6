use Rattle.std.proofs.Common.{◌+◌, ◌-◌, List}
use Rattle.scenario_text.specs.declared.line.OutLine.{OutLine}
use Rattle.run_links.specs.declared.network.Network.{Network}
use Rattle.world_events.proofs.attaches.Kept.{Opens}
use Rattle.world_events.proofs.attaches.keeping.open_from.Given as goal

abbrev pub invariant-loop-before : goal.invariant-loop-before
invariant-loop-before l = (new : Network) (lines : List OutLine) → Opens l.node (l.first + l.before) (l.count - l.before) l.network new lines
    → Opens l.node l.first l.count l.initial.network new lines
