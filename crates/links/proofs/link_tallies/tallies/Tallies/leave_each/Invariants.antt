use Rattle.std.proofs.Common.{◌≡◌, length}
use Rattle.links.specs.link_tallies.Tallies.{all_left}
use Rattle.links.proofs.link_tallies.tallies.Tallies.leave_each.Given as goal

abbrev pub invariant-loop-item : goal.invariant-loop-item
invariant-loop-item g l = all_left l.self l.items.items ≡ all_left l.initial.self l.initial.items.items

abbrev pub decreases-loop-item : goal.decreases-loop-item
decreases-loop-item g l = length l.items.items
