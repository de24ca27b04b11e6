use Rattle.std.proofs.Common.{◌≡◌, ◌-◌}
use Rattle.asn1_syntax.specs.types.inside.Reading.{repeat_at}
use Rattle.asn1_syntax.specs.assignments.inside.Sets.{rows_with, ie_turn_at}
use Rattle.asn1_syntax.proofs.assignments.sets.ie_set.Given as goal

abbrev pub invariant-loop : goal.invariant-loop
invariant-loop l = repeat_at (ie_turn_at l.turns) (l.turns - l.counter) (rows_with l.rows l.nodes) l.reader ≡ repeat_at (ie_turn_at l.turns) l.turns (rows_with l.initial.rows l.initial.nodes) l.initial.reader
