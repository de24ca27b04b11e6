use Rattle.std.proofs.Common.{◌≡◌, ◌-◌}
use Rattle.asn1_syntax.specs.types.inside.Reading.{repeat_at}
use Rattle.asn1_syntax.specs.assignments.inside.Module.{module_turn_at}
use Rattle.asn1_syntax.proofs.assignments.syntax.assignments.Given as goal

abbrev pub invariant-loop : goal.invariant-loop
invariant-loop l = repeat_at (module_turn_at l.turns) (l.turns - l.counter) (record { assignments = l.found; nodes = l.nodes }) l.reader ≡ repeat_at (module_turn_at l.turns) l.turns (record { assignments = l.initial.found; nodes = l.initial.nodes }) l.initial.reader
