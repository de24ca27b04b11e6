use Rattle.std.proofs.Common.{◌≡◌, ◌-◌}
use Rattle.asn1_syntax.specs.types.inside.Reading.{repeat_at}
use Rattle.asn1_syntax.specs.types.Members.{no_parts}
use Rattle.asn1_syntax.specs.types.inside.Members.{names_turn_at}
use Rattle.asn1_syntax.proofs.types.reader.Reader.names.Given as goal

abbrev pub invariant-loop : goal.invariant-loop
invariant-loop l = repeat_at names_turn_at (l.turns - l.counter) l.names l.self ≡ repeat_at names_turn_at l.turns no_parts l.fn.self
