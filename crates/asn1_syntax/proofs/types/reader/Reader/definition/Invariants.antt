use Rattle.std.proofs.Common.{◌≡◌, ◌-◌, []}
use Rattle.asn1_syntax.specs.types.inside.Types.{type_within_at}
use Rattle.asn1_syntax.proofs.types.reader.Reader.definition.Given as goal

abbrev pub invariant-loop : goal.invariant-loop
invariant-loop l = type_within_at l.turns (l.turns - l.counter) l.stack l.nodes l.self ≡ type_within_at l.turns l.turns [] l.fn.nodes l.fn.self
