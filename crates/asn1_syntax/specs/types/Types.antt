-- The types of a module: each has its place and its number.
use Rattle.std.specs.Prelude.{ℕ, List, length}
use Rattle.asn1_syntax.specs.declared.types.definition.TypeId.{TypeId}
use Rattle.asn1_syntax.specs.declared.types.definition.Definition.{Definition}
use Rattle.asn1_syntax.specs.declared.types.definition.Node.{Node}

abbrev pub node : Definition → ℕ → Node
node definition place = record { definition = definition; place = place }

-- the number of a new type
abbrev pub next_id : List Node → TypeId
next_id nodes = record { number = length nodes }
