-- Which of several parts is a member of an object: the first of them, with its place.
use Rattle.std.specs.Prelude.{ℕ, suc, List, [], ◌∷◌, Option, None}
use Rattle.serde_json.specs.Data.{Data, Members}
use Rattle.serde_json.specs.Find.{get_member}
use Rattle.asn1_syntax.specs.declared.types.definition.Component.{Component}
use Rattle.json_defs.specs.Readings.{first_of, numbered}

abbrev pub part_in : List Component → ℕ → Members → Option (ℕ × Data)
part_in [] i ms = None
part_in (c ∷ cs) i ms = first_of (numbered i (get_member c.name ms)) (part_in cs (suc i) ms)
