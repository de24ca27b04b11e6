-- Which JSON is which value of a type (RFC 8259, in this project's form): it shows the value, and the value is one of the type.
use Rattle.std.specs.Prelude.{[]}
use Rattle.serde_json.specs.Data.{Data}
use Rattle.aper_defs.specs.Values.{Value}
use Rattle.aper_defs.specs.Membership.{Has}
use Rattle.json_defs.specs.Named.{Named, tree_of}
use Rattle.json_defs.specs.Shown.{Shows}

abbrev pub Json : Named → Data → Value → Type 0
Json t d v = Shows t d v × Has [] (tree_of t) v
