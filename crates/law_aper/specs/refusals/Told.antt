-- What octets tell: the value that they spell, or the first field at which they go wrong.
use Rattle.std.specs.Prelude.{ℕ, List, Result, Ok, Err}
use Rattle.aper_defs.specs.Trees.{Tree}
use Rattle.aper_defs.specs.Values.{Value}
use Rattle.aper_defs.specs.Spelling.{Spells}
use Rattle.aper_defs.specs.Reading.{Fault}
use Rattle.aper_defs.specs.loose_defs.Wrong.{WrongAt}

abbrev pub Tells : Tree → List ℕ → Result Value Fault → Type 0
Tells t octets (Ok v) = Spells t v octets
Tells t octets (Err fault) = WrongAt t octets fault
