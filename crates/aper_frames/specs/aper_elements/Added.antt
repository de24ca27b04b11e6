-- Internal: an alternative past the root of a CHOICE, by what its additions have at its place.
use Rattle.std.specs.Prelude.{ℕ, ◌∷◌, Option, Some, None}
use Rattle.asn1_syntax.specs.declared.types.definition.Component.{Component}
use Rattle.aper_defs.specs.Trees.{Tree}
use Rattle.aper_defs.specs.Values as seen
use Rattle.aper_defs.specs.Fields.{Path}
use Rattle.aper_defs.specs.Fields as fields
use Rattle.aper_defs.specs.Questions.{Prog, ask_open, ask_raw}
use Rattle.aper_defs.specs.Asking.{asks}

abbrev pub asked_added : (ℕ → Tree) → Path → (seen.Value → Prog) → Option Component → Prog
asked_added of p J None = ask_raw p p J
asked_added of p J (Some part) =
    ask_open p (fields.component part.name ∷ p) (asks (fields.component part.name ∷ p) (of part.definition.number)) J
