-- What octets spell a value.
use Rattle.std.specs.Prelude.{◌≡◌, ℕ, ◌≤◌, List, [], length}
use Rattle.bits_core.specs.Bits.{octet_bits}
use Rattle.aper_defs.specs.Trees.{Tree}
use Rattle.aper_defs.specs.Values.{Value}
use Rattle.aper_defs.specs.Fields.{Field}
use Rattle.aper_defs.specs.Bits.{put_all, closed}
use Rattle.aper_defs.specs.Layouts.{layout}
use Rattle.aper_defs.specs.Membership.{Has}

-- the greatest number of octets
abbrev pub spelling_limit : ℕ
spelling_limit = 131072

-- the fields of a complete encoding
abbrev pub whole_layout : Tree → Value → List Field
whole_layout t v = closed [] (layout [] t v)

-- The octets are the complete encoding of a value of the type.
pub record Spells (t : Tree) (v : Value) (octets : List ℕ) : Type 0 where
  pub has : Has [] t v
  pub bits : octet_bits octets ≡ put_all [] (whole_layout t v)
  pub short : length octets ≤ spelling_limit
