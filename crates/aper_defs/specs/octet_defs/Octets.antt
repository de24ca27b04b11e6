-- The octets of a value of a type: those that its layout fills, if the value is found in them again. So they are its one spelling where it
-- has one, and none where it isn't a value of the type or is too long.
use Rattle.std.specs.Prelude.{ℕ, List, [], replicate, Bool, false, Result, Ok, Err, if◌then◌else◌}
use Rattle.bits_core.specs.Bits.{numbers_at}
use Rattle.aper_defs.specs.Trees.{Tree}
use Rattle.aper_defs.specs.Values.{Value}
use Rattle.aper_defs.specs.Bits.{put_all, octet_count}
use Rattle.aper_defs.specs.Spelling.{whole_layout}
use Rattle.aper_defs.specs.Reading.{Fault, decoded}
use Rattle.aper_defs.specs.octet_defs.SameValues.{same_value}

-- bits as so many octets
abbrev pub octets_of : ℕ → List Bool → List ℕ
octets_of count bits = numbers_at (replicate count 8) bits

-- the octets that its layout fills
abbrev pub laid_out : Tree → Value → List ℕ
laid_out t v = octets_of (octet_count (whole_layout t v)) (put_all [] (whole_layout t v))

-- this value was found
abbrev pub is_found : Value → Result Value Fault → Bool
is_found v (Ok w) = same_value w v
is_found v (Err fault) = false

unfoldable pub spelled_as : Tree → Value → List ℕ
spelled_as t v = if is_found v (decoded t (laid_out t v)) then laid_out t v else []
