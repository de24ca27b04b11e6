-- What the units of a string are seen as.
use Rattle.std.specs.Prelude.{ℕ, List, map}
use Rattle.bits_core.specs.Bits.{bit_value}
use Rattle.aper_defs.specs.Parts.{Content, of_bits, of_octets, of_characters}
use Rattle.aper_fields.specs.declared.strings.Units.{Units}
use Rattle.aper_fields.specs.declared.strings.Units.TheVariants.{Bits, Octets, Characters}

abbrev pub content_of : Units → Content
content_of (Bits bs) = of_bits
content_of (Octets os) = of_octets
content_of (Characters cs) = of_characters

abbrev pub units_of : Units → List ℕ
units_of (Bits bs) = map bit_value bs.now
units_of (Octets os) = os.now
units_of (Characters cs) = cs.now
