-- What a string is made of, as the definitions have it.
use Rattle.aper_defs.specs.Parts as parts
use Rattle.aper_cursor.specs.declared.strings.units.Content.{Content}
use Rattle.aper_cursor.specs.declared.strings.units.Content.TheVariants as contents

abbrev pub content_of : Content → parts.Content
content_of contents.Bits = parts.of_bits
content_of contents.Octets = parts.of_octets
content_of contents.Characters = parts.of_characters
