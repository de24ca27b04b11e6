-- Strings in parts: a part of 16,384 octets and a last one of none, and 16,383 octets, which need no parts.
use Rattle.std.specs.Prelude.{List, [], ◌∷◌, ◌++◌, None, replicate}
use Rattle.aper_defs.specs.Trees.{octet_string}
use Rattle.aper_defs.specs.Values.{octets}
use Rattle.law_aper.specs.rows.Row.{Row, spells}

abbrev pub fragments : List Row
fragments =
    spells (octet_string None) (octets (replicate 16384 0)) (0xc1 ∷ (replicate 16384 0 ++ 0 ∷ [])) ∷
    spells (octet_string None) (octets (replicate 16383 0x5a)) (0xbf ∷ 0xff ∷ replicate 16383 0x5a) ∷
    []
