-- The fields of an INTEGER past its range, after the extension bit (ITU-T X.691, 13.1).
use Rattle.std.specs.Prelude.{List, [], ◌∷◌, None, ℤ}
use Rattle.aper_defs.specs.Numbers.{signed_octets_for, twos_complement}
use Rattle.aper_defs.specs.Fields.{Path, Field, asked, pad, extent, whole, signed}

abbrev pub outside_fields : Path → ℤ → ℤ → ℤ → List Field
outside_fields p low high z =
    let count = signed_octets_for z in
    asked p pad 0 ∷ asked p (extent (whole 1 8 None)) count ∷ asked p (signed count low high) (twos_complement count z) ∷ []
