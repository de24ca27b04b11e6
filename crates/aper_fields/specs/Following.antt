-- What it is that fields were put.
use Rattle.std.specs.Prelude.{◌≡◌, List, ◌++◌}
use Rattle.bits_core.specs.Writing.{Written}
use Rattle.aper_defs.specs.Fields.{Path, Field}
use Rattle.aper_defs.specs.Bits.{put_all}

-- Whatever fields come after these ones, all together have the bits that the others have after what was written: these were put. The
-- way to a value has no bits, so they were put for each.
abbrev pub Follows : Written → Written → (Path → List Field) → Type 0
Follows old new fields = (p : Path) (rest : List Field) → put_all old.bits (fields p ++ rest) ≡ put_all new.bits rest
