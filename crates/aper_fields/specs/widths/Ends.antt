-- Where fields end. A place is the number of bits before it.
use Rattle.std.specs.Prelude.{◌≡◌, ℕ, ◌+◌, ◌*◌, ◌^◌, List, ◌++◌, length, max, min, fold}
use Rattle.aper_defs.specs.Fields.{Path, Field, asked, run}
use Rattle.aper_defs.specs.Bits.{width_at, unit_width}

-- The place after 2^64 octets stands for those past it as well.
unfoldable pub place_limit : ℕ
place_limit = 2 ^ 67

-- the place after so many bits; one past the limit stays
abbrev pub passed : ℕ → ℕ → ℕ
passed place width = max place (min (place + width) place_limit)

-- the place after a field that is put at a place, and after fields
abbrev pub after : ℕ → Field → ℕ
after place (asked path question answer) = passed place (width_at place question answer)
after place (run path unit units) = passed place (unit_width unit * length units)

unfoldable pub end_of : ℕ → List Field → ℕ
end_of place fields = fold after place fields

-- Whatever fields come after these ones, all together end where the others do from `new` on: these end there. The way to a value has no
-- bits, so they do on each.
abbrev pub Ends : ℕ → ℕ → (Path → List Field) → Type 0
Ends old new fields = (p : Path) (rest : List Field) → end_of old (fields p ++ rest) ≡ end_of new rest
