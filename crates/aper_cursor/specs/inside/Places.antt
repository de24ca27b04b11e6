-- Internal: a cursor's fields, and what its steps do.
use Rattle.std.specs.Prelude.{◌≡◌, ℕ, ◌+◌, ◌*◌, ◌-◌, ◌^◌, ◌<◌, ◌≤◌, List, [], ◌∷◌, length, take as first, map, reverse, min, None, Some, Result, Ok, Err}
use Rattle.bits_core.specs.Bits.{number_of}
use Rattle.aper_defs.specs.declared.reason.Reason.{Reason}
use Rattle.aper_defs.specs.Reading.{Cursor, Opened, outer, passes, bits_at, bit_limit}
use Rattle.aper_cursor.specs.declared.cursor.OpenType.{OpenType}
use Rattle.aper_cursor.specs.declared.cursor.Cursor.TheInside.{Inside}

abbrev pub opened : OpenType → Opened
opened o = record { start = o.start; finish = o.finish }

abbrev pub place_of : Inside → Cursor
place_of c = record { octets = c.octets.now; place = c.place; opens = map opened (reverse c.opens.items) }

-- an end that nothing passes
abbrev pub no_end : ℕ
no_end = 2 ^ 64 - 1

-- the nearest end of open types, the innermost first
abbrev pub IsNearest : ℕ → List OpenType → Type 0
IsNearest nearest [] = nearest ≡ no_end
IsNearest nearest (o ∷ opens) = (nearest ≡ min o.finish o.around) × IsNearest o.around opens

pub record IsPlace (c : Inside) : Type 0 where
  pub short : length c.octets.now < 2 ^ 61
  pub within : c.place ≤ 8 * length c.octets.now
  pub limit : c.place ≤ bit_limit
  pub nearest : IsNearest c.nearest (reverse c.opens.items)

-- so many bits as a number, or what they pass
abbrev pub Looks : Cursor → ℕ → Result ℕ Reason → Type 0
Looks c width (Ok n) = (passes c width ≡ None) × (n ≡ number_of (first width (bits_at c))) × (n < 2 ^ width)
Looks c width (Err reason) = passes c width ≡ Some reason

-- inside an open type of so many octets, and outside again
abbrev pub entered : ℕ → Cursor → Cursor
entered count c =
    record { octets = c.octets; place = c.place; opens = record { start = c.place; finish = c.place + 8 * count } ∷ c.opens }

abbrev pub left_open : Cursor → Cursor
left_open c = record { octets = c.octets; place = c.place; opens = outer c.opens }
