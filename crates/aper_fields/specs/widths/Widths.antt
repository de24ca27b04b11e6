-- Internal: how many bits strings have.
use Rattle.std.specs.Prelude.{ℕ, ◌+◌, ◌*◌, ◌/◌, ◌%◌}
use Rattle.aper_defs.specs.Bits.{part_units, extent_width}
use Rattle.aper_defs.specs.Parts.{Content, of_bits, of_octets, of_characters}

abbrev pub units_width : Content → ℕ → ℕ
units_width of_bits count = count
units_width of_octets count = 8 * count
units_width of_characters count = 8 * count

-- the lengths of the parts of a string: an octet for each of up to four times 16,384 units, and the last one
abbrev pub lengths_width : ℕ → ℕ
lengths_width count = 8 * ((count / part_units + 3) / 4) + extent_width (count % part_units)
