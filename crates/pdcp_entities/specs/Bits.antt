-- The bitmap of a status report as truth values (TS 38.323, 6.3.11).
use Rattle.std.specs.Prelude.{ℕ, ◌/◌, ◌%◌, ◌==◌, Bool, List, [], ◌∷◌, ◌++◌}

-- the eight bits of an octet, the highest first
abbrev pub octet_bits : ℕ → List Bool
octet_bits o =
    (o / 128 % 2 == 1) ∷ (o / 64 % 2 == 1) ∷ (o / 32 % 2 == 1) ∷ (o / 16 % 2 == 1)
    ∷ (o / 8 % 2 == 1) ∷ (o / 4 % 2 == 1) ∷ (o / 2 % 2 == 1) ∷ (o % 2 == 1) ∷ []

unfoldable pub bits_of : List ℕ → List Bool
bits_of [] = []
bits_of (octet ∷ octets) = octet_bits octet ++ bits_of octets
