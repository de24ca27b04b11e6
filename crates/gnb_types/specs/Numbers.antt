-- Numbers of two, three and four octets, the highest first.
use Rattle.std.specs.Prelude.{ℕ, ◌/◌, ◌%◌, List, [], ◌∷◌}

abbrev pub be16 : ℕ → List ℕ
be16 n = n / 256 % 256 ∷ n % 256 ∷ []

abbrev pub be24 : ℕ → List ℕ
be24 n = n / 65536 % 256 ∷ be16 n

abbrev pub be32 : ℕ → List ℕ
be32 n = n / 16777216 % 256 ∷ be24 n
