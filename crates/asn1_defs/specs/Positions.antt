-- Lines and columns of a text.
use Rattle.std.specs.Prelude.{ℕ, ◌+◌, ◌==◌, List, length, take_while, reverse, count_by, not}

-- the line and column of what follows these octets, both from 1: a column is an octet
abbrev pub line_after : List ℕ → ℕ
line_after front = count_by (λ c. c == 10) front + 1

abbrev pub column_after : List ℕ → ℕ
column_after front = length (take_while (λ c. not (c == 10)) (reverse front)) + 1
