-- Bounds of numbers, of sizes (X.680, 51.5) and of the type INTEGER (X.680, clause 19).
use Rattle.std.specs.Prelude.{ℕ, ◌+◌, ◌-◌, ◌^◌, Bool, if◌then◌else◌, ℤ, pos, negsuc, ◌+ℤ◌, max}
use Rattle.std.specs.Int.{int_min}

-- a number that isn't negative
abbrev pub natural : ℤ → ℕ
natural (pos n) = n
natural (negsuc n) = 0

-- The least upper bound that a size above this lower one may have: that of a PrintableString is at least 3.
abbrev pub least_high : Bool → ℕ → ℕ
least_high is_text low = if is_text then max (low + 1) 3 else low + 1

-- the least and the greatest bound, and the greatest beside a least one
abbrev pub integer_least : ℤ
integer_least = negsuc (2 ^ 63 - 1)

abbrev pub integer_greatest : ℤ
integer_greatest = pos (2 ^ 64 - 1)

abbrev pub greatest_beside : ℤ → ℤ
greatest_beside low = int_min integer_greatest (low +ℤ pos (2 ^ 64 - 1))
