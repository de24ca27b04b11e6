-- How many bits or octets a number takes at least (X.691, 11.3 and 11.4), and the numbers of INTEGER.
use Rattle.std.specs.Prelude.{ℕ, zero, suc, ◌+◌, ◌-◌, ◌*◌, ◌^◌, Bool, nat_lt, ◌&&◌, if◌then◌else◌, ℤ, pos, negsuc, ◌-ℤ◌}
use Rattle.std.specs.Int.Signed.{le_z}
pub use Rattle.asn1_syntax.specs.types.Sizes.{natural}

-- The least count, from one on, such that n is below 2 to the power of so many times the unit; at most so many more are tried.
abbrev pub least_count : (unit tries count n : ℕ) → ℕ
least_count unit zero count n = count
least_count unit (suc tries) count n = if nat_lt n (2 ^ (unit * count)) then count else least_count unit tries (count + 1) n

-- the fewest bits of a number below 256
abbrev pub bits_for : ℕ → ℕ
bits_for n = least_count 1 8 0 n

-- the fewest octets of a number below 2^64, at least one
abbrev pub octets_for : ℕ → ℕ
octets_for n = least_count 8 7 1 n

-- a number without its sign's bit: that of -1 is 0
abbrev pub unsigned_part : ℤ → ℕ
unsigned_part (pos n) = n
unsigned_part (negsuc n) = n

-- The fewest octets in two's complement of a number of 64 bits: the number without its sign's bit leaves the highest bit free.
abbrev pub signed_octets_for : ℤ → ℕ
signed_octets_for z = octets_for (2 * unsigned_part z)

-- the number that so many octets in two's complement are, and back
abbrev pub twos_complement : ℕ → ℤ → ℕ
twos_complement octets (pos n) = n
twos_complement octets (negsuc n) = 2 ^ (8 * octets) - 1 - n

abbrev pub signed_number : ℕ → ℕ → ℤ
signed_number octets n = if nat_lt n (2 ^ (8 * octets - 1)) then pos n else negsuc (2 ^ (8 * octets) - 1 - n)

-- the number of 64 bits with a sign
abbrev pub is_signed : ℤ → Bool
is_signed z = nat_lt (unsigned_part z) (2 ^ 63)

abbrev pub in_range : ℤ → ℤ → ℤ → Bool
in_range low high z = le_z low z && le_z z high

-- how far a number is above another one
abbrev pub above : ℤ → ℤ → ℕ
above low z = natural (z -ℤ low)
