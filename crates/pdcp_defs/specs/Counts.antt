-- The COUNT of a received number (TS 38.323, 5.2.2, 6.3.5), as a function of the number. Each is told of the COUNT raised by
-- one space of numbers, which is never below 0.
use Rattle.std.specs.Prelude.{ℕ, ◌+◌, ◌-◌, ◌%◌, ◌||◌, nat_lt, if◌then◌else◌, Option, Some, None}
use Rattle.gnb_types.specs.declared.names.SnBits.{SnBits}
use Rattle.pdcp.specs.Numbers.{space, half}
use Rattle.pdcp.specs.Near.{last_count}

-- the number of a COUNT
abbrev pub number_of : SnBits → ℕ → ℕ
number_of sn count = count % space sn

-- from low on, the first COUNT with this number
abbrev pub first_from : SnBits → ℕ → ℕ → ℕ
first_from sn low number = low + (number % space sn + space sn - low % space sn) % space sn

-- a COUNT raised by one space, if it is one that is given
abbrev pub lowered : SnBits → ℕ → Option ℕ
lowered sn raised = if nat_lt raised (space sn) || nat_lt (last_count + space sn) raised then None else Some (raised - space sn)

-- the one from half a space below RX_DELIV to half a space above it, which is left out
unfoldable pub near_count : SnBits → ℕ → ℕ → Option ℕ
near_count sn deliv number = lowered sn (first_from sn (deliv + half sn) number)

-- the one among the last space of COUNTs below this one
unfoldable pub count_below : SnBits → ℕ → ℕ → Option ℕ
count_below sn next number = lowered sn (first_from sn next number)
