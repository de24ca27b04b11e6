-- A number stands for one COUNT, and that of a COUNT in the window for this COUNT.
use Rattle.std.proofs.Common.{◌≡◌, ℕ, ◌+◌, ◌%◌, ◌<◌, ◌≤◌, arith}
use Rattle.gnb_types.specs.declared.names.SnBits.{SnBits}
use Rattle.gnb_types.specs.declared.names.SnBits.TheVariants.{Len12, Len18}
use Rattle.pdcp.specs.Numbers.{space, half}
use Rattle.pdcp.specs.Near.{IsNear, last_count}

pub near_inverts : (sn : SnBits) (low deliv count : ℕ) → low ≤ count → count < low + half sn → low ≤ deliv → deliv ≤ low + half sn
    → count ≤ last_count
    → IsNear sn deliv (count % space sn) count
near_inverts Len12 low deliv count a b c d given = record { same = omega arith; low = omega arith; high = omega arith; given = given }
near_inverts Len18 low deliv count a b c d given = record { same = omega arith; low = omega arith; high = omega arith; given = given }

pub near_is_one : (sn : SnBits) (deliv number one other : ℕ) → IsNear sn deliv number one → IsNear sn deliv number other → one ≡ other
near_is_one Len12 deliv number one other n m = omega arith
near_is_one Len18 deliv number one other n m = omega arith
