-- What a bit writer is seen as, and what its calls do.
use Rattle.std.specs.Prelude.{◌≡◌, ℕ, ◌<◌, ◌^◌, Bool, true, false, List, ◌++◌, Result, Ok, Err, vec_len}
use Rattle.std.specs.Vec.{vec_capacity}
use Rattle.gnb_types.specs.declared.items.Memory.{Memory}
use Rattle.bits_core.specs.declared.writer.BitWriter.TheInside.{Inside}
use Rattle.bits_core.specs.Bits.{bits_of, octet_bits}

-- the bits put so far, and whether memory ran out
pub record Written : Type 0 where
  pub bits : List Bool
  pub failed : Bool

-- whole octets, and then the bits of the begun one
abbrev pub written_of : Inside → Written
written_of w = record { bits = octet_bits w.octets.items ++ bits_of w.used w.last; failed = w.failed }

-- there is room for the begun octet
pub record HasRoom (w : Inside) : Type 0 where
  pub used : w.used < 8
  pub last : w.last < 2 ^ w.used
  pub room : 0 < w.used → vec_len w.octets < vec_capacity w.octets

-- bits were put, or memory ran out, and the writer has failed
abbrev pub Puts : Written → Written → List Bool → Result (Unit {0}) Memory → Type 0
Puts old new bits (Ok done) = (old.failed ≡ false) × (new ≡ record { bits = old.bits ++ bits; failed = false })
Puts old new bits (Err e) = new.failed ≡ true

-- some of the lowest bits of a value were put, and so many are left
abbrev pub PutsSome : Written → Written → ℕ → ℕ → Result ℕ Memory → Type 0
PutsSome old new value left (Ok rest) =
    (rest < left) × (new.failed ≡ false) × (new.bits ++ bits_of rest value ≡ old.bits ++ bits_of left value)
PutsSome old new value left (Err e) = new.failed ≡ true
