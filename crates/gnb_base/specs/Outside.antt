-- What is seen of the outside of the program: its bytes, where they are reported, and its counts.
use Rattle.std.specs.Prelude.{◌≡◌, ◌+◌, ◌-◌, ◌^◌, ℕ, Bool, List, Option, Result, OnOk, OnErr, min}

-- A source: the bytes not yet read, where it reports them, how many reads failed, how many were made, and whether the
-- last one failed. The two counts stand still at their last value.
pub record SourceAt : Type 0 where
  pub left : Option (List ℕ)
  pub faults : ℕ
  pub calls : ℕ
  pub failed : Bool

-- A sink: the bytes taken, where it reports them, how many writes failed, and whether the last write did.
pub record SinkAt : Type 0 where
  pub held : Option (List ℕ)
  pub faults : ℕ
  pub failed : Bool

-- one more, or the last value that a `u64` has
abbrev pub one_more : ℕ → ℕ
one_more n = min (n + 1) (2 ^ 64 - 1)

-- A count rose by one, or stands at its last value.
abbrev pub Rose : ℕ → ℕ → Type 0
Rose before now = now ≡ one_more before

-- A fault, and only a fault, moves the count.
pub record CountsFaults {T E : Type 0} (before now : ℕ) (result : Result T E) : Type 0 where
  pub ok : OnOk result (now ≡ before)
  pub err : OnErr result (Rose before now)
