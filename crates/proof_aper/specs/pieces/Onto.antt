-- A place in octets after which more come.
use Rattle.std.specs.Prelude.{◌≡◌, ℕ, List, ◌++◌, Result, Err}
use Rattle.aper_defs.specs.declared.reason.Reason.{Reason}
use Rattle.aper_defs.specs.declared.reason.Reason.TheVariants as reasons
use Rattle.aper_defs.specs.Values.{Value}
use Rattle.aper_defs.specs.Reading.{Cursor, Fault}

abbrev pub onto : List ℕ → Cursor → Cursor
onto more c = record { octets = c.octets ++ more; place = c.place; opens = c.opens }

-- Refused at the same bit, on the same way, and for the same reason. Past the greatest length of an encoding it may be another one: a
-- length determinant of which no octet is there counts as one octet, and as two octets it may pass the end of an open type first.
pub record StillRefused (now : Result (Value × Cursor) Fault) (fault : Fault) : Type 0 where
  pub why : Reason
  pub is : now ≡ Err (record { bit = fault.bit; reason = why; path = fault.path })
  pub same : (fault.reason ≡ reasons.TooLong → ⊥) → why ≡ fault.reason
