-- What a unit reads is heard in the value that is found.
use Rattle.std.proofs.Common.{◌≡◌, ℕ, List, Result, Ok, Err, refl}
use Rattle.aper_defs.specs.Trees.{Tree}
use Rattle.aper_defs.specs.Values.{Value}
use Rattle.aper_defs.specs.Reading.{Fault, decoded}
use Rattle.message_defs.specs.FromValue.{Cause}
use Rattle.message_octets.specs.Reading.{unless_dropped, read_value, read_as}
use Rattle.law_messages.specs.law_message_octets.Answered.{IsFoundIn}

module _ (M : Type 0) (t : Tree) (from_value : Value → Result M Cause) (msg : M) (octets : List ℕ) where
  not_dropped : (r : Result M Cause) → unless_dropped r ≡ Ok msg → r ≡ Ok msg
  not_dropped (Ok other) e = cc
  not_dropped (Err cause) e = cc

  found_as : (r : Result Value Fault) → decoded t octets ≡ r → read_value from_value r ≡ Ok msg → IsFoundIn t from_value msg octets
  found_as (Ok v) is e = (v, is, not_dropped (from_value v) e)
  found_as (Err fault) is e = absurd (cc)

  pub found : read_as t from_value octets ≡ Ok msg → IsFoundIn t from_value msg octets
  found e = found_as (decoded t octets) refl e
