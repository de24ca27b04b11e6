-- What a unit reads in the octets of a message.
use Rattle.std.specs.Prelude.{◌≡◌, ℕ, List, Result, Ok, Err}
use Rattle.gnb_types.specs.declared.reasons.DropReason.{DropReason}
use Rattle.gnb_types.specs.declared.reasons.DropReason.TheVariants.{Undecodable, Criticality}
use Rattle.aper_defs.specs.Trees.{Tree}
use Rattle.aper_defs.specs.Values.{Value}
use Rattle.aper_defs.specs.Reading.{Fault, decoded}
use Rattle.message_defs.specs.FromValue.{Cause}
use Rattle.message_octets.specs.declared.error.MsgError.{MsgError}
use Rattle.message_octets.specs.declared.error.MsgError.TheVariants as errors

abbrev pub unless_dropped : {M : Type 0} → Result M Cause → Result M DropReason
unless_dropped (Ok msg) = Ok msg
unless_dropped (Err cause) = Err Criticality

abbrev pub read_value : {M : Type 0} → (Value → Result M Cause) → Result Value Fault → Result M DropReason
read_value from_value (Ok v) = unless_dropped (from_value v)
read_value from_value (Err fault) = Err Undecodable

-- the message that the octets say; or why a unit drops them: they spell no value of the type, or no message is heard in it
abbrev pub read_as : {M : Type 0} → Tree → (Value → Result M Cause) → List ℕ → Result M DropReason
read_as t from_value octets = read_value from_value (decoded t octets)

-- This is read, by what was answered. Where memory ran out nothing is.
abbrev pub IsReading : {M : Type 0} → Result M MsgError → Result M DropReason → Type 0
IsReading (Ok msg) read = read ≡ Ok msg
IsReading (Err (errors.Refused bit reason path)) read = read ≡ Err Undecodable
IsReading (Err (errors.UnknownProcedure code criticality)) read = read ≡ Err Criticality
IsReading (Err (errors.UnknownIe id)) read = read ≡ Err Criticality
IsReading (Err errors.Memory) read = Unit {0}
