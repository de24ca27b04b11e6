-- What is answered to octets that come for a message.
use Rattle.std.specs.Prelude.{◌≡◌, ℕ, List, Result, Ok, Err}
use Rattle.aper_defs.specs.Trees.{Tree}
use Rattle.aper_defs.specs.Values.{Value}
use Rattle.aper_defs.specs.Spelling.{Spells}
use Rattle.aper.specs.declared.error.DecodeError.{DecodeError}
use Rattle.aper.specs.declared.error.DecodeError.TheVariants as undecodeds
use Rattle.aper.specs.Refusals.{IsRefused, IsFirstWrong}
use Rattle.message_defs.specs.FromValue.{Cause, unknown_procedure, unknown_element}
use Rattle.message_values.specs.declared.error.MsgError.{MsgError as ValueError}
use Rattle.message_values.specs.declared.error.MsgError.TheVariants as unheards
use Rattle.message_octets.specs.declared.error.MsgError.{MsgError}
use Rattle.message_octets.specs.declared.error.MsgError.TheVariants as errors

-- the error of a decoder, and of what hears messages in values, handed on
abbrev pub undecoded : DecodeError → MsgError
undecoded (undecodeds.Refused bit reason path) = errors.Refused bit reason path
undecoded undecodeds.Memory = errors.Memory

abbrev pub unheard : ValueError → MsgError
unheard (unheards.UnknownProcedure code criticality) = errors.UnknownProcedure code criticality
unheard (unheards.UnknownIe id) = errors.UnknownIe id
unheard unheards.Memory = errors.Memory

-- The octets spell a value of the type in which this is heard: a message, or why it is none.
abbrev pub AreFromValue : {M : Type 0} → Tree → (Value → Result M Cause) → List ℕ → Result M Cause → Type 0
AreFromValue t from_value octets this = (v : Value) × Spells t v octets × (from_value v ≡ this)

-- A message is heard in the value that the octets spell; or they spell none, and this is their first wrong field; or no message is heard
-- there, for this cause. Out of memory is unspecified.
abbrev pub IsFromValueIn : {M : Type 0} → Tree → (Value → Result M Cause) → List ℕ → Result M MsgError → Type 0
IsFromValueIn t from_value octets (Ok msg) = AreFromValue t from_value octets (Ok msg)
IsFromValueIn t from_value octets (Err (errors.Refused bit reason path)) = IsRefused t octets bit reason path × IsFirstWrong t octets bit reason path
IsFromValueIn t from_value octets (Err (errors.UnknownProcedure code criticality)) =
    AreFromValue t from_value octets (Err (unknown_procedure code criticality))
IsFromValueIn t from_value octets (Err (errors.UnknownIe id)) = AreFromValue t from_value octets (Err (unknown_element id))
IsFromValueIn t from_value octets (Err errors.Memory) = Unit {0}
