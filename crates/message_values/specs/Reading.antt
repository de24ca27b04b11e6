-- What is answered to a value: what the definitions hear in it, or out of memory.
use Rattle.std.specs.Prelude.{◌≡◌, Result, Ok, Err}
use Rattle.message_defs.specs.FromValue.{Cause, unknown_procedure, unknown_element}
use Rattle.message_values.specs.declared.error.MsgError.{MsgError}
use Rattle.message_values.specs.declared.error.MsgError.TheVariants as errors

abbrev pub IsFromValue : {M : Type 0} → Result M Cause → Result M MsgError → Type 0
IsFromValue from_value (Ok msg) = from_value ≡ Ok msg
IsFromValue from_value (Err (errors.UnknownProcedure code criticality)) = from_value ≡ Err (unknown_procedure code criticality)
IsFromValue from_value (Err (errors.UnknownIe id)) = from_value ≡ Err (unknown_element id)
IsFromValue from_value (Err errors.Memory) = Unit {0}
