-- What is so of a text that isn't read as a module.
use Rattle.std.specs.Prelude.{ℕ, List}
use Rattle.asn1_module.specs.declared.error.ModuleError.{ModuleError}
use Rattle.asn1_module.specs.declared.error.ModuleError.TheVariants as errors
use Rattle.asn1_defs.specs.Readings.{WrongText}

-- an error in place of a module; out of memory nothing is said
abbrev pub IsRefusal : List ℕ → ModuleError → Type 0
IsRefusal text (errors.Refused line column reason) = WrongText text line column reason
IsRefusal text errors.Memory = Unit {0}
