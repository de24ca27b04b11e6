-- What is answered where this is heard, and where octets spell nothing.
use Rattle.std.specs.Prelude.{◌≡◌, ◌⊎◌, ℕ, List, Option, None, Result, Ok, Err}
use Rattle.aper_defs.specs.Trees.{Tree}
use Rattle.aper_defs.specs.Values.{Value}
use Rattle.aper_defs.specs.Spelling.{Spells}
use Rattle.aper_defs.specs.Reading.{decoded}
use Rattle.message_defs.specs.FromValue.{Cause, unknown_procedure, unknown_element}
use Rattle.message_octets.specs.declared.error.MsgError.{MsgError}
use Rattle.message_octets.specs.declared.error.MsgError.TheVariants as errors

abbrev pub answer_of : {M : Type 0} → Result M Cause → Result M MsgError
answer_of (Ok msg) = Ok msg
answer_of (Err (unknown_procedure code criticality)) = Err (errors.UnknownProcedure code criticality)
answer_of (Err (unknown_element id)) = Err (errors.UnknownIe id)

-- this answer, or out of memory
abbrev pub IsUnlessMemory : {M : Type 0} → (result answer : Result M MsgError) → Type 0
IsUnlessMemory result answer = (result ≡ answer) ⊎ (result ≡ Err errors.Memory)

-- no value of the type is spelled so
abbrev pub SpellsNone : Tree → List ℕ → Type 0
SpellsNone t octets = (v : Value) → Spells t v octets → ⊥

-- the first wrong field, or out of memory
abbrev pub IsRefusal : {M : Type 0} → Result M MsgError → Type 0
IsRefusal (Err (errors.Refused bit reason path)) = Unit {0}
IsRefusal (Err errors.Memory) = Unit {0}
IsRefusal result = ⊥

-- The octets spell a value that says this message, and none of its information elements is to be rejected.
abbrev pub AreSaidIn : {M : Type 0} → Tree → (M → Value → Type 0) → (Value → Option ℕ) → M → List ℕ → Type 0
AreSaidIn t Says rejected msg octets = (v : Value) × Spells t v octets × Says msg v × (rejected v ≡ None)

-- an answer is a message exactly where it is so said, unless memory runs out
pub record IsMessageWhereSaid (M : Type 0) (answers : Result M MsgError → Type 0) (msg : M) (Said : Type 0) : Type 0 where
  pub said : answers (Ok msg) → Said
  pub answered : Said → (result : Result M MsgError) → answers result → IsUnlessMemory result (Ok msg)

-- this message is heard in the value that is found in the octets
abbrev pub IsFoundIn : {M : Type 0} → Tree → (Value → Result M Cause) → M → List ℕ → Type 0
IsFoundIn t from_value msg octets = (v : Value) × (decoded t octets ≡ Ok v) × (from_value v ≡ Ok msg)
