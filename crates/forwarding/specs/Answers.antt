-- What a call that writes octets comes to: the octets or a refusal are those that are told, but it may be out of memory where octets are.
use Rattle.std.specs.Prelude.{◌≡◌, ℕ, List, Result, Ok, Err}
use Rattle.forwarding.specs.declared.error.HopError.{HopError}
use Rattle.forwarding.specs.declared.error.HopError.TheVariants as errors

abbrev pub Answers : Result (List ℕ) HopError → Result (List ℕ) HopError → Type 0
Answers (Ok octets) (Ok given) = given ≡ octets
Answers (Ok octets) (Err errors.Memory) = Unit {0}
Answers (Ok octets) (Err error) = ⊥
Answers (Err error) (Ok given) = ⊥
Answers (Err error) (Err given) = given ≡ error
