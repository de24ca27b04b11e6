-- What was answered to octets says what a unit reads in them.
use Rattle.std.proofs.Common.{◌≡◌, ℕ, List, Result, Ok, Err, ap, subst, ◌∙◌}
use Rattle.asn1_syntax.specs.declared.assignments.assignment.Syntax.{Syntax}
use Rattle.asn1_defs.specs.Modules.{IsModule}
use Rattle.aper_defs.specs.Trees.{Tree}
use Rattle.aper_defs.specs.Values.{Value}
use Rattle.aper_defs.specs.Bounds.{IsBounded}
use Rattle.aper_defs.specs.Reading.{Fault}
use Rattle.proof_aper.proofs.spelled.Spelled.{spelled_decoded}
use Rattle.aper_values.specs.types.Types.{tree}
use Rattle.aper_values.proofs.types.Bounded.{tree_bounded}
use Rattle.message_defs.specs.FromValue.{Cause}
use Rattle.message_octets.specs.declared.error.MsgError.{MsgError}
use Rattle.message_octets.specs.declared.error.MsgError.TheVariants as errors
use Rattle.message_octets.specs.Answers.{AreFromValue, IsFromValueIn}
use Rattle.message_octets.specs.Reading.{unless_dropped, read_value, read_as, IsReading}

-- a type of a module is within the bounds of encodings
pub bounded : (m s : Syntax) (t : Tree) (n : ℕ) → IsModule m → m ≡ s → tree s n ≡ t → IsBounded t
bounded m s t n is same e = subst (λ (u : Tree). IsBounded u) (ap (λ (x : Syntax). tree x n) same ∙ e) (tree_bounded m n is)

module _ (M : Type 0) (t : Tree) (from_value : Value → Result M Cause) (b : IsBounded t) where
  of_value : (octets : List ℕ) (this : Result M Cause) → AreFromValue t from_value octets this → read_as t from_value octets ≡ unless_dropped this
  of_value octets this h =
      ap (λ (r : Result Value Fault). read_value from_value r) (spelled_decoded t h.0 octets b h.1)
      ∙ ap (λ (r : Result M Cause). unless_dropped r) h.2

  pub reading : (octets : List ℕ) (result : Result M MsgError) → IsFromValueIn t from_value octets result → IsReading result (read_as t from_value octets)
  reading octets (Ok msg) h = of_value octets (Ok msg) h
  reading octets (Err (errors.Refused bit reason path)) h = ap (λ (r : Result Value Fault). read_value from_value r) h.1.1
  reading octets (Err (errors.UnknownProcedure code criticality)) h = of_value octets _ h
  reading octets (Err (errors.UnknownIe id)) h = of_value octets _ h
  reading octets (Err errors.Memory) h = tt
