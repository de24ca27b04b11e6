-- What the calls give together that answer a line.
use Rattle.std.proofs.Common.{◌≡◌, ℕ, List, Result, Ok, Err, sym, subst, Some}
use Rattle.gnb_types.specs.Hex.{read_hex}
use Rattle.asn1_syntax.specs.declared.assignments.assignment.Syntax.{Syntax}
use Rattle.aper_defs.specs.Values.{Value}
use Rattle.json_defs.specs.declared.fault.JsonFault.TheVariants as faults
use Rattle.json_defs.specs.type_defs.Types.{named}
use Rattle.values_json.specs.declared.error.JsonError.{JsonError}
use Rattle.values_json.specs.declared.error.JsonError.TheVariants as errors
use Rattle.values_json.specs.Texts.{IsNoJson, IsTextOf, HasFault, OnNotJson, OnFault}
use Rattle.command_values.specs.declared.way.Way.TheVariants.{Encode, Decode}
use Rattle.command_values.specs.declared.answer.Unanswered.{Unanswered}
use Rattle.command_values.specs.declared.answer.Unanswered.TheVariants.{Wrong, Memory}
use Rattle.command_values.specs.Answers.{NoJson, Faulty, Long, Misspelled}
use Rattle.command_values.specs.inside.Answered.{IsWrongJson, SpelledMeets, ShownMeets, AnswerMeets}

module _ (m : Syntax) (id : ℕ) (line : List ℕ) where
  pub encoded : (v : Value) (r : Result (List ℕ) Unanswered) → IsTextOf (named m id) line v → SpelledMeets m id v r
      → AnswerMeets Encode m id line r
  encoded v (Ok text) h s = record { v = v; shows = h; spelled = s }
  encoded v (Err (Wrong w)) h s = Long v h s.0 s.1
  encoded v (Err Memory) h s = tt

  pub unencoded : (error : JsonError) (u : Unanswered) → OnNotJson (Err error) (IsNoJson line)
      → OnFault (Err error) (HasFault (named m id) line) → IsWrongJson error u → AnswerMeets Encode m id line (Err u)
  unencoded errors.NotJson (Wrong w) n f e = NoJson n e
  unencoded errors.NotJson Memory n f e = tt
  unencoded (errors.Shape path) (Wrong w) n f e = Faulty faults.Shape path f e
  unencoded (errors.Shape path) Memory n f e = tt
  unencoded (errors.Range path) (Wrong w) n f e = Faulty faults.Range path f e
  unencoded (errors.Range path) Memory n f e = tt
  unencoded errors.Memory u n f e = subst (λ (x : Unanswered). AnswerMeets Encode m id line (Err x)) (sym e) tt

  pub decoded : (octets : List ℕ) (r : Result (List ℕ) Unanswered) → read_hex line ≡ Some octets → ShownMeets m id octets r
      → AnswerMeets Decode m id line r
  decoded octets (Ok text) h s = record { octets = octets; digits = h; v = s.0; spells = s.1; shown = s.2; again = s.3 }
  decoded octets (Err (Wrong w)) h s = Misspelled octets h s
  decoded octets (Err Memory) h s = tt

  pub decoded_bytes : (bytes octets : List ℕ) (r : Result (List ℕ) Unanswered) → bytes ≡ octets → read_hex line ≡ Some octets
      → ShownMeets m id bytes r → AnswerMeets Decode m id line r
  decoded_bytes bytes octets r e h s = decoded octets r h (subst (λ (os : List ℕ). ShownMeets m id os r) e s)
