-- Internal: what the functions that answer a line give each other.
use Rattle.std.specs.Prelude.{◌≡◌, ℕ, List, Result, Ok, Err}
use Rattle.asn1_syntax.specs.declared.assignments.assignment.Syntax.{Syntax}
use Rattle.aper_defs.specs.Values.{Value}
use Rattle.aper_values.specs.types.Types.{tree}
use Rattle.json_defs.specs.declared.fault.JsonFault.TheVariants as faults
use Rattle.json_defs.specs.shown_defs.Printed.{shown_as}
use Rattle.json_defs.specs.type_defs.Types.{named}
use Rattle.serde_json.specs.Written.{compact_text}
use Rattle.aper_defs.specs.Spelling.{Spells}
use Rattle.values_json.specs.Texts.{IsReadAgain}
use Rattle.values_json.specs.declared.error.JsonError.{JsonError}
use Rattle.values_json.specs.declared.error.JsonError.TheVariants as errors
use Rattle.command_values.specs.declared.way.Way.{Way}
use Rattle.command_values.specs.declared.answer.Wrong.{Wrong}
use Rattle.command_values.specs.declared.answer.Unanswered.{Unanswered}
use Rattle.command_values.specs.declared.answer.Unanswered.TheVariants as unanswered
use Rattle.command_values.specs.Answers.{wrong_at, whole_wrong, no_json, fault_number, too_long, IsSpelledBy, IsTooLong, IsWrongSpelling, IsAnswered, IsWrong}

-- it is refused so; memory may have run out instead
abbrev pub OnWrong : Unanswered → (Wrong → Type 0) → Type 0
OnWrong (unanswered.Wrong wrong) P = P wrong
OnWrong unanswered.Memory P = Unit {0}

abbrev pub IsWholeWrong : ℕ → Unanswered → Type 0
IsWholeWrong reason u = OnWrong u (λ wrong. wrong ≡ whole_wrong reason)

abbrev pub IsWrongJson : JsonError → Unanswered → Type 0
IsWrongJson errors.NotJson u = IsWholeWrong no_json u
IsWrongJson (errors.Shape path) u = OnWrong u (λ wrong. wrong ≡ wrong_at 0 (fault_number faults.Shape) path)
IsWrongJson (errors.Range path) u = OnWrong u (λ wrong. wrong ≡ wrong_at 0 (fault_number faults.Range) path)
IsWrongJson errors.Memory u = u ≡ unanswered.Memory

-- the digits of the octets that spell a value
abbrev pub SpelledMeets : Syntax → ℕ → Value → Result (List ℕ) Unanswered → Type 0
SpelledMeets m id v (Ok text) = IsSpelledBy m id v text
SpelledMeets m id v (Err u) = OnWrong u (λ wrong. IsTooLong m id v × (wrong ≡ whole_wrong too_long))

-- the JSON of the value that octets spell
abbrev pub ShownMeets : Syntax → ℕ → List ℕ → Result (List ℕ) Unanswered → Type 0
ShownMeets m id octets (Ok text) =
    (v : Value) × Spells (tree m id) v octets × (text ≡ compact_text (shown_as (named m id) v)) × IsReadAgain text (shown_as (named m id) v)
ShownMeets m id octets (Err u) = OnWrong u (λ wrong. IsWrongSpelling m id octets wrong)

abbrev pub AnswerMeets : Way → Syntax → ℕ → List ℕ → Result (List ℕ) Unanswered → Type 0
AnswerMeets way m id line (Ok text) = IsAnswered way m id line text
AnswerMeets way m id line (Err u) = OnWrong u (λ wrong. IsWrong way m id line wrong)
