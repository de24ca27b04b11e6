-- What the words `encode` and `decode` answer a line with, or why they refuse it. `encode` reads JSON of a value of the type, and answers
-- with the digits of the octets that spell it; `decode` reads digits of such octets, and answers with the compact JSON of their value.
use Rattle.std.specs.Prelude.{◌≡◌, ◌<◌, ℕ, List, [], ◌∷◌, All, Some, None, codes}
use Rattle.gnb_types.specs.Hex.{hex_of, read_hex}
use Rattle.serde_json.specs.Written.{compact_text}
use Rattle.asn1_syntax.specs.declared.assignments.assignment.Syntax.{Syntax}
use Rattle.aper_defs.specs.declared.reason.Reason.{Reason}
use Rattle.aper_defs.specs.declared.reason.Reason.TheVariants as reasons
use Rattle.aper_defs.specs.Values.{Value}
use Rattle.aper_defs.specs.Bits.{octet_count}
use Rattle.aper_defs.specs.Spelling.{Spells, spelling_limit, whole_layout}
use Rattle.aper_values.specs.types.Types.{tree}
use Rattle.aper.specs.Refusals.{IsRefused, IsFirstWrong}
use Rattle.json_defs.specs.declared.fault.JsonFault.{JsonFault}
use Rattle.json_defs.specs.declared.fault.JsonFault.TheVariants as faults
use Rattle.json_defs.specs.shown_defs.Printed.{shown_as}
use Rattle.json_defs.specs.type_defs.Types.{named}
use Rattle.values_json.specs.Texts.{IsNoJson, IsReadAgain, IsTextOf, HasFault}
use Rattle.command_values.specs.declared.way.Way.{Way}
use Rattle.command_values.specs.declared.way.Way.TheVariants.{Encode, Decode}
use Rattle.command_values.specs.declared.answer.Wrong.{Wrong}

abbrev pub wrong_at : ℕ → ℕ → List ℕ → Wrong
wrong_at bit reason path = record { bit = bit; reason = reason; path = path }

-- what concerns a line as a whole has bit 0
abbrev pub whole_wrong : ℕ → Wrong
whole_wrong reason = wrong_at 0 reason (codes "-")

-- ---- the numbers of reasons

-- why octets are refused
abbrev pub reason_number : Reason → ℕ
reason_number reasons.Truncated = 1
reason_number reasons.Padding = 2
reason_number reasons.Range = 3
reason_number reasons.NotMinimal = 4
reason_number reasons.Index = 5
reason_number reasons.Length = 6
reason_number reasons.Character = 7
reason_number reasons.Overrun = 8
reason_number reasons.Tail = 9
reason_number reasons.Required = 10
reason_number reasons.Order = 11
reason_number reasons.TooLong = 12
reason_number reasons.EmptyAdditions = 13

-- a line isn't hexadecimal digits, or no JSON
abbrev pub no_hex : ℕ
no_hex = 100

abbrev pub no_json : ℕ
no_json = 101

-- a member of JSON has another form than its type, or is outside its bounds
abbrev pub fault_number : JsonFault → ℕ
fault_number faults.Shape = 102
fault_number faults.Range = 103

-- the spelling would pass 131,072 octets
abbrev pub too_long : ℕ
too_long = 104

-- ---- from JSON to octets

-- the text is the digits of the octets that spell the value
pub record IsSpelledBy (m : Syntax) (id : ℕ) (v : Value) (text : List ℕ) : Type 0 where
  pub octets : List ℕ
  pub small : All (λ o. o < 256) octets
  pub spells : Spells (tree m id) v octets
  pub digits : text ≡ hex_of octets

-- no octets do: they would be too many
pub record IsTooLong (m : Syntax) (id : ℕ) (v : Value) : Type 0 where
  pub long : spelling_limit < octet_count (whole_layout (tree m id) v)

pub record IsEncoded (m : Syntax) (id : ℕ) (line text : List ℕ) : Type 0 where
  pub v : Value
  pub shows : IsTextOf (named m id) line v
  pub spelled : IsSpelledBy m id v text

pub data IsUnencoded (m : Syntax) (id : ℕ) (line : List ℕ) (wrong : Wrong) : Type 0 where
  NoJson : IsNoJson line → wrong ≡ whole_wrong no_json → IsUnencoded m id line wrong
  Faulty : (fault : JsonFault) (path : List ℕ) → HasFault (named m id) line fault path → wrong ≡ wrong_at 0 (fault_number fault) path
      → IsUnencoded m id line wrong
  Long : (v : Value) → IsTextOf (named m id) line v → IsTooLong m id v → wrong ≡ whole_wrong too_long → IsUnencoded m id line wrong

-- ---- from octets to JSON

pub record IsDecoded (m : Syntax) (id : ℕ) (line text : List ℕ) : Type 0 where
  pub octets : List ℕ
  pub digits : read_hex line ≡ Some octets
  pub v : Value
  pub spells : Spells (tree m id) v octets
  pub shown : text ≡ compact_text (shown_as (named m id) v)
  pub again : IsReadAgain text (shown_as (named m id) v)

-- these octets spell no value of the type: the first wrong field
pub record IsWrongSpelling (m : Syntax) (id : ℕ) (octets : List ℕ) (wrong : Wrong) : Type 0 where
  pub reason : Reason
  pub none : IsRefused (tree m id) octets wrong.bit reason wrong.path
  pub first : IsFirstWrong (tree m id) octets wrong.bit reason wrong.path
  pub number : wrong.reason ≡ reason_number reason

pub data IsUndecoded (m : Syntax) (id : ℕ) (line : List ℕ) (wrong : Wrong) : Type 0 where
  NoHex : read_hex line ≡ None → wrong ≡ whole_wrong no_hex → IsUndecoded m id line wrong
  Misspelled : (octets : List ℕ) → read_hex line ≡ Some octets → IsWrongSpelling m id octets wrong → IsUndecoded m id line wrong

-- ---- either way

-- the line is answered with this text
abbrev pub IsAnswered : Way → Syntax → ℕ → List ℕ → List ℕ → Type 0
IsAnswered Encode m id line text = IsEncoded m id line text
IsAnswered Decode m id line text = IsDecoded m id line text

-- the line is refused, and this is why
abbrev pub IsWrong : Way → Syntax → ℕ → List ℕ → Wrong → Type 0
IsWrong Encode m id line wrong = IsUnencoded m id line wrong
IsWrong Decode m id line wrong = IsUndecoded m id line wrong

-- these lines have these answers
abbrev pub AreAnswered : Way → Syntax → ℕ → List (List ℕ) → List (List ℕ) → Type 0
AreAnswered way m id [] [] = Unit {0}
AreAnswered way m id (line ∷ lines) (text ∷ texts) = IsAnswered way m id line text × AreAnswered way m id lines texts
AreAnswered way m id lines texts = ⊥
