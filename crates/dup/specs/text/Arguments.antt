-- The word that may stand after a keyword: a packet, a leg or a mode. The places of a scenario's words know no legs and no modes, and a
-- leg or a mode alone stands after a keyword here, so an event has one such word or none.
use Rattle.std.specs.Prelude.{◌≡◌, ℕ, List, [], ◌∷◌, Option, Some, None, Result, Ok, codes, if◌then◌else◌}
use Rattle.std.specs.Option.{ok_or}
use Rattle.gnb_types.specs.Hex.{hex_of, IsHexOf}
use Rattle.scenario_text.specs.declared.script_words.reason.TextReason.{TextReason}
use Rattle.scenario_text.specs.declared.script_words.reason.TextReason.TheVariants.{Word, Number}
use Rattle.scenario_text.specs.script_words.Forms.{Form, ◌is◌, hex}
use Rattle.scenario_text.specs.script_words.Ranges.{IsPacket}
use Rattle.scenario_text.specs.script_words.Places.{result_then, place, line_end}
use Rattle.dup_defs.specs.declared.types.leg.Leg.{Leg}
use Rattle.dup_defs.specs.declared.types.leg.Leg.TheVariants as legs
use Rattle.dup_defs.specs.declared.types.leg.Mode.{Mode}
use Rattle.dup_defs.specs.declared.types.leg.Mode.TheVariants as modes

pub data Argument : Type 0 where
  AtPacket : Argument  -- hexadecimal digits of a packet
  AtLeg : Argument  -- `1` or `2`
  AtMode : Argument  -- `both`, `1` or `2`

abbrev pub Meaning : Argument → Type 0
Meaning AtPacket = List ℕ
Meaning AtLeg = Leg
Meaning AtMode = Mode

-- ---- one word

abbrev pub leg_of : List ℕ → Option Leg
leg_of word = if word is codes "1" then Some legs.First else (if word is codes "2" then Some legs.Second else None)

abbrev pub mode_of : List ℕ → Option Mode
mode_of word =
    if word is codes "both" then Some modes.Both else
    (if word is codes "1" then Some modes.First else
    (if word is codes "2" then Some modes.Second else None))

-- what a word means there: a leg is a number, a mode is a word
abbrev pub read_word : (a : Argument) → Form (Meaning a)
read_word AtPacket = hex
read_word AtLeg = λ word. ok_or (leg_of word) Number
read_word AtMode = λ word. ok_or (mode_of word) Word

abbrev pub leg_text : Leg → List ℕ
leg_text legs.First = codes "1"
leg_text legs.Second = codes "2"

abbrev pub mode_text : Mode → List ℕ
mode_text modes.Both = codes "both"
mode_text modes.First = codes "1"
mode_text modes.Second = codes "2"

-- how a value is written there
abbrev pub word_text : (a : Argument) → Meaning a → List ℕ
word_text AtPacket packet = hex_of packet
word_text AtLeg leg = leg_text leg
word_text AtMode mode = mode_text mode

-- which values stand there
abbrev pub InPlace : (a : Argument) → Meaning a → Type 0
InPlace AtPacket packet = IsPacket packet
InPlace AtLeg leg = Unit {0}
InPlace AtMode mode = Unit {0}

-- the word is a text of the value: hexadecimal digits of either case, any other value in its one way
abbrev pub IsWordOf : (a : Argument) → List ℕ → Meaning a → Type 0
IsWordOf AtPacket word packet = IsHexOf word packet
IsWordOf a word value = word ≡ word_text a value

-- ---- one word or none

abbrev pub Value : Option Argument → Type 0
Value None = Unit {0}
Value (Some a) = Meaning a

abbrev pub value_words : (argument : Option Argument) → Value argument → List (List ℕ)
value_words None value = []
value_words (Some a) value = word_text a value ∷ []

abbrev pub HasRange : (argument : Option Argument) → Value argument → Type 0
HasRange None value = Unit {0}
HasRange (Some a) value = InPlace a value

-- there is no word; or there is one, and it is a text of the value
abbrev pub AreWordsOf : (argument : Option Argument) → List (List ℕ) → Value argument → Type 0
AreWordsOf None [] value = Unit {0}
AreWordsOf None (word ∷ rest) value = ⊥
AreWordsOf (Some a) [] value = ⊥
AreWordsOf (Some a) (word ∷ []) value = IsWordOf a word value
AreWordsOf (Some a) (word ∷ next ∷ rest) value = ⊥

-- that word and no more, from the left: the first wrong one decides the reason
abbrev pub read_argument : (argument : Option Argument) → List (List ℕ) → Result (Value argument) TextReason
read_argument None left = line_end left
read_argument (Some a) left = result_then (place (read_word a) left) (λ read. result_then (line_end read.1) (λ end. Ok read.0))
