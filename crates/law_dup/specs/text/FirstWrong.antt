-- The first wrong word of a line, apart from any reader: the words before it are the front of an event's text, and no value has this
-- word, or a word is missing, or one too many stands there.
use Rattle.std.specs.Prelude.{◌≡◌, ◌⊎◌, ℕ, List, [], ◌∷◌, Option, Some, None}
use Rattle.scenario_text.specs.declared.script_words.reason.TextReason.{TextReason}
use Rattle.scenario_text.specs.declared.script_words.reason.TextReason.TheVariants.{Word, Number, Hex, Extra}
use Rattle.scenario_text.specs.script_words.Forms.{words}
use Rattle.dup.specs.declared.text.keyword.DupKeyword.{DupKeyword}
use Rattle.dup.specs.declared.text.keyword.DupKeyword.TheVariants as keywords
use Rattle.dup.specs.text.Arguments.{Argument, AtPacket, AtLeg, AtMode, Meaning, InPlace, IsWordOf}
use Rattle.dup.specs.text.Grammar.{keyword_text}

-- the word is a text of no value that may stand there
abbrev pub HasNone : Argument → List ℕ → Type 0
HasNone a word = (value : Meaning a) → IsWordOf a word value → InPlace a value → ⊥

-- the reason that a word has which is wrong there
abbrev pub fault_at : Argument → TextReason
fault_at AtPacket = Hex
fault_at AtLeg = Number
fault_at AtMode = Word

-- the first of the words after a keyword that is wrong; the earlier one, if there is one, is a text of a value
abbrev pub IsWrongAfter : Option Argument → List (List ℕ) → TextReason → Type 0
IsWrongAfter None [] reason = ⊥
IsWrongAfter None (word ∷ rest) reason = reason ≡ Extra
IsWrongAfter (Some a) [] reason = reason ≡ Word
IsWrongAfter (Some a) (word ∷ rest) reason =
    (HasNone a word × (reason ≡ fault_at a))
    ⊎ ((value : Meaning a) × IsWordOf a word value × InPlace a value × IsWrongAfter None rest reason)

-- the word after a keyword
abbrev pub argument_after : DupKeyword → Option Argument
argument_after keywords.Offer = Some AtPacket
argument_after keywords.Carry = Some AtLeg
argument_after keywords.Confirm = Some AtLeg
argument_after keywords.Fail = Some AtLeg
argument_after keywords.Mend = Some AtLeg
argument_after keywords.Mode = Some AtMode
argument_after keywords.Drain = None
argument_after keywords.Ask = None

-- the first word is no keyword, or the words after the keyword go wrong
abbrev pub IsWrongEvent : List (List ℕ) → TextReason → Type 0
IsWrongEvent [] reason = ⊥
IsWrongEvent (word ∷ rest) reason =
    (((k : DupKeyword) → word ≡ keyword_text k → ⊥) × (reason ≡ Word))
    ⊎ ((k : DupKeyword) × (word ≡ keyword_text k) × IsWrongAfter (argument_after k) rest reason)

abbrev pub IsFirstWrong : List ℕ → TextReason → Type 0
IsFirstWrong line reason = IsWrongEvent (words line) reason
