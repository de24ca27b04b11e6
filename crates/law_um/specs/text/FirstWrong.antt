-- The first wrong word of a line, apart from any reader: the words before it are the front of an event's text, and no value has this
-- word, or a word is missing, or one too many stands there.
use Rattle.std.specs.Prelude.{◌≡◌, ◌⊎◌, ℕ, List, [], ◌∷◌}
use Rattle.scenario_text.specs.declared.script_words.reason.TextReason.{TextReason}
use Rattle.scenario_text.specs.declared.script_words.reason.TextReason.TheVariants.{Word}
use Rattle.scenario_text.specs.script_words.Forms.{words}
use Rattle.scenario_text.specs.script_words.Places.{Place, AtMessage, AtHex}
use Rattle.um.specs.declared.text.keyword.UmKeyword.{UmKeyword}
use Rattle.um.specs.declared.text.keyword.UmKeyword.TheVariants as keywords
use Rattle.um.specs.text.Grammar.{keyword_text}
use Rattle.law_scenario.specs.FirstWrong.{IsWrongIn}

-- the places after a keyword
abbrev pub places_after : UmKeyword → List Place
places_after keywords.Offer = AtHex ∷ []
places_after keywords.Give = AtMessage ∷ []
places_after keywords.Again = AtMessage ∷ []
places_after keywords.Lose = AtMessage ∷ []
places_after keywords.Tick = []
places_after keywords.Ask = []

-- the first word is no keyword, or the words after the keyword go wrong
abbrev pub IsWrongEvent : List (List ℕ) → TextReason → Type 0
IsWrongEvent [] reason = ⊥
IsWrongEvent (word ∷ rest) reason =
    (((k : UmKeyword) → word ≡ keyword_text k → ⊥) × (reason ≡ Word))
    ⊎ ((k : UmKeyword) × (word ≡ keyword_text k) × IsWrongIn (places_after k) rest reason)

abbrev pub IsFirstWrong : List ℕ → TextReason → Type 0
IsFirstWrong line reason = IsWrongEvent (words line) reason
