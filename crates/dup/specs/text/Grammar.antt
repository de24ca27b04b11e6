-- The events of a script of one bearer with duplication: an event is its keyword and then at most one word. The first wrong word from the
-- left decides the reason.
use Rattle.std.specs.Prelude.{ℕ, List, [], ◌∷◌, Option, Some, None, Result, Ok, codes}
use Rattle.std.specs.List.{find}
use Rattle.std.specs.Option.{ok_or}
use Rattle.scenario_text.specs.declared.script_words.reason.TextReason.{TextReason}
use Rattle.scenario_text.specs.declared.script_words.reason.TextReason.TheVariants.{Word}
use Rattle.scenario_text.specs.script_words.Forms.{words, ◌is◌}
use Rattle.scenario_text.specs.script_words.Places.{next_word, result_then}
use Rattle.dup_defs.specs.declared.types.event.DupEvent.{DupEvent}
use Rattle.dup_defs.specs.declared.types.event.DupEvent.TheVariants as events
use Rattle.dup_defs.specs.declared.types.leg.Leg.{Leg}
use Rattle.dup.specs.declared.text.keyword.DupKeyword.{DupKeyword}
use Rattle.dup.specs.declared.text.keyword.DupKeyword.TheVariants as keywords
use Rattle.dup.specs.text.Arguments.{Argument, AtPacket, AtLeg, AtMode, Value, read_argument}

-- ---- keywords

abbrev pub keyword_text : DupKeyword → List ℕ
keyword_text keywords.Offer = codes "offer"
keyword_text keywords.Carry = codes "carry"
keyword_text keywords.Confirm = codes "confirm"
keyword_text keywords.Fail = codes "fail"
keyword_text keywords.Mend = codes "mend"
keyword_text keywords.Mode = codes "mode"
keyword_text keywords.Drain = codes "drain"
keyword_text keywords.Ask = codes "ask"

abbrev pub all_keywords : List DupKeyword
all_keywords =
    keywords.Offer ∷ keywords.Carry ∷ keywords.Confirm ∷ keywords.Fail ∷ keywords.Mend ∷ keywords.Mode ∷ keywords.Drain ∷ keywords.Ask ∷ []

-- the keyword that is this word
unfoldable pub keyword_of : List ℕ → Option DupKeyword
keyword_of word = find (λ keyword. word is keyword_text keyword) all_keywords

-- ---- events

-- an event's words: its keyword, the word after it, if it has one, and the event that the value there makes
pub record DupForm : Type 0 where
  pub keyword : DupKeyword
  pub argument : Option Argument
  pub event : Value argument → DupEvent

-- `offer HEX`
abbrev pub offer_form : DupForm
offer_form = record { keyword = keywords.Offer; argument = Some AtPacket; event = λ packet. events.Offer packet }

-- an event of a leg
abbrev pub leg_form : DupKeyword → (Leg → DupEvent) → DupForm
leg_form keyword event = record { keyword = keyword; argument = Some AtLeg; event = λ leg. event leg }

-- `mode both`, `mode 1` or `mode 2`
abbrev pub mode_form : DupForm
mode_form = record { keyword = keywords.Mode; argument = Some AtMode; event = λ mode. events.SetMode mode }

-- an event that is its keyword alone
abbrev pub bare_form : DupKeyword → DupEvent → DupForm
bare_form keyword event = record { keyword = keyword; argument = None; event = λ end. event }

abbrev pub form_of : DupKeyword → DupForm
form_of keywords.Offer = offer_form
form_of keywords.Carry = leg_form keywords.Carry events.Carry
form_of keywords.Confirm = leg_form keywords.Confirm events.Confirm
form_of keywords.Fail = leg_form keywords.Fail events.Fail
form_of keywords.Mend = leg_form keywords.Mend events.Mend
form_of keywords.Mode = mode_form
form_of keywords.Drain = bare_form keywords.Drain events.Drain
form_of keywords.Ask = bare_form keywords.Ask events.Ask

-- ---- reading

-- what words mean in a form
abbrev pub read_form : DupForm → List (List ℕ) → Result DupEvent TextReason
read_form form left = result_then (read_argument form.argument left) (λ value. Ok (form.event value))

-- the event of a keyword and the words after it
unfoldable pub keyword_event : DupKeyword → List (List ℕ) → Result DupEvent TextReason
keyword_event keyword left = read_form (form_of keyword) left

-- the event of a first word and those after it
abbrev pub words_event : List ℕ × List (List ℕ) → Result DupEvent TextReason
words_event next = result_then (ok_or (keyword_of next.0) Word) (λ keyword. keyword_event keyword next.1)

-- what a line of a script means
unfoldable pub event_of : List ℕ → Result DupEvent TextReason
event_of line = result_then (next_word (words line)) words_event
