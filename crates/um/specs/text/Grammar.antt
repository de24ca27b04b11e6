-- The events of a script of one unacknowledged bearer: an event is its keyword and then one word for each of its places. The first wrong
-- word from the left decides the reason.
use Rattle.std.specs.Prelude.{ℕ, List, [], ◌∷◌, Option, Result, Ok, codes}
use Rattle.std.specs.List.{find}
use Rattle.std.specs.Option.{ok_or}
use Rattle.scenario_text.specs.declared.script_words.reason.TextReason.{TextReason}
use Rattle.scenario_text.specs.declared.script_words.reason.TextReason.TheVariants.{Word}
use Rattle.scenario_text.specs.script_words.Forms.{words, ◌is◌}
use Rattle.scenario_text.specs.script_words.Places.{Place, AtMessage, AtHex, Values, next_word, result_then, read_places}
use Rattle.um_defs.specs.declared.types.event.UmEvent.{UmEvent}
use Rattle.um_defs.specs.declared.types.event.UmEvent.TheVariants as events
use Rattle.um.specs.declared.text.keyword.UmKeyword.{UmKeyword}
use Rattle.um.specs.declared.text.keyword.UmKeyword.TheVariants as keywords

-- ---- keywords

abbrev pub keyword_text : UmKeyword → List ℕ
keyword_text keywords.Offer = codes "offer"
keyword_text keywords.Give = codes "give"
keyword_text keywords.Again = codes "again"
keyword_text keywords.Lose = codes "lose"
keyword_text keywords.Tick = codes "tick"
keyword_text keywords.Ask = codes "ask"

abbrev pub all_keywords : List UmKeyword
all_keywords = keywords.Offer ∷ keywords.Give ∷ keywords.Again ∷ keywords.Lose ∷ keywords.Tick ∷ keywords.Ask ∷ []

-- the keyword that is this word
unfoldable pub keyword_of : List ℕ → Option UmKeyword
keyword_of word = find (λ keyword. word is keyword_text keyword) all_keywords

-- ---- events

-- `HEX`
abbrev pub packet_places : List Place
packet_places = AtHex ∷ []

-- `#M`
abbrev pub message_places : List Place
message_places = AtMessage ∷ []

-- an event's words: its keyword, a place for each word after it, and the event that the values there make
pub record UmForm : Type 0 where
  pub keyword : UmKeyword
  pub places : List Place
  pub event : Values places → UmEvent

abbrev pub offer_form : UmForm
offer_form = record { keyword = keywords.Offer; places = packet_places; event = λ (packet, end). events.Offer packet }

-- an event of a message
abbrev pub message_form : UmKeyword → (ℕ → UmEvent) → UmForm
message_form keyword event = record { keyword = keyword; places = message_places; event = λ (message, end). event message }

-- an event that is its keyword alone
abbrev pub bare_form : UmKeyword → UmEvent → UmForm
bare_form keyword event = record { keyword = keyword; places = []; event = λ end. event }

abbrev pub form_of : UmKeyword → UmForm
form_of keywords.Offer = offer_form
form_of keywords.Give = message_form keywords.Give events.Give
form_of keywords.Again = message_form keywords.Again events.Again
form_of keywords.Lose = message_form keywords.Lose events.Lose
form_of keywords.Tick = bare_form keywords.Tick events.Tick
form_of keywords.Ask = bare_form keywords.Ask events.Ask

-- ---- reading

-- what words mean in a form
abbrev pub read_form : UmForm → List (List ℕ) → Result UmEvent TextReason
read_form form left = result_then (read_places form.places left) (λ values. Ok (form.event values))

-- the event of a keyword and the words after it
unfoldable pub keyword_event : UmKeyword → List (List ℕ) → Result UmEvent TextReason
keyword_event keyword left = read_form (form_of keyword) left

-- the event of a first word and those after it
abbrev pub words_event : List ℕ × List (List ℕ) → Result UmEvent TextReason
words_event next = result_then (ok_or (keyword_of next.0) Word) (λ keyword. keyword_event keyword next.1)

-- what a line of a script means
unfoldable pub event_of : List ℕ → Result UmEvent TextReason
event_of line = result_then (next_word (words line)) words_event
