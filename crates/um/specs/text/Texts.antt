-- The same from the event to the line: the words of each event, how it is written, and which lines are texts of it.
use Rattle.std.specs.Prelude.{◌≡◌, ℕ, List, ◌∷◌}
use Rattle.std.specs.List.{join_with_byte}
use Rattle.scenario_text.specs.script_words.Places.{Values, InPlaces, AreWordsOf, value_words}
use Rattle.um_defs.specs.declared.types.event.UmEvent.{UmEvent}
use Rattle.um_defs.specs.declared.types.event.UmEvent.TheVariants as events
use Rattle.um.specs.declared.text.keyword.UmKeyword.TheVariants as keywords
use Rattle.um.specs.text.Grammar.{UmForm, keyword_text, offer_form, message_form, bare_form}

-- whatever is said of a form and the values at its places, said of an event
abbrev pub by_form {ℓ} : {X : Type ℓ} → ((form : UmForm) → Values form.places → X) → UmEvent → X
by_form said (events.Offer packet) = said offer_form (packet, tt)
by_form said (events.Give message) = said (message_form keywords.Give events.Give) (message, tt)
by_form said (events.Again message) = said (message_form keywords.Again events.Again) (message, tt)
by_form said (events.Lose message) = said (message_form keywords.Lose events.Lose) (message, tt)
by_form said events.Tick = said (bare_form keywords.Tick events.Tick) tt
by_form said events.Ask = said (bare_form keywords.Ask events.Ask) tt

-- how an event is written: its words with one blank between two of them
abbrev pub form_text : (form : UmForm) → Values form.places → List ℕ
form_text form values = join_with_byte 32 (keyword_text form.keyword ∷ value_words form.places values)

unfoldable pub event_text : UmEvent → List ℕ
event_text event = by_form form_text event

-- the values of an event lie in their ranges
abbrev pub InRange : UmEvent → Type 0
InRange event = by_form (λ form values. InPlaces form.places values) event

-- The line is a text of the event: its keyword, and a text of each value, which lies in its range.
pub record IsWritten (line : List ℕ) (form : UmForm) (values : Values form.places) : Type 0 where
  pub words : List (List ℕ)
  pub text : line ≡ join_with_byte 32 (keyword_text form.keyword ∷ words)
  pub stand : AreWordsOf form.places words values
  pub range : InPlaces form.places values

abbrev pub IsTextOf : List ℕ → UmEvent → Type 0
IsTextOf line event = by_form (IsWritten line) event
