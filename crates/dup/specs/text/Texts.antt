-- The same from the event to the line: the words of each event, how it is written, and which lines are texts of it.
use Rattle.std.specs.Prelude.{◌≡◌, ℕ, List, ◌∷◌}
use Rattle.std.specs.List.{join_with_byte}
use Rattle.dup_defs.specs.declared.types.event.DupEvent.{DupEvent}
use Rattle.dup_defs.specs.declared.types.event.DupEvent.TheVariants as events
use Rattle.dup.specs.declared.text.keyword.DupKeyword.TheVariants as keywords
use Rattle.dup.specs.text.Arguments.{Value, HasRange, AreWordsOf, value_words}
use Rattle.dup.specs.text.Grammar.{DupForm, keyword_text, offer_form, leg_form, mode_form, bare_form}

-- whatever is said of a form and the value after its keyword, said of an event
abbrev pub by_form {ℓ} : {X : Type ℓ} → ((form : DupForm) → Value form.argument → X) → DupEvent → X
by_form said (events.Offer packet) = said offer_form packet
by_form said (events.Carry leg) = said (leg_form keywords.Carry events.Carry) leg
by_form said (events.Confirm leg) = said (leg_form keywords.Confirm events.Confirm) leg
by_form said (events.Fail leg) = said (leg_form keywords.Fail events.Fail) leg
by_form said (events.Mend leg) = said (leg_form keywords.Mend events.Mend) leg
by_form said (events.SetMode mode) = said mode_form mode
by_form said events.Drain = said (bare_form keywords.Drain events.Drain) tt
by_form said events.Ask = said (bare_form keywords.Ask events.Ask) tt

-- how an event is written: its words with one blank between two of them
abbrev pub form_text : (form : DupForm) → Value form.argument → List ℕ
form_text form value = join_with_byte 32 (keyword_text form.keyword ∷ value_words form.argument value)

unfoldable pub event_text : DupEvent → List ℕ
event_text event = by_form form_text event

-- the value of an event lies in its range
abbrev pub InRange : DupEvent → Type 0
InRange event = by_form (λ form value. HasRange form.argument value) event

-- The line is a text of the event: its keyword, and a text of the value, if it has one, which lies in its range.
pub record IsWritten (line : List ℕ) (form : DupForm) (value : Value form.argument) : Type 0 where
  pub words : List (List ℕ)
  pub text : line ≡ join_with_byte 32 (keyword_text form.keyword ∷ words)
  pub stand : AreWordsOf form.argument words value
  pub range : HasRange form.argument value

abbrev pub IsTextOf : List ℕ → DupEvent → Type 0
IsTextOf line event = by_form (IsWritten line) event
