-- The same from the event to the line: the words of each event, how it is written, and which lines are texts of it.
use Rattle.std.specs.Prelude.{◌≡◌, ℕ, List, [], ◌∷◌}
use Rattle.std.specs.List.{join_with_byte}
use Rattle.gnb_types.specs.declared.plans.Plan.{Plan}
use Rattle.scenario_text.specs.declared.event.Event.{Event}
use Rattle.scenario_text.specs.declared.event.Event.TheVariants as events
use Rattle.scenario_text.specs.declared.event.Keyword.TheVariants as keywords
use Rattle.scenario_text.specs.script_words.Places.{Values, InPlaces, AreWordsOf, value_words}
use Rattle.scenario_text.specs.Grammar.{EventForm, keyword_text, plan_places, bare_form, static_form, attach_form, offer_form, get_form, air_form, ack_form, give_form, lose_message_form, lose_item_form, poll_form, ue_form, handover_form, ask_form, inject_message_form, inject_item_form}

abbrev pub plan_values : Plan → Values plan_places
plan_values plan = (plan.ue, (plan.gnb, (plan.up, (plan.du, (plan.sn, (plan.bearers, (plan.quota, tt)))))))

-- whatever is said of a form and the values at its places, said of an event
abbrev pub by_form {ℓ} : {X : Type ℓ} → ((form : EventForm) → Values form.places → X) → Event → X
by_form said (events.Static plan) = said static_form (plan_values plan)
by_form said events.Start = said (bare_form keywords.Start events.Start) tt
by_form said (events.Attach plan) = said attach_form (plan_values plan)
by_form said (events.Offer ue bearer dir packet) = said offer_form (ue, (bearer, (dir, (packet, tt))))
by_form said (events.Get end teid) = said get_form ((end, teid), tt)
by_form said (events.Air ue bearer dir) = said air_form (ue, (bearer, (dir, tt)))
by_form said (events.Ack ue bearer dir) = said ack_form (ue, (bearer, (dir, tt)))
by_form said (events.Give message) = said give_form (message, tt)
by_form said (events.LoseMessage message) = said lose_message_form (message, tt)
by_form said (events.LoseItem end teid) = said lose_item_form ((end, teid), tt)
by_form said (events.Poll ue bearer) = said poll_form (ue, (bearer, tt))
by_form said events.Pump = said (bare_form keywords.Pump events.Pump) tt
by_form said events.Tick = said (bare_form keywords.Tick events.Tick) tt
by_form said (events.Fail ue) = said (ue_form keywords.Fail events.Fail) (ue, tt)
by_form said (events.Arrive ue) = said (ue_form keywords.Arrive events.Arrive) (ue, tt)
by_form said (events.Return ue) = said (ue_form keywords.Return events.Return) (ue, tt)
by_form said (events.Handover ue gnb up du) = said handover_form (ue, (gnb, (up, (du, tt))))
by_form said (events.Cancel ue) = said (ue_form keywords.Cancel events.Cancel) (ue, tt)
by_form said (events.Release ue) = said (ue_form keywords.Release events.Release) (ue, tt)
by_form said (events.Ask ue bearer) = said ask_form (ue, (bearer, tt))
by_form said events.Settle = said (bare_form keywords.Settle events.Settle) tt
by_form said (events.InjectMessage from to bytes) = said inject_message_form (from, (to, (bytes, tt)))
by_form said (events.InjectItem end teid bytes) = said inject_item_form ((end, teid), (bytes, tt))

-- how an event is written: its words with one blank between two of them
abbrev pub form_text : (form : EventForm) → Values form.places → List ℕ
form_text form values = join_with_byte 32 (keyword_text form.keyword ∷ value_words form.places values)

unfoldable pub event_text : Event → List ℕ
event_text event = by_form form_text event

-- the values of an event lie in their ranges
abbrev pub InRange : Event → Type 0
InRange event = by_form (λ form values. InPlaces form.places values) event

-- The line is a text of the event: its keyword, and a text of each value, which lies in its range.
pub record IsWritten (line : List ℕ) (form : EventForm) (values : Values form.places) : Type 0 where
  pub words : List (List ℕ)
  pub text : line ≡ join_with_byte 32 (keyword_text form.keyword ∷ words)
  pub stand : AreWordsOf form.places words values
  pub range : InPlaces form.places values

abbrev pub IsTextOf : List ℕ → Event → Type 0
IsTextOf line event = by_form (IsWritten line) event
