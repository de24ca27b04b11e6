-- What is read is a text of the event, and a text of an event in its ranges is read.
use Rattle.std.proofs.Common.{◌≡◌, ℕ, Bool, true, List, Option, Some, None, Result, Ok, Err, [], ◌∷◌, refl, ap, ◌∙◌, sym, subst, inl, inr}
use Rattle.std.specs.Prelude.{IfOk}
use Rattle.std.specs.Option.{ok_or}
use Rattle.std.specs.List.{find, join_with_byte}
use Rattle.std.proofs.lemmas.List.Splits.{join_with_byte-slice_split}
use Rattle.scenario_text.specs.declared.script_words.reason.TextReason.{TextReason}
use Rattle.scenario_text.specs.declared.script_words.reason.TextReason.TheVariants.{Word}
use Rattle.scenario_text.specs.declared.script_words.reason.TextError.{TextError}
use Rattle.scenario_text.specs.script_words.Answers.{GivesOrMemory}
use Rattle.scenario_text.specs.script_words.Forms.{words, ◌is◌}
use Rattle.scenario_text.specs.script_words.Places.{Values, InPlaces, AreWordsOf, value_words, next_word, result_then, read_places}
use Rattle.scenario_text.proofs.script_words.FormLaws.{chosen, is_text}
use Rattle.scenario_text.proofs.script_words.PlaceLaws.{Lacks, AreEventPlaces, places_sound, places_again, value_words-AreWordsOf, words-joined, words_lack_blanks}
use Rattle.um_defs.specs.declared.types.event.UmEvent.{UmEvent}
use Rattle.um_defs.specs.declared.types.event.UmEvent.TheVariants as events
use Rattle.um.specs.declared.text.keyword.UmKeyword.{UmKeyword}
use Rattle.um.specs.declared.text.keyword.UmKeyword.TheVariants as keywords
use Rattle.um.specs.text.Grammar.{UmForm, keyword_text, all_keywords, keyword_of, offer_form, message_form, bare_form, form_of, read_form, keyword_event, words_event, event_of}
use Rattle.um.specs.text.Texts.{form_text, event_text, InRange, IsWritten, IsTextOf}

-- ---- keywords

find_some : {X : Type 0} (p : X → Bool) (xs : List X) (x : X) → find p xs ≡ Some x → p x ≡ true
find_some p [] x h = absurd (cc)
find_some p (y ∷ ys) x h = elim (chosen (p y) (Some y) (find p ys) (Some x) h) [
  | inl w ↦ let same : y ≡ x = cc in ap p (sym same) ∙ w.0
  | inr w ↦ find_some p ys x w.1
]

pub keyword_sound : (word : List ℕ) (k : UmKeyword) → keyword_of word ≡ Some k → word ≡ keyword_text k
unfolding keyword_of
keyword_sound word k h = is_text word (keyword_text k) (find_some (λ k. word is keyword_text k) all_keywords k h)

pub keyword_again : (k : UmKeyword) → keyword_of (keyword_text k) ≡ Some k
unfolding keyword_of
keyword_again keywords.Offer = refl
keyword_again keywords.Give = refl
keyword_again keywords.Again = refl
keyword_again keywords.Lose = refl
keyword_again keywords.Tick = refl
keyword_again keywords.Ask = refl

pub keyword_lacks_blank : (k : UmKeyword) → Lacks 32 (keyword_text k)
keyword_lacks_blank keywords.Offer = refl
keyword_lacks_blank keywords.Give = refl
keyword_lacks_blank keywords.Again = refl
keyword_lacks_blank keywords.Lose = refl
keyword_lacks_blank keywords.Tick = refl
keyword_lacks_blank keywords.Ask = refl

-- ---- forms

-- a form is that of its keyword, its places are those of events, and its event is seen as this form
pub record IsForm (form : UmForm) : Type 0 where
  pub of_keyword : form_of form.keyword ≡ form
  pub places : AreEventPlaces form.places
  pub shown : (line : List ℕ) (values : Values form.places) → IsWritten line form values → IsTextOf line (form.event values)

pub is_form : (k : UmKeyword) → IsForm (form_of k)
is_form keywords.Offer = record { of_keyword = refl; places = (tt, tt); shown = λ line values h. h }
is_form keywords.Give = record { of_keyword = refl; places = (tt, tt); shown = λ line values h. h }
is_form keywords.Again = record { of_keyword = refl; places = (tt, tt); shown = λ line values h. h }
is_form keywords.Lose = record { of_keyword = refl; places = (tt, tt); shown = λ line values h. h }
is_form keywords.Tick = record { of_keyword = refl; places = tt; shown = λ line values h. h }
is_form keywords.Ask = record { of_keyword = refl; places = tt; shown = λ line values h. h }

pub form_keyword : (k : UmKeyword) → (form_of k).keyword ≡ k
form_keyword keywords.Offer = refl
form_keyword keywords.Give = refl
form_keyword keywords.Again = refl
form_keyword keywords.Lose = refl
form_keyword keywords.Tick = refl
form_keyword keywords.Ask = refl

-- ---- what is read

read_sound : (form : UmForm) → IsForm form → (left : List (List ℕ)) (e : UmEvent) → read_form form left ≡ Ok e
    → IsTextOf (join_with_byte 32 (keyword_text form.keyword ∷ left)) e
read_sound form k left e h =
    by_values (read_places form.places left) refl h
  where
    by_values : (r : Result (Values form.places) TextReason) → read_places form.places left ≡ r
        → result_then r (λ values. Ok (form.event values)) ≡ Ok e
        → IsTextOf (join_with_byte 32 (keyword_text form.keyword ∷ left)) e
    by_values (Ok values) are g =
        let found = places_sound form.places k.places (λ vs. vs) left values are in
        let P : UmEvent → Type 0 = λ x. IsTextOf (join_with_byte 32 (keyword_text form.keyword ∷ left)) x in
        let same : form.event values ≡ e = cc in
        let stand : AreWordsOf form.places left values = subst (AreWordsOf form.places left) found.makes found.stand in
        let range : InPlaces form.places values = subst (InPlaces form.places) found.makes found.range in
        subst P same (k.shown _ values (record { words = left; text = refl; stand = stand; range = range }))
    by_values (Err reason) are g = absurd (cc)

keyword_event_sound : (k : UmKeyword) (left : List (List ℕ)) (e : UmEvent) → keyword_event k left ≡ Ok e
    → IsTextOf (join_with_byte 32 (keyword_text k ∷ left)) e
unfolding keyword_event
keyword_event_sound k left e h =
    subst (λ (x : UmKeyword). IsTextOf (join_with_byte 32 (keyword_text x ∷ left)) e) (form_keyword k) (read_sound (form_of k) (is_form k) left e h)

words_event_sound : (word : List ℕ) (left : List (List ℕ)) (e : UmEvent) → words_event (word, left) ≡ Ok e
    → IsTextOf (join_with_byte 32 (word ∷ left)) e
words_event_sound word left e h =
    by_keyword (keyword_of word) refl h
  where
    by_keyword : (o : Option UmKeyword) → keyword_of word ≡ o → result_then (ok_or o Word) (λ keyword. keyword_event keyword left) ≡ Ok e
        → IsTextOf (join_with_byte 32 (word ∷ left)) e
    by_keyword (Some k) found g =
        let P : List ℕ → Type 0 = λ w. IsTextOf (join_with_byte 32 (w ∷ left)) e in
        subst P (sym (keyword_sound word k found)) (keyword_event_sound k left e g)
    by_keyword None found g = absurd (cc)

next_ok : (ws : List (List ℕ)) (next : List ℕ × List (List ℕ)) → next_word ws ≡ Ok next → ws ≡ next.0 ∷ next.1
next_ok [] next h = absurd (cc)
next_ok (word ∷ rest) next h = let same : (word, rest) ≡ next = cc in ap (λ (n : List ℕ × List (List ℕ)). n.0 ∷ n.1) same

-- What is read as an event is a text of it.
pub event_sound : (line : List ℕ) (e : UmEvent) → event_of line ≡ Ok e → IsTextOf line e
unfolding event_of
event_sound line e h = by_words (next_word (words line)) refl h
  where
    by_words : (r : Result (List ℕ × List (List ℕ)) TextReason) → next_word (words line) ≡ r → result_then r words_event ≡ Ok e
        → IsTextOf line e
    by_words (Ok next) is_next k =
        let P : List ℕ → Type 0 = λ l. IsTextOf l e in
        subst P (ap (join_with_byte 32) (sym (next_ok (words line) next is_next)) ∙ join_with_byte-slice_split 32 line) (words_event_sound next.0 next.1 e k)
    by_words (Err reason) is_next k = absurd (cc)

-- ---- what stands in a line is read

-- the words of values are read in their form
form_again : (form : UmForm) → IsForm form → (left : List (List ℕ)) (values : Values form.places) → AreWordsOf form.places left values
    → InPlaces form.places values
    → read_form form left ≡ Ok (form.event values)
form_again form k left values stand range =
    ap (λ (r : Result (Values form.places) TextReason). result_then r (λ vs. Ok (form.event vs))) (places_again form.places k.places (λ vs. vs) left values stand range)

keyword_event-form : (form : UmForm) → IsForm form → (left : List (List ℕ)) → keyword_event form.keyword left ≡ read_form form left
unfolding keyword_event
keyword_event-form form k left = ap (λ (f : UmForm). read_form f left) k.of_keyword

written_again : (line : List ℕ) (form : UmForm) → IsForm form → (values : Values form.places) → IsWritten line form values
    → event_of line ≡ Ok (form.event values)
unfolding event_of
written_again line form k values h =
    let some : words line ≡ keyword_text form.keyword ∷ h.words =
    ap words h.text
    ∙ words-joined (keyword_text form.keyword) h.words (keyword_lacks_blank form.keyword) (words_lack_blanks form.places k.places h.words values h.stand h.range) in
    ap (λ (ws : List (List ℕ)). result_then (next_word ws) words_event) some
    ∙ ap (λ (o : Option UmKeyword). result_then (ok_or o Word) (λ keyword. keyword_event keyword h.words)) (keyword_again form.keyword)
    ∙ keyword_event-form form k h.words
    ∙ form_again form k h.words values h.stand h.range

-- A text of an event is read as the event.
pub text_is_read : (line : List ℕ) (e : UmEvent) → IsTextOf line e → event_of line ≡ Ok e
text_is_read line (events.Offer packet) h = written_again line offer_form (is_form keywords.Offer) (packet, tt) h
text_is_read line (events.Give message) h = written_again line (message_form keywords.Give events.Give) (is_form keywords.Give) (message, tt) h
text_is_read line (events.Again message) h = written_again line (message_form keywords.Again events.Again) (is_form keywords.Again) (message, tt) h
text_is_read line (events.Lose message) h = written_again line (message_form keywords.Lose events.Lose) (is_form keywords.Lose) (message, tt) h
text_is_read line events.Tick h = written_again line (bare_form keywords.Tick events.Tick) (is_form keywords.Tick) tt h
text_is_read line events.Ask h = written_again line (bare_form keywords.Ask events.Ask) (is_form keywords.Ask) tt h

form_text-IsWritten : (form : UmForm) (values : Values form.places) → InPlaces form.places values
    → IsWritten (form_text form values) form values
form_text-IsWritten form values range =
    record { words = value_words form.places values; text = refl; stand = value_words-AreWordsOf form.places values range; range = range }

-- The text of an event in its ranges is one of its texts.
pub event_text-IsTextOf : (e : UmEvent) → InRange e → IsTextOf (event_text e) e
unfolding event_text
event_text-IsTextOf (events.Offer packet) h = form_text-IsWritten offer_form (packet, tt) h
event_text-IsTextOf (events.Give message) h = form_text-IsWritten (message_form keywords.Give events.Give) (message, tt) h
event_text-IsTextOf (events.Again message) h = form_text-IsWritten (message_form keywords.Again events.Again) (message, tt) h
event_text-IsTextOf (events.Lose message) h = form_text-IsWritten (message_form keywords.Lose events.Lose) (message, tt) h
event_text-IsTextOf events.Tick h = form_text-IsWritten (bare_form keywords.Tick events.Tick) tt h
event_text-IsTextOf events.Ask h = form_text-IsWritten (bare_form keywords.Ask events.Ask) tt h

-- An event in its ranges is read again from its text.
pub event_of-event_text : (e : UmEvent) → InRange e → event_of (event_text e) ≡ Ok e
event_of-event_text e h = text_is_read (event_text e) e (event_text-IsTextOf e h)

text_in_range : (line : List ℕ) (e : UmEvent) → IsTextOf line e → InRange e
text_in_range line (events.Offer packet) h = h.range
text_in_range line (events.Give message) h = h.range
text_in_range line (events.Again message) h = h.range
text_in_range line (events.Lose message) h = h.range
text_in_range line events.Tick h = h.range
text_in_range line events.Ask h = h.range

-- What is read lies in its ranges.
pub event_in_range : (line : List ℕ) (e : UmEvent) → event_of line ≡ Ok e → InRange e
event_in_range line e h = text_in_range line e (event_sound line e h)

-- What a reader gives as the grammar says lies in its ranges.
pub given_in_range : (line : List ℕ) (r : Result UmEvent TextError) → GivesOrMemory (λ x. x) r (event_of line) → IfOk r InRange
given_in_range line (Ok e) h = event_in_range line e h
given_in_range line (Err error) h = tt
