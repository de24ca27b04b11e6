-- What is read is a text of the event, and a text of an event in its ranges is read.
use Rattle.std.proofs.Common.{◌≡◌, ℕ, Bool, true, cond, List, Option, Some, None, Result, Ok, Err, [], ◌∷◌, refl, ap, ◌∙◌, sym, subst, inl, inr, codes}
use Rattle.std.specs.Prelude.{IfOk}
use Rattle.std.specs.Option.{ok_or}
use Rattle.std.specs.List.{find, join_with_byte}
use Rattle.std.proofs.lemmas.List.Splits.{join_with_byte-slice_split}
use Rattle.scenario_text.specs.declared.script_words.reason.TextReason.{TextReason}
use Rattle.scenario_text.specs.declared.script_words.reason.TextReason.TheVariants.{Word, Number}
use Rattle.scenario_text.specs.declared.script_words.reason.TextError.{TextError}
use Rattle.scenario_text.specs.script_words.Answers.{GivesOrMemory}
use Rattle.scenario_text.specs.script_words.Forms.{words, ◌is◌}
use Rattle.scenario_text.specs.script_words.Places.{AtHex, next_word, line_end, result_then}
use Rattle.scenario_text.proofs.script_words.FormLaws.{chosen, is_text, ok_or_ok}
use Rattle.scenario_text.proofs.script_words.PlaceLaws.{Lacks, AllLack, word_sound, word_again, word_lacks_blank, word_text-IsWordOf, words-joined}
use Rattle.dup_defs.specs.declared.types.event.DupEvent.{DupEvent}
use Rattle.dup_defs.specs.declared.types.event.DupEvent.TheVariants as events
use Rattle.dup_defs.specs.declared.types.leg.Leg.{Leg}
use Rattle.dup_defs.specs.declared.types.leg.Leg.TheVariants as legs
use Rattle.dup_defs.specs.declared.types.leg.Mode.{Mode}
use Rattle.dup_defs.specs.declared.types.leg.Mode.TheVariants as modes
use Rattle.dup.specs.declared.text.keyword.DupKeyword.{DupKeyword}
use Rattle.dup.specs.declared.text.keyword.DupKeyword.TheVariants as keywords
use Rattle.dup.specs.text.Arguments.{Argument, AtPacket, AtLeg, AtMode, Meaning, leg_of, mode_of, read_word, leg_text, mode_text, word_text, InPlace, IsWordOf, Value, value_words, HasRange, AreWordsOf, read_argument}
use Rattle.dup.specs.text.Grammar.{DupForm, keyword_text, all_keywords, keyword_of, offer_form, leg_form, mode_form, bare_form, form_of, read_form, keyword_event, words_event, event_of}
use Rattle.dup.specs.text.Texts.{form_text, event_text, InRange, IsWritten, IsTextOf}

-- ---- keywords

find_some : {X : Type 0} (p : X → Bool) (xs : List X) (x : X) → find p xs ≡ Some x → p x ≡ true
find_some p [] x h = absurd (cc)
find_some p (y ∷ ys) x h = elim (chosen (p y) (Some y) (find p ys) (Some x) h) [
  | inl w ↦ let same : y ≡ x = cc in ap p (sym same) ∙ w.0
  | inr w ↦ find_some p ys x w.1
]

pub keyword_sound : (word : List ℕ) (k : DupKeyword) → keyword_of word ≡ Some k → word ≡ keyword_text k
unfolding keyword_of
keyword_sound word k h = is_text word (keyword_text k) (find_some (λ k. word is keyword_text k) all_keywords k h)

pub keyword_again : (k : DupKeyword) → keyword_of (keyword_text k) ≡ Some k
unfolding keyword_of
keyword_again keywords.Offer = refl
keyword_again keywords.Carry = refl
keyword_again keywords.Confirm = refl
keyword_again keywords.Fail = refl
keyword_again keywords.Mend = refl
keyword_again keywords.Mode = refl
keyword_again keywords.Drain = refl
keyword_again keywords.Ask = refl

keyword_lacks_blank : (k : DupKeyword) → Lacks 32 (keyword_text k)
keyword_lacks_blank keywords.Offer = refl
keyword_lacks_blank keywords.Carry = refl
keyword_lacks_blank keywords.Confirm = refl
keyword_lacks_blank keywords.Fail = refl
keyword_lacks_blank keywords.Mend = refl
keyword_lacks_blank keywords.Mode = refl
keyword_lacks_blank keywords.Drain = refl
keyword_lacks_blank keywords.Ask = refl

-- ---- legs and modes

leg_sound : (word : List ℕ) (leg : Leg) → leg_of word ≡ Some leg → word ≡ leg_text leg
leg_sound word leg h = elim (chosen (word is codes "1") (Some legs.First) (cond (word is codes "2") (Some legs.Second) None) (Some leg) h) [
  | inl w ↦ let same : legs.First ≡ leg = cc in is_text word (codes "1") w.0 ∙ ap leg_text same
  | inr w ↦ elim (chosen (word is codes "2") (Some legs.Second) None (Some leg) w.1) [
    | inl v ↦ let same : legs.Second ≡ leg = cc in is_text word (codes "2") v.0 ∙ ap leg_text same
    | inr v ↦ absurd (let no : None ≡ Some leg = v.1 in cc)
  ]
]

one_or_two : (word : List ℕ) (mode : Mode) → cond (word is codes "1") (Some modes.First) (cond (word is codes "2") (Some modes.Second) None) ≡ Some mode
    → word ≡ mode_text mode
one_or_two word mode h = elim (chosen (word is codes "1") (Some modes.First) (cond (word is codes "2") (Some modes.Second) None) (Some mode) h) [
  | inl w ↦ let same : modes.First ≡ mode = cc in is_text word (codes "1") w.0 ∙ ap mode_text same
  | inr w ↦ elim (chosen (word is codes "2") (Some modes.Second) None (Some mode) w.1) [
    | inl v ↦ let same : modes.Second ≡ mode = cc in is_text word (codes "2") v.0 ∙ ap mode_text same
    | inr v ↦ absurd (let no : None ≡ Some mode = v.1 in cc)
  ]
]

mode_sound : (word : List ℕ) (mode : Mode) → mode_of word ≡ Some mode → word ≡ mode_text mode
mode_sound word mode h =
    elim (chosen (word is codes "both") (Some modes.Both) (cond (word is codes "1") (Some modes.First) (cond (word is codes "2") (Some modes.Second) None)) (Some mode) h) [
      | inl w ↦ let same : modes.Both ≡ mode = cc in is_text word (codes "both") w.0 ∙ ap mode_text same
      | inr w ↦ one_or_two word mode w.1
    ]

leg_again : (leg : Leg) → leg_of (leg_text leg) ≡ Some leg
leg_again legs.First = refl
leg_again legs.Second = refl

mode_again : (mode : Mode) → mode_of (mode_text mode) ≡ Some mode
mode_again modes.Both = refl
mode_again modes.First = refl
mode_again modes.Second = refl

leg_lacks_blank : (leg : Leg) → Lacks 32 (leg_text leg)
leg_lacks_blank legs.First = refl
leg_lacks_blank legs.Second = refl

mode_lacks_blank : (mode : Mode) → Lacks 32 (mode_text mode)
mode_lacks_blank modes.Both = refl
mode_lacks_blank modes.First = refl
mode_lacks_blank modes.Second = refl

-- ---- the word after a keyword

pub argument_sound : (a : Argument) (word : List ℕ) (x : Meaning a) → read_word a word ≡ Ok x → IsWordOf a word x × InPlace a x
argument_sound AtPacket word x h = word_sound AtHex tt word x h
argument_sound AtLeg word x h = (leg_sound word x (ok_or_ok (leg_of word) Number x h), tt)
argument_sound AtMode word x h = (mode_sound word x (ok_or_ok (mode_of word) Word x h), tt)

pub argument_again : (a : Argument) (word : List ℕ) (x : Meaning a) → IsWordOf a word x → InPlace a x → read_word a word ≡ Ok x
argument_again AtPacket word x e range = word_again AtHex tt word x e range
argument_again AtLeg word x e range = ap (λ w. ok_or (leg_of w) Number) e ∙ ap (λ o. ok_or o Number) (leg_again x)
argument_again AtMode word x e range = ap (λ w. ok_or (mode_of w) Word) e ∙ ap (λ o. ok_or o Word) (mode_again x)

argument_lacks_blank : (a : Argument) (word : List ℕ) (x : Meaning a) → IsWordOf a word x → InPlace a x → Lacks 32 word
argument_lacks_blank AtPacket word x e range = word_lacks_blank AtHex tt word x e range
argument_lacks_blank AtLeg word x e range = subst (Lacks 32) (sym e) (leg_lacks_blank x)
argument_lacks_blank AtMode word x e range = subst (Lacks 32) (sym e) (mode_lacks_blank x)

word_text-stands : (a : Argument) (x : Meaning a) → InPlace a x → IsWordOf a (word_text a x) x
word_text-stands AtPacket x range = word_text-IsWordOf AtHex x range
word_text-stands AtLeg x range = refl
word_text-stands AtMode x range = refl

-- ---- one word or none

-- a value that was read
record Found (argument : Option Argument) (left : List (List ℕ)) (value : Value argument) : Type 0 where
  stand : AreWordsOf argument left value
  range : HasRange argument value

found : (argument : Option Argument) (left : List (List ℕ)) (value : Value argument) → read_argument argument left ≡ Ok value → Found argument left value
found None [] value h = record { stand = tt; range = tt }
found None (word ∷ rest) value h = absurd (cc)
found (Some a) [] value h = absurd (cc)
found (Some a) (word ∷ []) value h = by_word (read_word a word) refl h
  where
    by_word : (r : Result (Meaning a) TextReason) → read_word a word ≡ r
        → result_then {X = Meaning a × List (List ℕ)} {Y = Meaning a} (result_then r (λ x. Ok (x, []))) (λ read. result_then (line_end read.1) (λ end. Ok read.0)) ≡ Ok value
        → Found (Some a) (word ∷ []) value
    by_word (Ok x) e g =
        let same : x ≡ value = cc in
        let s = argument_sound a word value (e ∙ ap Ok same) in
        record { stand = s.0; range = s.1 }
    by_word (Err reason) e g = absurd (cc)
found (Some a) (word ∷ next ∷ rest) value h = by_word (read_word a word) refl h
  where
    by_word : (r : Result (Meaning a) TextReason) → read_word a word ≡ r
        → result_then {X = Meaning a × List (List ℕ)} {Y = Meaning a} (result_then r (λ x. Ok (x, next ∷ rest))) (λ read. result_then (line_end read.1) (λ end. Ok read.0)) ≡ Ok value
        → Found (Some a) (word ∷ next ∷ rest) value
    by_word (Ok x) e g = absurd (cc)
    by_word (Err reason) e g = absurd (cc)

-- the word of a value is read as it
argument_read : (argument : Option Argument) (left : List (List ℕ)) (value : Value argument) → AreWordsOf argument left value → HasRange argument value
    → read_argument argument left ≡ Ok value
argument_read None [] value stand range = refl
argument_read None (word ∷ rest) value stand range = absurd stand
argument_read (Some a) [] value stand range = absurd stand
argument_read (Some a) (word ∷ []) value stand range =
    ap (λ (r : Result (Meaning a) TextReason). result_then {X = Meaning a × List (List ℕ)} {Y = Meaning a} (result_then r (λ x. Ok (x, []))) (λ read. result_then (line_end read.1) (λ end. Ok read.0))) (argument_again a word value stand range)
argument_read (Some a) (word ∷ next ∷ rest) value stand range = absurd stand

words_lack_blanks : (argument : Option Argument) (left : List (List ℕ)) (value : Value argument) → AreWordsOf argument left value
    → HasRange argument value → AllLack 32 left
words_lack_blanks None [] value stand range = tt
words_lack_blanks None (word ∷ rest) value stand range = absurd stand
words_lack_blanks (Some a) [] value stand range = absurd stand
words_lack_blanks (Some a) (word ∷ []) value stand range = (argument_lacks_blank a word value stand range, tt)
words_lack_blanks (Some a) (word ∷ next ∷ rest) value stand range = absurd stand

value_words-stand : (argument : Option Argument) (value : Value argument) → HasRange argument value
    → AreWordsOf argument (value_words argument value) value
value_words-stand None value range = tt
value_words-stand (Some a) value range = word_text-stands a value range

-- ---- forms

-- a form is that of its keyword, and its event is seen as this form
record IsForm (form : DupForm) : Type 0 where
  of_keyword : form_of form.keyword ≡ form
  shown : (line : List ℕ) (value : Value form.argument) → IsWritten line form value → IsTextOf line (form.event value)

is_form : (k : DupKeyword) → IsForm (form_of k)
is_form keywords.Offer = record { of_keyword = refl; shown = λ line value h. h }
is_form keywords.Carry = record { of_keyword = refl; shown = λ line value h. h }
is_form keywords.Confirm = record { of_keyword = refl; shown = λ line value h. h }
is_form keywords.Fail = record { of_keyword = refl; shown = λ line value h. h }
is_form keywords.Mend = record { of_keyword = refl; shown = λ line value h. h }
is_form keywords.Mode = record { of_keyword = refl; shown = λ line value h. h }
is_form keywords.Drain = record { of_keyword = refl; shown = λ line value h. h }
is_form keywords.Ask = record { of_keyword = refl; shown = λ line value h. h }

form_keyword : (k : DupKeyword) → (form_of k).keyword ≡ k
form_keyword keywords.Offer = refl
form_keyword keywords.Carry = refl
form_keyword keywords.Confirm = refl
form_keyword keywords.Fail = refl
form_keyword keywords.Mend = refl
form_keyword keywords.Mode = refl
form_keyword keywords.Drain = refl
form_keyword keywords.Ask = refl

-- ---- what is read

read_sound : (form : DupForm) → IsForm form → (left : List (List ℕ)) (e : DupEvent) → read_form form left ≡ Ok e
    → IsTextOf (join_with_byte 32 (keyword_text form.keyword ∷ left)) e
read_sound form k left e h =
    by_value (read_argument form.argument left) refl h
  where
    by_value : (r : Result (Value form.argument) TextReason) → read_argument form.argument left ≡ r
        → result_then r (λ value. Ok (form.event value)) ≡ Ok e
        → IsTextOf (join_with_byte 32 (keyword_text form.keyword ∷ left)) e
    by_value (Ok value) are g =
        let f = found form.argument left value are in
        let P : DupEvent → Type 0 = λ x. IsTextOf (join_with_byte 32 (keyword_text form.keyword ∷ left)) x in
        let same : form.event value ≡ e = cc in
        subst P same (k.shown _ value (record { words = left; text = refl; stand = f.stand; range = f.range }))
    by_value (Err reason) are g = absurd (cc)

keyword_event_sound : (k : DupKeyword) (left : List (List ℕ)) (e : DupEvent) → keyword_event k left ≡ Ok e
    → IsTextOf (join_with_byte 32 (keyword_text k ∷ left)) e
unfolding keyword_event
keyword_event_sound k left e h =
    subst (λ (x : DupKeyword). IsTextOf (join_with_byte 32 (keyword_text x ∷ left)) e) (form_keyword k) (read_sound (form_of k) (is_form k) left e h)

words_event_sound : (word : List ℕ) (left : List (List ℕ)) (e : DupEvent) → words_event (word, left) ≡ Ok e
    → IsTextOf (join_with_byte 32 (word ∷ left)) e
words_event_sound word left e h =
    by_keyword (keyword_of word) refl h
  where
    by_keyword : (o : Option DupKeyword) → keyword_of word ≡ o → result_then (ok_or o Word) (λ keyword. keyword_event keyword left) ≡ Ok e
        → IsTextOf (join_with_byte 32 (word ∷ left)) e
    by_keyword (Some k) is_it g =
        let P : List ℕ → Type 0 = λ w. IsTextOf (join_with_byte 32 (w ∷ left)) e in
        subst P (sym (keyword_sound word k is_it)) (keyword_event_sound k left e g)
    by_keyword None is_it g = absurd (cc)

next_ok : (ws : List (List ℕ)) (next : List ℕ × List (List ℕ)) → next_word ws ≡ Ok next → ws ≡ next.0 ∷ next.1
next_ok [] next h = absurd (cc)
next_ok (word ∷ rest) next h = let same : (word, rest) ≡ next = cc in ap (λ (n : List ℕ × List (List ℕ)). n.0 ∷ n.1) same

-- What is read as an event is a text of it.
pub event_sound : (line : List ℕ) (e : DupEvent) → event_of line ≡ Ok e → IsTextOf line e
unfolding event_of
event_sound line e h = by_words (next_word (words line)) refl h
  where
    by_words : (r : Result (List ℕ × List (List ℕ)) TextReason) → next_word (words line) ≡ r → result_then r words_event ≡ Ok e
        → IsTextOf line e
    by_words (Ok next) is_next k =
        let P : List ℕ → Type 0 = λ l. IsTextOf l e in
        subst P (ap (join_with_byte 32) (sym (next_ok (words line) next is_next)) ∙ join_with_byte-slice_split 32 line) (words_event_sound next.0 next.1 e k)
    by_words (Err reason) is_next k = absurd (cc)

-- ---- what stands in a line is read

-- the words of a value are read in their form
form_again : (form : DupForm) (left : List (List ℕ)) (value : Value form.argument) → AreWordsOf form.argument left value
    → HasRange form.argument value
    → read_form form left ≡ Ok (form.event value)
form_again form left value stand range =
    ap (λ (r : Result (Value form.argument) TextReason). result_then r (λ v. Ok (form.event v))) (argument_read form.argument left value stand range)

keyword_event-form : (form : DupForm) → IsForm form → (left : List (List ℕ)) → keyword_event form.keyword left ≡ read_form form left
unfolding keyword_event
keyword_event-form form k left = ap (λ (f : DupForm). read_form f left) k.of_keyword

written_again : (line : List ℕ) (form : DupForm) → IsForm form → (value : Value form.argument) → IsWritten line form value
    → event_of line ≡ Ok (form.event value)
unfolding event_of
written_again line form k value h =
    let some : words line ≡ keyword_text form.keyword ∷ h.words =
    ap words h.text
    ∙ words-joined (keyword_text form.keyword) h.words (keyword_lacks_blank form.keyword) (words_lack_blanks form.argument h.words value h.stand h.range) in
    ap (λ (ws : List (List ℕ)). result_then (next_word ws) words_event) some
    ∙ ap (λ (o : Option DupKeyword). result_then (ok_or o Word) (λ keyword. keyword_event keyword h.words)) (keyword_again form.keyword)
    ∙ keyword_event-form form k h.words
    ∙ form_again form h.words value h.stand h.range

-- A text of an event is read as the event.
pub text_is_read : (line : List ℕ) (e : DupEvent) → IsTextOf line e → event_of line ≡ Ok e
text_is_read line (events.Offer packet) h = written_again line offer_form (is_form keywords.Offer) packet h
text_is_read line (events.Carry leg) h = written_again line (leg_form keywords.Carry events.Carry) (is_form keywords.Carry) leg h
text_is_read line (events.Confirm leg) h = written_again line (leg_form keywords.Confirm events.Confirm) (is_form keywords.Confirm) leg h
text_is_read line (events.Fail leg) h = written_again line (leg_form keywords.Fail events.Fail) (is_form keywords.Fail) leg h
text_is_read line (events.Mend leg) h = written_again line (leg_form keywords.Mend events.Mend) (is_form keywords.Mend) leg h
text_is_read line (events.SetMode mode) h = written_again line mode_form (is_form keywords.Mode) mode h
text_is_read line events.Drain h = written_again line (bare_form keywords.Drain events.Drain) (is_form keywords.Drain) tt h
text_is_read line events.Ask h = written_again line (bare_form keywords.Ask events.Ask) (is_form keywords.Ask) tt h

form_text-IsWritten : (form : DupForm) (value : Value form.argument) → HasRange form.argument value
    → IsWritten (form_text form value) form value
form_text-IsWritten form value range =
    record { words = value_words form.argument value; text = refl; stand = value_words-stand form.argument value range; range = range }

-- The text of an event in its ranges is one of its texts.
event_text-IsTextOf : (e : DupEvent) → InRange e → IsTextOf (event_text e) e
unfolding event_text
event_text-IsTextOf (events.Offer packet) h = form_text-IsWritten offer_form packet h
event_text-IsTextOf (events.Carry leg) h = form_text-IsWritten (leg_form keywords.Carry events.Carry) leg h
event_text-IsTextOf (events.Confirm leg) h = form_text-IsWritten (leg_form keywords.Confirm events.Confirm) leg h
event_text-IsTextOf (events.Fail leg) h = form_text-IsWritten (leg_form keywords.Fail events.Fail) leg h
event_text-IsTextOf (events.Mend leg) h = form_text-IsWritten (leg_form keywords.Mend events.Mend) leg h
event_text-IsTextOf (events.SetMode mode) h = form_text-IsWritten mode_form mode h
event_text-IsTextOf events.Drain h = form_text-IsWritten (bare_form keywords.Drain events.Drain) tt h
event_text-IsTextOf events.Ask h = form_text-IsWritten (bare_form keywords.Ask events.Ask) tt h

-- An event in its ranges is read again from its text.
pub event_of-event_text : (e : DupEvent) → InRange e → event_of (event_text e) ≡ Ok e
event_of-event_text e h = text_is_read (event_text e) e (event_text-IsTextOf e h)

text_in_range : (line : List ℕ) (e : DupEvent) → IsTextOf line e → InRange e
text_in_range line (events.Offer packet) h = h.range
text_in_range line (events.Carry leg) h = h.range
text_in_range line (events.Confirm leg) h = h.range
text_in_range line (events.Fail leg) h = h.range
text_in_range line (events.Mend leg) h = h.range
text_in_range line (events.SetMode mode) h = h.range
text_in_range line events.Drain h = h.range
text_in_range line events.Ask h = h.range

-- What a reader gives as the grammar says lies in its ranges.
pub given_in_range : (line : List ℕ) (r : Result DupEvent TextError) → GivesOrMemory (λ x. x) r (event_of line) → IfOk r InRange
given_in_range line (Ok e) h = text_in_range line e (event_sound line e h)
given_in_range line (Err error) h = tt
