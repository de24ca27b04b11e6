-- What a reader refuses is a first wrong word, and a first wrong word is refused.
use Rattle.std.proofs.Common.{◌≡◌, ℕ, List, Option, Some, None, Result, Ok, Err, [], ◌∷◌, refl, ap, ◌∙◌, sym, subst, inl, inr}
use Rattle.std.specs.Option.{ok_or}
use Rattle.scenario_text.specs.declared.script_words.reason.TextReason.{TextReason}
use Rattle.scenario_text.specs.declared.script_words.reason.TextReason.TheVariants.{Word, Number, Hex, Extra}
use Rattle.scenario_text.specs.script_words.Forms.{words, hex}
use Rattle.scenario_text.specs.script_words.Places.{AtHex, line_end, result_then, next_word}
use Rattle.dup.specs.declared.text.keyword.DupKeyword.{DupKeyword}
use Rattle.dup.specs.declared.text.keyword.DupKeyword.TheVariants as keywords
use Rattle.dup.specs.text.Arguments.{Argument, AtPacket, AtLeg, AtMode, Meaning, Value, leg_of, mode_of, read_word, read_argument}
use Rattle.dup.specs.text.Grammar.{DupForm, keyword_of, form_of, read_form, keyword_event, words_event, event_of}
use Rattle.dup.proofs.text.EventLaws.{keyword_sound, keyword_again, argument_sound, argument_again}
use Rattle.law_scenario.proofs.Wrong.{ok_or_err, same_reason, not_both, places_wrong, no_words}
use Rattle.law_dup.specs.text.FirstWrong.{HasNone, fault_at, IsWrongAfter, argument_after, IsWrongEvent, IsFirstWrong}

-- ---- one word

hex_fault : (word : List ℕ) (reason : TextReason) → hex word ≡ Err reason → reason ≡ Hex
hex_fault word reason h =
    let refused = ap (λ (r : Result (List ℕ) TextReason). result_then {X = List ℕ × List (List ℕ)} {Y = List ℕ × Unit {0}} (result_then r (λ x. Ok (x, []))) (λ read. result_then (line_end read.1) (λ end. Ok (read.0, tt)))) h in
    elim (places_wrong (AtHex ∷ []) (tt, tt) (λ vs. vs) (word ∷ []) reason refused) [
      | inl w ↦ w.1
      | inr w ↦ absurd w.3
    ]

fault_is : (a : Argument) (word : List ℕ) (reason : TextReason) → read_word a word ≡ Err reason → reason ≡ fault_at a
fault_is AtPacket word reason h = hex_fault word reason h
fault_is AtLeg word reason h = ok_or_err (leg_of word) Number reason h
fault_is AtMode word reason h = ok_or_err (mode_of word) Word reason h

none_at : (a : Argument) (word : List ℕ) (reason : TextReason) → read_word a word ≡ Err reason → HasNone a word
none_at a word reason h = λ value stands range. not_both (read_word a word) value reason (argument_again a word value stands range) h

word_refused : (a : Argument) (word : List ℕ) → HasNone a word → read_word a word ≡ Err (fault_at a)
word_refused a word none = by_read (read_word a word) refl
  where
    by_read : (r : Result (Meaning a) TextReason) → read_word a word ≡ r → read_word a word ≡ Err (fault_at a)
    by_read (Ok x) e = let s = argument_sound a word x e in absurd (none x s.0 s.1)
    by_read (Err other) e = e ∙ ap Err (fault_is a word other e)

-- ---- the words after a keyword

-- a word of a value, and what is left after it
end_wrong : {X : Type 0} (x : X) (rest : List (List ℕ)) (reason : TextReason) → result_then (line_end rest) (λ end. Ok x) ≡ Err reason
    → IsWrongAfter None rest reason
end_wrong x [] reason h = absurd (cc)
end_wrong x (word ∷ rest) reason h = sym (same_reason _ Extra reason refl h)

end_refused : {X : Type 0} (x : X) (rest : List (List ℕ)) (reason : TextReason) → IsWrongAfter None rest reason
    → result_then (line_end rest) (λ end. Ok x) ≡ Err reason
end_refused x [] reason h = absurd h
end_refused x (word ∷ rest) reason h = ap Err (sym h)

argument_wrong : (argument : Option Argument) (left : List (List ℕ)) (reason : TextReason) → read_argument argument left ≡ Err reason
    → IsWrongAfter argument left reason
argument_wrong None [] reason h = absurd (cc)
argument_wrong None (word ∷ rest) reason h = sym (same_reason _ Extra reason refl h)
argument_wrong (Some a) [] reason h = sym (same_reason _ Word reason refl h)
argument_wrong (Some a) (word ∷ rest) reason h = by_read (read_word a word) refl h
  where
    by_read : (r : Result (Meaning a) TextReason) → read_word a word ≡ r
        → result_then {X = Meaning a × List (List ℕ)} {Y = Meaning a} (result_then r (λ x. Ok (x, rest))) (λ read. result_then (line_end read.1) (λ end. Ok read.0)) ≡ Err reason
        → IsWrongAfter (Some a) (word ∷ rest) reason
    by_read (Ok x) e g = let s = argument_sound a word x e in inr (x, s.0, s.1, end_wrong x rest reason g)
    by_read (Err other) e g =
        let same : other ≡ reason = same_reason _ other reason refl g in
        inl (none_at a word other e, sym same ∙ fault_is a word other e)

argument_refused : (argument : Option Argument) (left : List (List ℕ)) (reason : TextReason) → IsWrongAfter argument left reason
    → read_argument argument left ≡ Err reason
argument_refused None [] reason h = absurd h
argument_refused None (word ∷ rest) reason h = ap Err (sym h)
argument_refused (Some a) [] reason h = ap Err (sym h)
argument_refused (Some a) (word ∷ rest) reason (inl h) =
    ap (λ (r : Result (Meaning a) TextReason). result_then {X = Meaning a × List (List ℕ)} {Y = Meaning a} (result_then r (λ x. Ok (x, rest))) (λ read. result_then (line_end read.1) (λ end. Ok read.0))) (word_refused a word h.0)
    ∙ ap Err (sym h.1)
argument_refused (Some a) (word ∷ rest) reason (inr h) =
    ap (λ (r : Result (Meaning a) TextReason). result_then {X = Meaning a × List (List ℕ)} {Y = Meaning a} (result_then r (λ x. Ok (x, rest))) (λ read. result_then (line_end read.1) (λ end. Ok read.0))) (argument_again a word h.0 h.1 h.2)
    ∙ end_refused h.0 rest reason h.3

form_wrong : (form : DupForm) (left : List (List ℕ)) (reason : TextReason) → read_form form left ≡ Err reason
    → IsWrongAfter form.argument left reason
form_wrong form left reason h = by_read (read_argument form.argument left) refl h
  where
    by_read : (r : Result (Value form.argument) TextReason) → read_argument form.argument left ≡ r
        → result_then r (λ value. Ok (form.event value)) ≡ Err reason → IsWrongAfter form.argument left reason
    by_read (Ok value) e g = absurd (cc)
    by_read (Err other) e g =
        let same : other ≡ reason = same_reason _ other reason refl g in
        argument_wrong form.argument left reason (e ∙ ap Err same)

form_refused : (form : DupForm) (left : List (List ℕ)) (reason : TextReason) → IsWrongAfter form.argument left reason
    → read_form form left ≡ Err reason
form_refused form left reason h =
    ap (λ (r : Result (Value form.argument) TextReason). result_then r (λ value. Ok (form.event value))) (argument_refused form.argument left reason h)

-- ---- events

argument_is : (k : DupKeyword) → (form_of k).argument ≡ argument_after k
argument_is keywords.Offer = refl
argument_is keywords.Carry = refl
argument_is keywords.Confirm = refl
argument_is keywords.Fail = refl
argument_is keywords.Mend = refl
argument_is keywords.Mode = refl
argument_is keywords.Drain = refl
argument_is keywords.Ask = refl

keyword_wrong : (k : DupKeyword) (left : List (List ℕ)) (reason : TextReason) → keyword_event k left ≡ Err reason
    → IsWrongAfter (argument_after k) left reason
unfolding keyword_event
keyword_wrong k left reason h =
    subst (λ (argument : Option Argument). IsWrongAfter argument left reason) (argument_is k) (form_wrong (form_of k) left reason h)

keyword_refused : (k : DupKeyword) (left : List (List ℕ)) (reason : TextReason) → IsWrongAfter (argument_after k) left reason
    → keyword_event k left ≡ Err reason
unfolding keyword_event
keyword_refused k left reason h =
    form_refused (form_of k) left reason (subst (λ (argument : Option Argument). IsWrongAfter argument left reason) (sym (argument_is k)) h)

none_is_some : {X : Type 0} (o : Option X) (x : X) → o ≡ None → o ≡ Some x → ⊥
none_is_some o x p q = absurd (cc)

words_wrong : (word : List ℕ) (left : List (List ℕ)) (reason : TextReason) → words_event (word, left) ≡ Err reason
    → IsWrongEvent (word ∷ left) reason
words_wrong word left reason h = by_keyword (keyword_of word) refl h
  where
    by_keyword : (o : Option DupKeyword) → keyword_of word ≡ o
        → result_then (ok_or o Word) (λ keyword. keyword_event keyword left) ≡ Err reason → IsWrongEvent (word ∷ left) reason
    by_keyword (Some k) found g = inr (k, keyword_sound word k found, keyword_wrong k left reason g)
    by_keyword None found g =
        inl ((λ k same. none_is_some (keyword_of word) k found (ap keyword_of same ∙ keyword_again k)), sym (same_reason _ Word reason refl g))

words_refused : (word : List ℕ) (left : List (List ℕ)) (reason : TextReason) → IsWrongEvent (word ∷ left) reason
    → words_event (word, left) ≡ Err reason
words_refused word left reason (inr h) =
    ap (λ (o : Option DupKeyword). result_then (ok_or o Word) (λ keyword. keyword_event keyword left)) (ap keyword_of h.1 ∙ keyword_again h.0) ∙ keyword_refused h.0 left reason h.2
words_refused word left reason (inl h) = by_keyword (keyword_of word) refl
  where
    by_keyword : (o : Option DupKeyword) → keyword_of word ≡ o → words_event (word, left) ≡ Err reason
    by_keyword (Some k) found = absurd (h.0 k (keyword_sound word k found))
    by_keyword None found = ap (λ (o : Option DupKeyword). result_then (ok_or o Word) (λ keyword. keyword_event keyword left)) found ∙ ap Err (sym h.1)

-- What is refused has a first wrong word.
pub refused_wrong : (line : List ℕ) (reason : TextReason) → event_of line ≡ Err reason → IsFirstWrong line reason
unfolding event_of
refused_wrong line reason h = by_words (words line) refl h
  where
    by_words : (ws : List (List ℕ)) → words line ≡ ws → result_then (next_word ws) words_event ≡ Err reason → IsWrongEvent ws reason
    by_words [] e g = absurd (no_words line e)
    by_words (word ∷ rest) e g = words_wrong word rest reason g

-- A first wrong word is refused.
pub wrong_refused : (line : List ℕ) (reason : TextReason) → IsFirstWrong line reason → event_of line ≡ Err reason
unfolding event_of
wrong_refused line reason h = by_words (words line) h
  where
    by_words : (ws : List (List ℕ)) → IsWrongEvent ws reason → result_then (next_word ws) words_event ≡ Err reason
    by_words [] g = absurd g
    by_words (word ∷ rest) g = words_refused word rest reason g
