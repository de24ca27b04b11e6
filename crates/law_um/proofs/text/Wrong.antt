-- What a reader refuses is a first wrong word, and a first wrong word is refused.
use Rattle.std.proofs.Common.{◌≡◌, ℕ, List, Option, Some, None, Result, Ok, Err, [], ◌∷◌, refl, ap, ◌∙◌, sym, subst, inl, inr}
use Rattle.std.specs.Option.{ok_or}
use Rattle.scenario_text.specs.declared.script_words.reason.TextReason.{TextReason}
use Rattle.scenario_text.specs.declared.script_words.reason.TextReason.TheVariants.{Word}
use Rattle.scenario_text.specs.script_words.Forms.{words}
use Rattle.scenario_text.specs.script_words.Places.{Place, Values, read_places, result_then, next_word}
use Rattle.um.specs.declared.text.keyword.UmKeyword.{UmKeyword}
use Rattle.um.specs.declared.text.keyword.UmKeyword.TheVariants as keywords
use Rattle.um.specs.text.Grammar.{UmForm, keyword_of, form_of, read_form, keyword_event, words_event, event_of}
use Rattle.um.proofs.text.EventLaws.{keyword_sound, keyword_again, IsForm, is_form}
use Rattle.law_scenario.specs.FirstWrong.{IsWrongIn}
use Rattle.law_scenario.proofs.Wrong.{same_reason, places_wrong, places_refused, no_words}
use Rattle.law_um.specs.text.FirstWrong.{places_after, IsWrongEvent, IsFirstWrong}

form_wrong : (form : UmForm) → IsForm form → (left : List (List ℕ)) (reason : TextReason) → read_form form left ≡ Err reason
    → IsWrongIn form.places left reason
form_wrong form k left reason h = by_read (read_places form.places left) refl h
  where
    by_read : (r : Result (Values form.places) TextReason) → read_places form.places left ≡ r
        → result_then r (λ values. Ok (form.event values)) ≡ Err reason → IsWrongIn form.places left reason
    by_read (Ok values) e g = absurd (cc)
    by_read (Err other) e g =
        let same : other ≡ reason = same_reason _ other reason refl g in
        places_wrong form.places k.places (λ vs. vs) left reason (e ∙ ap Err same)

form_refused : (form : UmForm) → IsForm form → (left : List (List ℕ)) (reason : TextReason) → IsWrongIn form.places left reason
    → read_form form left ≡ Err reason
form_refused form k left reason h =
    ap (λ (r : Result (Values form.places) TextReason). result_then r (λ values. Ok (form.event values))) (places_refused form.places k.places (λ vs. vs) left reason h)

places_are : (k : UmKeyword) → (form_of k).places ≡ places_after k
places_are keywords.Offer = refl
places_are keywords.Give = refl
places_are keywords.Again = refl
places_are keywords.Lose = refl
places_are keywords.Tick = refl
places_are keywords.Ask = refl

keyword_wrong : (k : UmKeyword) (left : List (List ℕ)) (reason : TextReason) → keyword_event k left ≡ Err reason
    → IsWrongIn (places_after k) left reason
unfolding keyword_event
keyword_wrong k left reason h =
    subst (λ (places : List Place). IsWrongIn places left reason) (places_are k) (form_wrong (form_of k) (is_form k) left reason h)

keyword_refused : (k : UmKeyword) (left : List (List ℕ)) (reason : TextReason) → IsWrongIn (places_after k) left reason
    → keyword_event k left ≡ Err reason
unfolding keyword_event
keyword_refused k left reason h =
    form_refused (form_of k) (is_form k) left reason (subst (λ (places : List Place). IsWrongIn places left reason) (sym (places_are k)) h)

none_is_some : {X : Type 0} (o : Option X) (x : X) → o ≡ None → o ≡ Some x → ⊥
none_is_some o x p q = absurd (cc)

words_wrong : (word : List ℕ) (left : List (List ℕ)) (reason : TextReason) → words_event (word, left) ≡ Err reason
    → IsWrongEvent (word ∷ left) reason
words_wrong word left reason h = by_keyword (keyword_of word) refl h
  where
    by_keyword : (o : Option UmKeyword) → keyword_of word ≡ o
        → result_then (ok_or o Word) (λ keyword. keyword_event keyword left) ≡ Err reason → IsWrongEvent (word ∷ left) reason
    by_keyword (Some k) found g = inr (k, keyword_sound word k found, keyword_wrong k left reason g)
    by_keyword None found g =
        inl ((λ k same. none_is_some (keyword_of word) k found (ap keyword_of same ∙ keyword_again k)), sym (same_reason _ Word reason refl g))

words_refused : (word : List ℕ) (left : List (List ℕ)) (reason : TextReason) → IsWrongEvent (word ∷ left) reason
    → words_event (word, left) ≡ Err reason
words_refused word left reason (inr h) =
    ap (λ (o : Option UmKeyword). result_then (ok_or o Word) (λ keyword. keyword_event keyword left)) (ap keyword_of h.1 ∙ keyword_again h.0) ∙ keyword_refused h.0 left reason h.2
words_refused word left reason (inl h) = by_keyword (keyword_of word) refl
  where
    by_keyword : (o : Option UmKeyword) → keyword_of word ≡ o → words_event (word, left) ≡ Err reason
    by_keyword (Some k) found = absurd (h.0 k (keyword_sound word k found))
    by_keyword None found = ap (λ (o : Option UmKeyword). result_then (ok_or o Word) (λ keyword. keyword_event keyword left)) found ∙ ap Err (sym h.1)

-- What is refused has a first wrong word.
pub refused_wrong : (line : List ℕ) (reason : TextReason) → event_of line ≡ Err reason → IsFirstWrong line reason
unfolding event_of
refused_wrong line reason h = by_words (words line) refl h
  where
    by_words : (ws : List (List ℕ)) → words line ≡ ws → result_then (next_word ws) words_event ≡ Err reason → IsWrongEvent ws reason
    by_words [] e g = absurd (no_words line e)
    by_words (word ∷ rest) e g = words_wrong word rest reason g

-- A first wrong word is refused.
pub wrong_refused : (line : List ℕ) (reason : TextReason) → IsFirstWrong line reason → event_of line ≡ Err reason
unfolding event_of
wrong_refused line reason h = by_words (words line) h
  where
    by_words : (ws : List (List ℕ)) → IsWrongEvent ws reason → result_then (next_word ws) words_event ≡ Err reason
    by_words [] g = absurd g
    by_words (word ∷ rest) g = words_refused word rest reason g
