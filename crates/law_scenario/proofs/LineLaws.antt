-- No two transcripts have one text.
use Rattle.std.proofs.Common.{◌≡◌, ℕ, List, [], ◌∷◌, ◌++◌, map, refl, ap, ◌∙◌, sym, subst, nat_eq, append_assoc}
use Rattle.std.specs.List.{slice_split}
use Rattle.scenario_text.proofs.script_words.PlaceLaws.{value_words-AreWordsOf}
use Rattle.scenario_text.specs.declared.event.Event.{Event}
use Rattle.scenario_text.specs.script_words.Places.{value_words}
use Rattle.scenario_text.specs.declared.event.Keyword.{Keyword}
use Rattle.scenario_text.specs.declared.event.Keyword.TheVariants as keywords
use Rattle.scenario_text.specs.Grammar.{keyword_text}
use Rattle.scenario_text.specs.Texts.{event_text, InRange}
use Rattle.scenario_text.specs.declared.line.OutLine.{OutLine}
use Rattle.scenario_text.specs.declared.line.OutLine.TheVariants as lines
use Rattle.scenario_text.specs.Print.{line_text, print}
use Rattle.scenario_text.proofs.EventLaws.{text_by_form}
use Rattle.transcript_defs.specs.Lines.{IsLine, AreLines}
use Rattle.proof_transcript_lines.proofs.Solid.{Solid, parts_then, Without, solid_line, solid-places}
use Rattle.proof_transcript_lines.proofs.ReadLines.{ReadsBack, line_reads_all, one_line}

keyword_solid : (k : Keyword) → Solid (keyword_text k)
keyword_solid keywords.Static = refl
keyword_solid keywords.Start = refl
keyword_solid keywords.Attach = refl
keyword_solid keywords.Offer = refl
keyword_solid keywords.Get = refl
keyword_solid keywords.Air = refl
keyword_solid keywords.Ack = refl
keyword_solid keywords.Give = refl
keyword_solid keywords.Lose = refl
keyword_solid keywords.Poll = refl
keyword_solid keywords.Pump = refl
keyword_solid keywords.Tick = refl
keyword_solid keywords.Fail = refl
keyword_solid keywords.Arrive = refl
keyword_solid keywords.Return = refl
keyword_solid keywords.Handover = refl
keyword_solid keywords.Cancel = refl
keyword_solid keywords.Release = refl
keyword_solid keywords.Ask = refl
keyword_solid keywords.Settle = refl
keyword_solid keywords.Inject = refl

event_solid : (event : Event) → InRange event → Without 10 (event_text event)
event_solid event h =
    text_by_form (Without 10)
    (λ form known values range. solid_line (keyword_text form.keyword) (value_words form.places values) (keyword_solid form.keyword) (solid-places form.places known.places (value_words form.places values) values (value_words-AreWordsOf form.places values range) range))
    event h

line_solid : (line : OutLine) → IsLine line → Without 10 (line_text line)
unfolding line_text
line_solid (lines.Happens event) h = event_solid event h
line_solid line h = reads_solid line (line_text line) (line_reads_all line tt h)
  where
    reads_solid : (l : OutLine) (text : List ℕ) → ReadsBack l text → Without 10 text
    reads_solid l text r = subst (Without 10) (sym r.words_are) (solid_line r.word r.rest r.solid_word r.solid_rest)

texts_of : List OutLine → List (List ℕ)
texts_of ls = map line_text ls ++ ([] ∷ [])

print_texts : (ls : List OutLine) → AreLines ls → slice_split (λ x. nat_eq x 10) (print ls) ≡ texts_of ls
unfolding texts_of
print_texts [] h = refl
print_texts (l ∷ ls) h =
    ap (slice_split (λ x. nat_eq x 10)) (append_assoc (line_text l) (10 ∷ []) (print ls))
    ∙ parts_then 10 (line_text l) (print ls) (line_solid l h.0)
    ∙ ap (λ ts. line_text l ∷ ts) (print_texts ls h.1)

some_left : (ls : List OutLine) → [] ≡ texts_of ls → ⊥
unfolding texts_of
some_left [] h = absurd (cc)
some_left (l ∷ ls) h = absurd (cc)

head_of : {X : Type 0} (a b : X) (xs ys : List X) → a ∷ xs ≡ b ∷ ys → (a ≡ b) × (xs ≡ ys)
head_of a b xs ys h = (cc, cc)

same_texts : (xs ys : List OutLine) → AreLines xs → AreLines ys → texts_of xs ≡ texts_of ys → xs ≡ ys
unfolding texts_of
same_texts [] [] h k e = refl
same_texts [] (b ∷ ys) h k e = absurd (some_left ys (head_of [] (line_text b) [] (texts_of ys) e).1)
same_texts (a ∷ xs) [] h k e = absurd (some_left xs (head_of [] (line_text a) [] (texts_of xs) (sym e)).1)
same_texts (a ∷ xs) (b ∷ ys) h k e =
    let both = head_of (line_text a) (line_text b) (texts_of xs) (texts_of ys) e in
    ap (λ l. l ∷ xs) (one_line a b h.0 k.0 both.0) ∙ ap (λ ls. b ∷ ls) (same_texts xs ys h.1 k.1 both.1)

-- No two transcripts have one text.
pub one_transcript : (xs ys : List OutLine) → AreLines xs → AreLines ys → print xs ≡ print ys → xs ≡ ys
one_transcript xs ys h k e = same_texts xs ys h k (sym (print_texts xs h) ∙ ap (slice_split (λ x. nat_eq x 10)) e ∙ print_texts ys k)
