-- What lines mean, one line more; and a line that is not an event.
use Rattle.std.proofs.Common.{◌≡◌, ℕ, List, [], ◌∷◌, ◌++◌, true, false, Option, Some, None, Result, Ok, Err, refl, sym, ap, ◌∙◌, subst, append-nil}
use Rattle.std.proofs.lemmas.Grind.{flat_map-append}
use Rattle.std.proofs.lemmas.List.{map-append}
use Rattle.std.specs.List.{flat_map}
use Rattle.scenario_text.specs.declared.script_words.reason.TextReason.{TextReason}
use Rattle.scenario_text.specs.declared.script_words.reason.TextError.{TextError}
use Rattle.scenario_text.specs.declared.script_words.reason.TextError.TheVariants as texts
use Rattle.scenario_text.specs.script_words.Answers.{GivesOrMemory}
use Rattle.scenario_text.specs.Grammar.{is_skipped}
use Rattle.gnb_base.specs.declared.lines.Line.{Line}
use Rattle.command_bearers.specs.declared.script_word.end.ScriptEnd.TheVariants.{Script}
use Rattle.command_bearers.specs.script_word.Meaning.{WordMeaning}
use Rattle.command_bearers.specs.script_word.Run.{meanings, AreEvents}
use Rattle.command_bearers.specs.script_word.inside.Turns.{IsEvent, LineStops, Refused, Means}

module _ {Event : Type 0} (m : WordMeaning Event) where
  meanings-more : (lines : List (List ℕ)) (line : List ℕ)
      → flat_map (meanings m) (lines ++ line ∷ []) ≡ flat_map (meanings m) lines ++ meanings m line
  meanings-more lines line =
      flat_map-append (meanings m) lines (line ∷ [])
      ∙ ap (λ (ms : List (Result Event TextReason)). flat_map (meanings m) lines ++ ms) (append-nil (meanings m line))

  skip_means : (line : List ℕ) → is_skipped line ≡ true → meanings m line ≡ []
  skip_means line e = rw e refl

  pub event_means : (InRange : Event → Type 0) (line : List ℕ) (event : Event) → IsEvent m InRange line event
      → meanings m line ≡ Ok event ∷ []
  event_means InRange line event e = rw (e.one, e.read) refl

  pub script_skips : (lines : List (List ℕ)) (line : List ℕ) (events : List Event) → AreEvents m lines events
      → is_skipped line ≡ true → AreEvents m (lines ++ line ∷ []) events
  script_skips lines line events h e =
      meanings-more lines line
      ∙ ap (λ (ms : List (Result Event TextReason)). flat_map (meanings m) lines ++ ms) (skip_means line e) ∙ append-nil _ ∙ h

  pub script_more : (lines : List (List ℕ)) (line : List ℕ) (events : List Event) (event : Event) → AreEvents m lines events
      → meanings m line ≡ Ok event ∷ [] → AreEvents m (lines ++ line ∷ []) (events ++ event ∷ [])
  script_more lines line events event h e =
      meanings-more lines line
      ∙ ap (λ (ms : List (Result Event TextReason)). flat_map (meanings m) lines ++ ms) e
      ∙ ap (λ (ms : List (Result Event TextReason)). ms ++ Ok event ∷ []) h
      ∙ sym (map-append (λ event. Ok event) events (event ∷ []))

  pub is_refused : (line : Line) (text : List ℕ) (error : TextError) (reason : TextReason) → error ≡ texts.Refused reason → text ≡ line.text
      → is_skipped text ≡ false → GivesOrMemory {X = Event} (λ x. x) (Err error) (m.event_of text) → LineStops m line (Script line.number reason)
  is_refused line text error reason e same skip gives =
      let read = subst (λ (t : TextError). GivesOrMemory {X = Event} (λ x. x) (Err t) (m.event_of text)) e gives in
      Refused reason (ap is_skipped (sym same) ∙ skip) (ap (λ (t : List ℕ). m.event_of t) (sym same) ∙ read) refl

  module _ (InRange : Event → Type 0) (line : Line) (found : Option Event) (means : Means m InRange line (Ok found)) where
    pub means_skipped : found ≡ None → is_skipped line.text ≡ true
    means_skipped e = subst (λ (o : Option Event). Means m InRange line (Ok o)) e means

    pub means_event : (event : Event) → found ≡ Some event → IsEvent m InRange line.text event
    means_event event e = subst (λ (o : Option Event). Means m InRange line (Ok o)) e means
