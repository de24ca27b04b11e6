-- What a word means whose input is a script of events without a header.
use Rattle.std.specs.Prelude.{◌≡◌, ℕ, List, [], ◌∷◌, ◌++◌, Option, Some, None, Result}
use Rattle.scenario_text.specs.declared.script_words.reason.TextReason.{TextReason}
use Rattle.command_bearers.specs.declared.script_word.end.StopCause.{StopCause}

pub record WordMeaning (Event : Type 0) : Type 0 where
  -- the event of a line that isn't skipped, or why the line is not an event
  pub event_of : List ℕ → Result Event TextReason
  -- the text of the run of these events: each event's own line, and the lines that it prints
  pub text : List Event → List ℕ
  -- why that run stopped, if it did
  pub stopped : List Event → Option StopCause

-- before the first event nothing was printed and the run goes on; once it stopped, it stays so
pub record IsLawful {Event : Type 0} (m : WordMeaning Event) : Type 0 where
  pub no_text : m.text [] ≡ []
  pub goes_first : m.stopped [] ≡ None
  pub stays : (events : List Event) (event : Event) (cause : StopCause) → m.stopped events ≡ Some cause
      → m.stopped (events ++ event ∷ []) ≡ Some cause
