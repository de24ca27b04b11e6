-- Internal: what the code gave of an event.
use Rattle.std.specs.Prelude.{◌≡◌, List, [], ◌∷◌, ◌++◌, None}
use Rattle.command_bearers.specs.declared.script_word.word.Happening.{Happening}
use Rattle.command_bearers.specs.script_word.Meaning.{WordMeaning}

-- after these events: its text, and why the run stops in it, or the run that goes on
pub record IsApplied {Event : Type 0} (m : WordMeaning Event) (Ran : List Event → Type 0) (events : List Event) (event : Event) (h : Happening) : Type 0 where
  pub text : m.text (events ++ event ∷ []) ≡ m.text events ++ h.text
  pub stops : m.stopped (events ++ event ∷ []) ≡ h.cause
  pub goes : h.cause ≡ None → Ran (events ++ event ∷ [])
