-- Internal: a value that is read at once and put after others, as what it is kept as.
use Rattle.std.specs.Prelude.{◌≡◌, List, [], ◌∷◌, ◌++◌, Result, Ok, Err}
use Rattle.aper_defs.specs.Values as seen
use Rattle.aper_defs.specs.Fields.{Path}
use Rattle.aper_defs.specs.Questions.{Prog}
use Rattle.aper_defs.specs.Reading.{Cursor}
use Rattle.aper_cursor.specs.declared.error.Unanswered.{Unanswered}
use Rattle.aper_cursor.specs.declared.error.Unanswered.TheVariants.{Wrong, Memory}
use Rattle.aper_values.specs.declared.value.Value.{Value}
use Rattle.aper_frames.specs.simple.Reads.{Reads}

-- a value was read, and what it is kept as put after those before it
pub record IsPut {A : Type 0} (keeps : Value → A → Type 0) (question : Path → (seen.Value → Prog) → Prog) (old new : Cursor)
    (before after : List A) : Type 0 where
  pub value : Value
  pub kept : A
  pub read : Reads question old new (Ok value)
  pub kept_as : keeps value kept
  pub put : after ≡ before ++ kept ∷ []

abbrev pub Puts : {A : Type 0} → (Value → A → Type 0) → (Path → (seen.Value → Prog) → Prog) → Cursor → Cursor → List A → List A
    → Result (Unit {0}) Unanswered → Type 0
Puts keeps question old new before after (Ok done) = IsPut keeps question old new before after
Puts keeps question old new before after (Err (Wrong reason)) = Reads question old new (Err (Wrong reason)) × (after ≡ before)
Puts keeps question old new before after (Err Memory) = Unit {0}

-- what a value is kept as was put
pub record IsKept {A : Type 0} (keeps : Value → A → Type 0) (value : Value) (before after : List A) : Type 0 where
  pub kept : A
  pub kept_as : keeps value kept
  pub put : after ≡ before ++ kept ∷ []

-- what was read was put
abbrev pub PutsRead : {A : Type 0} → (Value → A → Type 0) → Result Value Unanswered → List A → List A → Result (Unit {0}) Unanswered → Type 0
PutsRead keeps (Ok value) before after (Ok done) = IsKept keeps value before after
PutsRead keeps (Ok value) before after (Err (Wrong reason)) = ⊥
PutsRead keeps (Ok value) before after (Err Memory) = Unit {0}
PutsRead keeps (Err error) before after (Ok done) = ⊥
PutsRead keeps (Err error) before after (Err told) = (told ≡ error) × (after ≡ before)
