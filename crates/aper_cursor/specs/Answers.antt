-- What the calls of a cursor answer.
use Rattle.std.specs.Prelude.{◌≡◌, ℕ, ◌*◌, List, ◌++◌, length, Result, Ok, Err}
use Rattle.aper_defs.specs.declared.reason.Reason.{Reason}
use Rattle.aper_defs.specs.Fields.{Ask, RunUnit}
use Rattle.aper_defs.specs.Bits.{unit_width}
use Rattle.aper_defs.specs.Reading.{Cursor, read, read_units, answered_at, moved_by}
use Rattle.aper_cursor.specs.declared.error.Unanswered.{Unanswered}
use Rattle.aper_cursor.specs.declared.error.Unanswered.TheVariants.{Wrong, Memory}

-- The answer that stands at a place, and the place is then after it; or why there is none, and the place stays.
abbrev pub Answers : Ask → Cursor → Cursor → Result ℕ Reason → Type 0
Answers question old new (Ok n) = (read question old ≡ Ok n) × (new ≡ answered_at question n old)
Answers question old new (Err reason) = (read question old ≡ Err reason) × (new ≡ old)

-- the same, unless memory runs out
abbrev pub AnswersOrMemory : Ask → Cursor → Cursor → Result ℕ Unanswered → Type 0
AnswersOrMemory question old new (Ok n) = Answers question old new (Ok n)
AnswersOrMemory question old new (Err (Wrong reason)) = Answers question old new (Err reason)
AnswersOrMemory question old new (Err Memory) = Unit {0}

-- so many units, put behind others
pub record TakesRun (unit : RunUnit) (count : ℕ) (old new : Cursor) (before after : List ℕ) : Type 0 where
  pub units : List ℕ
  pub stand : read_units unit count old ≡ Ok units
  pub put : after ≡ before ++ units
  pub size : length units ≡ count
  pub moves : new ≡ moved_by (unit_width unit * count) old

abbrev pub ReadsRun : RunUnit → ℕ → Cursor → Cursor → List ℕ → List ℕ → Result (Unit {0}) Unanswered → Type 0
ReadsRun unit count old new before after (Ok done) = TakesRun unit count old new before after
ReadsRun unit count old new before after (Err (Wrong reason)) = (read_units unit count old ≡ Err reason) × (new ≡ old)
ReadsRun unit count old new before after (Err Memory) = Unit {0}
