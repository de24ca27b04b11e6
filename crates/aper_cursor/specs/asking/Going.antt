-- What is asked at a place.
use Rattle.std.specs.Prelude.{◌≡◌, ℕ, ◌*◌, ◌^◌, ◌<◌, ◌≤◌, List, ◌++◌, Result, Ok, Err}
use Rattle.aper_defs.specs.declared.reason.Reason.{Reason}
use Rattle.aper_defs.specs.Fields.{Path}
use Rattle.aper_defs.specs.Questions.{Prog}
use Rattle.aper_defs.specs.Reading.{Cursor, Fault, run}
use Rattle.aper_cursor.specs.declared.lengths.Extent.{Extent}
use Rattle.aper_cursor.specs.declared.lengths.Extent.TheVariants as extents
use Rattle.aper_cursor.specs.declared.questions.Question.{Question}
use Rattle.aper_cursor.specs.declared.questions.Question.TheVariants as questions
use Rattle.aper_cursor.specs.declared.error.Unanswered.{Unanswered}
use Rattle.aper_cursor.specs.declared.error.Unanswered.TheVariants.{Wrong, Memory}

-- a field of a value at a path, wrong at a place
abbrev pub fault_at : Cursor → Reason → Path → Fault
fault_at c reason p = record { bit = c.place; reason = reason; path = p }

-- What is asked goes on with this from the place after it, whatever is asked then; or it is refused at the place that is reached.
abbrev pub GoesOn : {A : Type 0} → (Path → (A → Prog) → Prog) → Cursor → Cursor → Result A Reason → Type 0
GoesOn {A} question old new (Ok x) = (p : Path) (K : A → Prog) → run (question p K) old ≡ run (K x) new
GoesOn {A} question old new (Err reason) = (p : Path) (K : A → Prog) → run (question p K) old ≡ Err (fault_at new reason p)

-- the same, unless memory runs out
abbrev pub GoesOnOrMemory : {A : Type 0} → (Path → (A → Prog) → Prog) → Cursor → Cursor → Result A Unanswered → Type 0
GoesOnOrMemory {A} question old new (Ok x) = (p : Path) (K : A → Prog) → run (question p K) old ≡ run (K x) new
GoesOnOrMemory {A} question old new (Err (Wrong reason)) =
    (p : Path) (K : A → Prog) → run (question p K) old ≡ Err (fault_at new reason p)
GoesOnOrMemory {A} question old new (Err Memory) = Unit {0}

-- Units were put behind others.
abbrev pub PutsOn : (Path → (List ℕ → Prog) → Prog) → Cursor → Cursor → List ℕ → List ℕ → Result (Unit {0}) Unanswered → Type 0
PutsOn question old new before after (Ok done) =
    (p : Path) (K : List ℕ → Prog) → run (question p (λ units. K (before ++ units))) old ≡ run (K after) new
PutsOn question old new before after (Err (Wrong reason)) =
    (p : Path) (K : List ℕ → Prog) → run (question p (λ units. K (before ++ units))) old ≡ Err (fault_at new reason p)
PutsOn question old new before after (Err Memory) = Unit {0}

-- how great answers are
abbrev pub IsLengthOf : Extent → ℕ → Type 0
IsLengthOf (extents.Whole least most outside) n = (least ≤ n) × (n ≤ most)
IsLengthOf (extents.Part before previous outside) n = n ≤ 65536

abbrev pub IsAnswerTo : Question → ℕ → Type 0
IsAnswerTo questions.Flag n = n ≤ 1
IsAnswerTo (questions.Constrained role width most) n = n ≤ most
IsAnswerTo (questions.Digits count most) n = n ≤ most
IsAnswerTo (questions.Signed count range) n = n < 2 ^ (8 * count)
IsAnswerTo (questions.Small role) n = n < 64
IsAnswerTo (questions.Extent bounds) n = IsLengthOf bounds n
IsAnswerTo (questions.AdditionBits count) n = n < 2 ^ count
IsAnswerTo questions.Character n = n < 256
IsAnswerTo (questions.IeCount least) n = n < 65536
IsAnswerTo (questions.IeId known left after) n = n < 65536
IsAnswerTo questions.Pad n = n ≡ 0
