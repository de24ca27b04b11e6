-- Internal: the turns of a decoder, and what is read from a place on.
use Rattle.std.specs.Prelude.{◌≡◌, ℕ, ◌+◌, ◌<◌, List, [], Result, Ok, Err}
use Rattle.asn1_syntax.specs.declared.assignments.assignment.Syntax.{Syntax}
use Rattle.aper_defs.specs.declared.reason.Reason.{Reason}
use Rattle.aper_defs.specs.Trees.{Tree}
use Rattle.aper_defs.specs.Fields.{Path, closing}
use Rattle.aper_defs.specs.Questions.{ask, done}
use Rattle.aper_defs.specs.Asking.{asks_whole}
use Rattle.aper_defs.specs.Values as seen
use Rattle.aper_defs.specs.Reading.{Cursor, Fault, run, only}
use Rattle.aper_cursor.specs.declared.error.Unanswered.{Unanswered}
use Rattle.aper_cursor.specs.declared.error.Unanswered.TheVariants as unanswered
use Rattle.aper_cursor.specs.asking.Going.{fault_at}
use Rattle.aper_values.specs.declared.value.Value.{Value}
use Rattle.aper_values.specs.Views.{view}
use Rattle.aper_frames.specs.declared.frame.Frame.{Frame}
use Rattle.aper_frames.specs.declared.frame.Turn.{Turn}
use Rattle.aper_frames.specs.declared.frame.Turn.TheVariants as turns
use Rattle.aper_frames.specs.Frames.{path_of}
use Rattle.aper_frames.specs.Steps.{left}
use Rattle.aper_frames.specs.Weights.{turn_weight, frames_weight}
use Rattle.aper_frames.specs.Paths.{path_view}
use Rattle.aper_decode.specs.Heavy.{weighed}
use Rattle.aper_decode.specs.declared.decoder.Progress.{Progress}
use Rattle.aper_decode.specs.declared.decoder.Progress.TheVariants.{Next, Whole}
use Rattle.aper_decode.specs.declared.error.DecodeError.{DecodeError}
use Rattle.aper_decode.specs.declared.error.DecodeError.TheVariants as errors

-- ---- one turn
abbrev pub IsTurnInside : ℕ → Turn → Type 0
IsTurnInside n (turns.Read id) = id.number < n
IsTurnInside n (turns.Made v) = Unit {0}

-- What is left at first answers what is left then; or it is the value with what ends it, inside no other one; or it is refused at the
-- place that is reached, on the way to the value that is read.
abbrev pub TakesTurn : (ℕ → Tree) → Result (seen.Value × Cursor) Fault → Cursor → List Frame → Result Progress Unanswered → Type 0
TakesTurn of answer new fs (Ok (Next turn)) = answer ≡ run (left of turn fs) new
TakesTurn of answer new fs (Ok (Whole v)) = (answer ≡ run (ask [] closing (λ m. done (view v))) new) × (fs ≡ [])
TakesTurn of answer new fs (Err (unanswered.Wrong reason)) = answer ≡ Err (fault_at new reason (path_of fs))
TakesTurn of answer new fs (Err unanswered.Memory) = Unit {0}

-- Less is left, whatever types outside the module weigh.
abbrev pub Lessens : Syntax → Turn → List Frame → List Frame → Result Progress Unanswered → Type 0
Lessens m turn old new (Ok (Next next)) = (other : ℕ) → turn_weight (weighed m other) next + frames_weight (weighed m other) new
    < turn_weight (weighed m other) turn + frames_weight (weighed m other) old
Lessens m turn old new (Ok (Whole v)) = Unit {0}
Lessens m turn old new (Err e) = Unit {0}

-- ---- from a place on
-- a value, and nothing is inside another one any more; or what is wrong, on the way to the value that is read
abbrev pub ReadsValue : Tree → Cursor → Cursor → List Frame → Result Value Unanswered → Type 0
ReadsValue t old new fs (Ok v) = (run (asks_whole t) old ≡ run (ask [] closing (λ m. done (view v))) new) × (fs ≡ [])
ReadsValue t old new fs (Err (unanswered.Wrong reason)) = run (asks_whole t) old ≡ Err (fault_at new reason (path_of fs))
ReadsValue t old new fs (Err unanswered.Memory) = Unit {0}

-- the value and its end
abbrev pub ReadsWhole : Tree → Cursor → Cursor → List Frame → Result Value Unanswered → Type 0
ReadsWhole t old new fs (Ok v) = only (run (asks_whole t) old) ≡ Ok (view v)
ReadsWhole t old new fs (Err (unanswered.Wrong reason)) = only (run (asks_whole t) old) ≡ Err (fault_at new reason (path_of fs))
ReadsWhole t old new fs (Err unanswered.Memory) = Unit {0}

-- a refusal with this path, unless memory runs out
abbrev pub IsRefusal : ℕ → Reason → Path → DecodeError → Type 0
IsRefusal bit reason way (errors.Refused place why path) = (place ≡ bit) × (why ≡ reason) × (path_view path.items ≡ way)
IsRefusal bit reason way errors.Memory = Unit {0}
