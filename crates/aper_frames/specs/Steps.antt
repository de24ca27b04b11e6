-- A step of a decoder leaves what is asked as it was.
use Rattle.std.specs.Prelude.{◌≡◌, ℕ, List, Result, Ok, Err}
use Rattle.aper_defs.specs.Trees.{Tree}
use Rattle.aper_defs.specs.Questions.{Prog}
use Rattle.aper_defs.specs.Asking.{asks}
use Rattle.aper_defs.specs.Reading.{Cursor, run}
use Rattle.aper_cursor.specs.declared.error.Unanswered.{Unanswered}
use Rattle.aper_cursor.specs.declared.error.Unanswered.TheVariants.{Wrong, Memory}
use Rattle.aper_cursor.specs.asking.Going.{fault_at}
use Rattle.aper_values.specs.Views.{view}
use Rattle.aper_frames.specs.declared.frame.Frame.{Frame}
use Rattle.aper_frames.specs.declared.frame.Turn.{Turn}
use Rattle.aper_frames.specs.declared.frame.Turn.TheVariants as turns
use Rattle.aper_frames.specs.Frames.{path_of, next_of}

-- what is still asked
abbrev pub left : (ℕ → Tree) → Turn → List Frame → Prog
left of (turns.Read id) fs = asks (path_of fs) (of id.number) (next_of of fs)
left of (turns.Made v) fs = next_of of fs (view v)

-- What is asked runs at the old place as what is left at the new one; or it is refused there, on the way to the value that is read.
abbrev pub Steps : ((ℕ → Tree) → Prog) → Cursor → Cursor → List Frame → Result Turn Unanswered → Type 0
Steps all old new fs (Ok turn) = (of : ℕ → Tree) → run (all of) old ≡ run (left of turn fs) new
Steps all old new fs (Err (Wrong reason)) = (of : ℕ → Tree) → run (all of) old ≡ Err (fault_at new reason (path_of fs))
Steps all old new fs (Err Memory) = Unit {0}
