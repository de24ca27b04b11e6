-- A value that is read at once.
use Rattle.std.specs.Prelude.{◌≡◌, Result, Ok, Err}
use Rattle.aper_defs.specs.Values as seen
use Rattle.aper_defs.specs.Fields.{Path}
use Rattle.aper_defs.specs.Questions.{Prog}
use Rattle.aper_defs.specs.Reading.{Cursor, run}
use Rattle.aper_cursor.specs.declared.error.Unanswered.{Unanswered}
use Rattle.aper_cursor.specs.declared.error.Unanswered.TheVariants.{Wrong, Memory}
use Rattle.aper_cursor.specs.asking.Going.{fault_at}
use Rattle.aper_values.specs.declared.value.Value.{Value}
use Rattle.aper_values.specs.Views.{view}

-- What is asked goes on with the value from the place after it, or is refused at the place that is reached.
abbrev pub Reads : (Path → (seen.Value → Prog) → Prog) → Cursor → Cursor → Result Value Unanswered → Type 0
Reads question old new (Ok v) = (p : Path) (K : seen.Value → Prog) → run (question p K) old ≡ run (K (view v)) new
Reads question old new (Err (Wrong reason)) = (p : Path) (K : seen.Value → Prog) → run (question p K) old ≡ Err (fault_at new reason p)
Reads question old new (Err Memory) = Unit {0}
