-- Octets of what isn't known, asked at a place.
use Rattle.std.specs.Prelude.{◌≡◌, Result, Ok, Err}
use Rattle.aper_defs.specs.Values as seen
use Rattle.aper_defs.specs.Fields.{Path}
use Rattle.aper_defs.specs.Questions.{Prog, ask_raw}
use Rattle.aper_defs.specs.Reading.{Cursor, run}
use Rattle.aper_cursor.specs.declared.error.Unanswered.{Unanswered}
use Rattle.aper_cursor.specs.declared.error.Unanswered.TheVariants as unanswered
use Rattle.aper_cursor.specs.asking.Going.{fault_at}
use Rattle.aper_values.specs.declared.value.Value.{Value}
use Rattle.aper_values.specs.Views.{view}
use Rattle.aper_frames.specs.declared.heads.raw.RawError.{RawError}
use Rattle.aper_frames.specs.declared.heads.raw.RawError.TheVariants as errors

-- What is asked goes on with the octets from the place after them; or the length is wrong, on the way to the value around them, or the
-- octets are, on the way to the value that they are.
abbrev pub GoesOnRaw : Cursor → Cursor → Result Value RawError → Type 0
GoesOnRaw old new (Ok v) = (p inside : Path) (K : seen.Value → Prog) → run (ask_raw p inside K) old ≡ run (K (view v)) new
GoesOnRaw old new (Err (errors.Length reason)) =
    (p inside : Path) (K : seen.Value → Prog) → run (ask_raw p inside K) old ≡ Err (fault_at new reason p)
GoesOnRaw old new (Err (errors.Octets reason)) =
    (p inside : Path) (K : seen.Value → Prog) → run (ask_raw p inside K) old ≡ Err (fault_at new reason inside)
GoesOnRaw old new (Err errors.Memory) = Unit {0}

-- what is wrong after the length
abbrev pub octets_error : Unanswered → RawError
octets_error (unanswered.Wrong reason) = errors.Octets reason
octets_error unanswered.Memory = errors.Memory

-- what is wrong, wherever
abbrev pub error_of : RawError → Unanswered
error_of (errors.Length reason) = unanswered.Wrong reason
error_of (errors.Octets reason) = unanswered.Wrong reason
error_of errors.Memory = unanswered.Memory
