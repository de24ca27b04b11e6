use Rattle.std.proofs.Common.{◌≡◌, ◌≤◌, take}
use Rattle.std.specs.Prelude.{count_by}
use Rattle.transcript_check.specs.inside.Judge.{shows_event}
use Rattle.transcript_check.proofs.forms.events_in.Given as goal

abbrev pub invariant-loop-line : goal.invariant-loop-line
invariant-loop-line l = record { counts : l.events ≡ count_by shows_event (take l.line-index l.lines); within : l.events ≤ l.line-index }
