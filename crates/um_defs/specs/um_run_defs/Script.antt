-- The run of a whole script: each event with the lines that it prints, up to the one in which the run ends.
use Rattle.std.specs.Prelude.{ℕ, nat_lt, if◌then◌else◌, fold, List, [], ◌∷◌, ◌++◌, Option, Some, None}
use Rattle.gnb_types.specs.declared.names.SnBits.{SnBits}
use Rattle.pdcp.specs.Numbers.{half}
use Rattle.um_defs.specs.declared.types.event.UmEvent.{UmEvent}
use Rattle.um_defs.specs.declared.types.line.UmLine.{UmLine}
use Rattle.um_defs.specs.declared.types.line.UmLine.TheVariants as lines
use Rattle.um_defs.specs.declared.types.stop.UmEnd.{UmEnd}
use Rattle.um_defs.specs.declared.types.stop.UmEnd.TheVariants as ends
use Rattle.um_defs.specs.um_run_defs.Run.{UmRun, UmOutcome, new_run, goes_on, spends, does_event, span}

-- An event, and the lines that it prints; and the run that goes on after it, or why it has ended.
pub data UmStep : Type 0 where
  passes : List UmLine → UmRun → UmStep
  stops : List UmLine → UmEnd → UmStep

-- it has ended where more than half a space of COUNTs is outstanding, or where a counter is spent
abbrev pub step_of : SnBits → UmOutcome → UmStep
step_of sn (goes_on printed after) =
    if nat_lt (half sn) (span after) then stops (printed ++ lines.Outstanding (span after) (half sn) ∷ []) (ends.Outstanding (span after) (half sn))
    else passes printed after
step_of sn (spends counter) = stops [] (ends.Spent counter)

unfoldable pub steps : SnBits → ℕ → UmEvent → UmRun → UmStep
steps sn ticks event s = step_of sn (does_event sn ticks event s)

-- what an event prints
abbrev pub printed_of : UmStep → List UmLine
printed_of (passes printed after) = printed
printed_of (stops printed end) = printed

pub record UmHappening : Type 0 where
  pub event : UmEvent
  pub printed : List UmLine

-- what happened, in order; the run now; and why it has ended, if it has
pub record UmScript : Type 0 where
  pub happened : List UmHappening
  pub now : UmRun
  pub ended : Option UmEnd

abbrev pub new_script : UmScript
new_script = record { happened = []; now = new_run; ended = None }

abbrev pub with_step : UmScript → UmEvent → UmStep → UmScript
with_step script event (passes printed after) =
    record script { happened = script.happened ++ record { event = event; printed = printed } ∷ []; now = after }
with_step script event (stops printed end) =
    record script { happened = script.happened ++ record { event = event; printed = printed } ∷ []; ended = Some end }

-- after its end nothing happens
abbrev pub with_event_at : SnBits → ℕ → UmScript → UmEvent → Option UmEnd → UmScript
with_event_at sn ticks script event None = with_step script event (steps sn ticks event script.now)
with_event_at sn ticks script event (Some end) = script

abbrev pub with_event : SnBits → ℕ → UmScript → UmEvent → UmScript
with_event sn ticks script event = with_event_at sn ticks script event script.ended

unfoldable pub script_of : SnBits → ℕ → List UmEvent → UmScript
script_of sn ticks events = fold (with_event sn ticks) new_script events
