-- The run of a bearer with duplication as contracts of code see it.
use Rattle.std.specs.Prelude.{◌≡◌, ◌⊎◌, ℕ, ◌≤◌, Bool, true, false, List, [], Option, Some, None, Result, Ok, Err, length}
use Rattle.gnb_types.specs.declared.names.SnBits.{SnBits}
use Rattle.dup_defs.specs.declared.types.event.DupEvent.{DupEvent}
use Rattle.dup_defs.specs.declared.types.event.DupEvent.TheVariants as events
use Rattle.dup_defs.specs.declared.types.line.DupLine.{DupLine}
use Rattle.dup_defs.specs.declared.types.stop.DupEnd.{DupEnd}
use Rattle.dup_defs.specs.declared.types.stop.DupEnd.TheVariants as ends
use Rattle.dup_defs.specs.declared.types.stop.DupStop.{DupStop}
use Rattle.dup_defs.specs.declared.types.stop.DupStop.TheVariants as stops
use Rattle.dup_defs.specs.dup_run_defs.Run.{DupRun, new_run}
use Rattle.dup_defs.specs.dup_run_defs.Steps.{DupStep, passes, stops as ends_so}

pub record DupState : Type 0 where
  pub sn : SnBits
  pub quota : ℕ
  pub run : DupRun
  -- why it has ended, if it has
  pub ended : Option DupEnd
  -- memory ran out in an event
  pub lacks_memory : Bool

abbrev pub new_dup : SnBits → ℕ → DupState
new_dup sn quota = record { sn = sn; quota = quota; run = new_run; ended = None; lacks_memory = false }

-- an offered packet isn't empty
abbrev pub IsEvent : DupEvent → Type 0
IsEvent (events.Offer packet) = 1 ≤ length packet
IsEvent event = Unit {0}

-- ---- an event

abbrev pub stop_of : DupEnd → List DupLine → DupStop
stop_of (ends.Outstanding far window) printed = stops.Outstanding far window printed
stop_of ends.CountsSpent printed = stops.CountsSpent printed

-- the run ends in the event, or had ended and answers that again, without lines
abbrev pub IsEnding : DupStep → DupState → DupState → DupEnd → List DupLine → Type 0
IsEnding step old new end printed =
    ((old.ended ≡ Some end) × (printed ≡ []) × (new ≡ old))
    ⊎ ((old.ended ≡ None) × (new.ended ≡ Some end) × (step ≡ ends_so printed end))

-- memory ran out in no event
abbrev pub HasMemory : DupState → DupState → Type 0
HasMemory old new = (old.lacks_memory ≡ false) × (new.lacks_memory ≡ false)

-- what the code gave of a step: lines and the run that goes on; or how the run ends, or had ended. Out of memory it answers that from then
-- on, and stays as it is.
abbrev pub IsApplied : DupStep → DupState → DupState → Result (List DupLine) DupStop → Type 0
IsApplied step old new (Ok printed) =
    (old.ended ≡ None) × (old.lacks_memory ≡ false) × (step ≡ passes printed new.run) × (new ≡ record old { run = new.run })
IsApplied step old new (Err (stops.Outstanding far window printed)) =
    HasMemory old new × IsEnding step old new (ends.Outstanding far window) printed
IsApplied step old new (Err (stops.CountsSpent printed)) = HasMemory old new × IsEnding step old new ends.CountsSpent printed
IsApplied step old new (Err stops.Memory) = (new.lacks_memory ≡ true) × (old.lacks_memory ≡ true → new ≡ old)
