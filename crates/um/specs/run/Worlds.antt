-- The run of an unacknowledged bearer as contracts of code see it.
use Rattle.std.specs.Prelude.{◌≡◌, ◌⊎◌, ℕ, ◌<◌, ◌≤◌, Bool, true, false, List, [], ◌∷◌, ◌++◌, Option, Some, None, Result, Ok, Err, length}
use Rattle.gnb_types.specs.declared.names.SnBits.{SnBits}
use Rattle.pdcp.specs.declared.pdu.TheConstants.{PACKET_LIMIT}
use Rattle.um_defs.specs.declared.types.event.UmEvent.{UmEvent}
use Rattle.um_defs.specs.declared.types.event.UmEvent.TheVariants as events
use Rattle.um_defs.specs.declared.types.line.UmLine.{UmLine}
use Rattle.um_defs.specs.declared.types.line.UmLine.TheVariants as lines
use Rattle.um_defs.specs.declared.types.stop.UmEnd.{UmEnd}
use Rattle.um_defs.specs.declared.types.stop.UmEnd.TheVariants as ends
use Rattle.um_defs.specs.declared.types.stop.UmStop.{UmStop}
use Rattle.um_defs.specs.declared.types.stop.UmStop.TheVariants as stops
use Rattle.pdcp.specs.Numbers.{half}
use Rattle.um_defs.specs.declared.types.stop.UmFault.{UmFault}
use Rattle.um_defs.specs.declared.types.stop.UmFault.TheVariants as faults
use Rattle.um_defs.specs.declared.types.error.UmError.{UmError}
use Rattle.um_defs.specs.declared.types.error.UmError.TheVariants as errors
use Rattle.um_defs.specs.declared.types.out.Out.{Out}
use Rattle.um_defs.specs.Receivers.{UmDelivery, entries}
use Rattle.um_defs.specs.um_run_defs.Run.{UmRun, UmOutcome, new_run, goes_on, spends, landed, of_message, taken, does_event, span}

pub record UmWorldState : Type 0 where
  pub sn : SnBits
  pub ticks : ℕ
  pub run : UmRun
  -- why it has ended, if it has
  pub ended : Option UmEnd
  -- memory ran out in an event
  pub lacks_memory : Bool

abbrev pub new_world : SnBits → ℕ → UmWorldState
new_world sn ticks = record { sn = sn; ticks = ticks; run = new_run; ended = None; lacks_memory = false }

-- an offered packet isn't empty, and messages have numbers from 1 on
abbrev pub IsEvent : UmEvent → Type 0
IsEvent (events.Offer packet) = 1 ≤ length packet
IsEvent (events.Give number) = 1 ≤ number
IsEvent (events.Again number) = 1 ≤ number
IsEvent (events.Lose number) = 1 ≤ number
IsEvent event = Unit {0}

-- The code gave this outcome: the lines, and the run after them; or the counter is spent. Out of memory nothing is said.
abbrev pub IsOutcome : UmOutcome → UmRun → Result (List UmLine) UmFault → Type 0
IsOutcome outcome after (Ok lines) = outcome ≡ goes_on lines after
IsOutcome outcome after (Err (faults.Spent counter)) = outcome ≡ spends counter
IsOutcome outcome after (Err faults.Memory) = Unit {0}

-- what the entity says of a packet: what it hands up, and the run with the entity after it; or why it takes none, and the run as it was
abbrev pub IsReception : Result (UmDelivery (List ℕ)) UmError → UmRun → UmRun → Result (List Out) UmError → Type 0
IsReception took before after (Ok outs) =
    (took ≡ Ok (record { packets = entries outs; after = after.entity })) × (after ≡ record before { entity = after.entity })
IsReception took before after (Err errors.Memory) = Unit {0}
IsReception took before after (Err error) = (took ≡ Err error) × (after ≡ before)

-- a message that stays on the link, or leaves it
abbrev pub left_on : Bool → ℕ → UmRun → UmRun
left_on true number s = s
left_on false number s = landed number s

abbrev pub given : SnBits → ℕ → Bool → ℕ → UmRun → UmOutcome
given sn ticks stays number s = of_message number s (taken sn ticks number s (left_on stays number s))

-- ---- an event

abbrev pub stop_of : UmEnd → List UmLine → UmStop
stop_of (ends.Outstanding far window) printed = stops.Outstanding far window printed
stop_of (ends.Spent counter) printed = stops.Spent counter printed

-- the run ends in it: more than half a space of COUNTs is outstanding afterwards, or a counter is spent
abbrev pub EndsIn : SnBits → UmOutcome → UmRun → UmEnd → List UmLine → Type 0
EndsIn sn outcome after (ends.Outstanding far window) printed =
    (front : List UmLine) × (outcome ≡ goes_on front after) × (printed ≡ front ++ lines.Outstanding far window ∷ [])
    × (far ≡ span after) × (window ≡ half sn) × (half sn < span after)
EndsIn sn outcome after (ends.Spent counter) printed = (outcome ≡ spends counter) × (printed ≡ [])

-- memory ran out in no event
abbrev pub HasMemory : UmWorldState → UmWorldState → Type 0
HasMemory old new = (old.lacks_memory ≡ false) × (new.lacks_memory ≡ false)

abbrev pub IsEnding : UmEvent → UmWorldState → UmWorldState → UmEnd → List UmLine → Type 0
IsEnding event old new end printed =
    ((old.ended ≡ Some end) × (printed ≡ []) × (new ≡ old))
    ⊎ ((old.ended ≡ None) × (new.ended ≡ Some end) × EndsIn old.sn (does_event old.sn old.ticks event old.run) new.run end printed)

-- what the code gave: lines and the run that goes on; or how the run ends, or has ended. Out of memory it answers that from then on, and
-- stays as it is.
abbrev pub IsApplied : UmEvent → UmWorldState → UmWorldState → Result (List UmLine) UmStop → Type 0
IsApplied event old new (Ok printed) =
    (old.ended ≡ None) × (does_event old.sn old.ticks event old.run ≡ goes_on printed new.run) × (span new.run ≤ half old.sn)
    × (new ≡ record old { run = new.run }) × (old.lacks_memory ≡ false)
IsApplied event old new (Err (stops.Outstanding far window printed)) =
    IsEnding event old new (ends.Outstanding far window) printed × HasMemory old new
IsApplied event old new (Err (stops.Spent counter printed)) = IsEnding event old new (ends.Spent counter) printed × HasMemory old new
IsApplied event old new (Err stops.Memory) = (new.lacks_memory ≡ true) × (old.lacks_memory ≡ true → new ≡ old)
