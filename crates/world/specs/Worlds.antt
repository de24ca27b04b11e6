-- A run over units of any meaning, as code has it: its state, and why it stopped, if it did.
use Rattle.std.specs.Prelude.{◌≡◌, List, [], Option, Some, None, Result, Ok, Err}
use Rattle.scenario_text.specs.declared.event.Event.{Event}
use Rattle.scenario_text.specs.declared.line.OutLine.{OutLine}
use Rattle.run_defs.specs.States.{new_state}
use Rattle.run_defs.specs.Runs.{happens}
use Rattle.run_links.specs.Networks.{OctetState, OctetWorld, OctetOutcome}
use Rattle.run_links.specs.Told.{EndsAt}
use Rattle.world_steps.specs.declared.cause.Cause.{Cause}
use Rattle.world_steps.specs.declared.cause.Cause.TheVariants as causes
use Rattle.world_steps.specs.Gives.{stop_by, EventStops}
use Rattle.world.specs.declared.stop.Stop.{Stop}
use Rattle.world.specs.declared.stop.Stop.TheVariants as stops

pub record WorldAt : Type 0 where
  pub state : OctetState
  pub stop : Option Cause

-- while it goes on its units can be used
abbrev pub IsUsable : {U : Type 0} → (U → Type 0) → U → Option Cause → Type 0
IsUsable ready units None = ready units
IsUsable ready units (Some cause) = Unit {0}

-- nothing happened yet
abbrev pub IsNew : OctetState → Option Cause → Type 0
IsNew s stop = (s ≡ new_state) × (stop ≡ None)

-- the answer for this cause, with these lines
abbrev pub stopped : Cause → List OutLine → Stop
stopped (causes.Outstanding o) lines = stops.Outstanding o lines
stopped (causes.Spent counter) lines = stops.Spent counter lines
stopped causes.Memory lines = stops.Memory

-- An event of a run that goes on: its lines and the state then; or it stops, with the lines of the steps that were made. Out of memory
-- nothing is said.
abbrev pub AppliesTo : OctetOutcome → WorldAt → Result (List OutLine) Stop → Type 0
AppliesTo outcome new (Ok lines) = EndsAt [] outcome lines new.state × (new.stop ≡ None)
AppliesTo outcome new (Err stop) =
    (cause : Cause) × (lines : List OutLine) × (stop ≡ stopped cause lines) × (new.stop ≡ Some cause) × EventStops [] outcome lines (stop_by cause)

abbrev pub AppliesAt : OctetOutcome → Option Cause → WorldAt → WorldAt → Result (List OutLine) Stop → Type 0
AppliesAt outcome None old new result = AppliesTo outcome new result
AppliesAt outcome (Some cause) old new result = (result ≡ Err (stopped cause [])) × (new ≡ old)

abbrev pub Applies : OctetWorld → Event → WorldAt → WorldAt → Result (List OutLine) Stop → Type 0
Applies world event old new result = AppliesAt (happens world event old.state) old.stop old new result
