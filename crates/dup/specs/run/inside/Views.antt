-- Internal: what the code of a run keeps, and what its steps come to.
use Rattle.std.specs.Prelude.{◌≡◌, Bool, false, List, Option, None, Result, Ok, Err}
use Rattle.dup_defs.specs.declared.types.event.DupEvent.{DupEvent}
use Rattle.dup_defs.specs.declared.types.event.DupEvent.TheVariants as events
use Rattle.dup_defs.specs.declared.types.line.DupLine.{DupLine}
use Rattle.dup_defs.specs.declared.types.stop.DupEnd.{DupEnd}
use Rattle.dup_defs.specs.declared.types.stop.DupEnd.TheVariants as ends
use Rattle.dup_defs.specs.declared.types.stop.DupStop.{DupStop}
use Rattle.dup_defs.specs.declared.types.stop.DupStop.TheVariants as stops
use Rattle.dup_defs.specs.dup_run_defs.Run.{DupRun, DupOutcome, offers, where_up, carry, confirm, fails, mends, changes_mode, asked}
use Rattle.dup_defs.specs.dup_run_defs.Steps.{DupStep, passes, stops as ends_so}
use Rattle.dup_bearer.specs.Bearers.{BearerState}
use Rattle.dup.specs.run.Runs.{DupState}

abbrev pub dup_state : BearerState → Option DupEnd → Bool → DupState
dup_state b ended lacks = record { sn = b.sn; quota = b.quota; run = b.run; ended = ended; lacks_memory = lacks }

-- the transmitting entity is of use as long as the run goes on
abbrev pub IsDup : BearerState → Option DupEnd → Bool → Type 0
IsDup b ended lacks = ended ≡ None → lacks ≡ false → b.gone ≡ None

-- a step: lines, and the run that goes on; or how it ends
abbrev pub IsStep : DupStep → DupRun → Result (List DupLine) DupStop → Type 0
IsStep step after (Ok printed) = step ≡ passes printed after
IsStep step after (Err (stops.Outstanding far window printed)) = step ≡ ends_so printed (ends.Outstanding far window)
IsStep step after (Err (stops.CountsSpent printed)) = step ≡ ends_so printed ends.CountsSpent
IsStep step after (Err stops.Memory) = Unit {0}

-- what an event that isn't a drain comes to
abbrev pub outcome_by : BearerState → DupEvent → DupOutcome
outcome_by b (events.Offer packet) = offers b.sn b.quota packet b.run
outcome_by b (events.Carry leg) = where_up leg b.run (carry b.sn leg b.run)
outcome_by b (events.Confirm leg) = where_up leg b.run (confirm b.sn b.quota leg b.run)
outcome_by b (events.Fail leg) = fails b.sn leg b.run
outcome_by b (events.Mend leg) = mends b.sn leg b.run
outcome_by b (events.SetMode mode) = changes_mode b.sn mode b.run
outcome_by b events.Drain = asked b.run
outcome_by b events.Ask = asked b.run
