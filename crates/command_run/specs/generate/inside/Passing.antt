-- Internal: how far a run comes with some events, and in which line it stops.
use Rattle.std.specs.Prelude.{◌≡◌, ℕ, ◌+◌, List, [], ◌∷◌, length, Option, Some, None, Result, Ok, Err}
use Rattle.scenario_text.specs.declared.event.Event.{Event}
use Rattle.run_defs.specs.States.{Stop, goes, stops}
use Rattle.run_defs.specs.Runs.{happens}
use Rattle.run_links.specs.Networks.{OctetState, OctetWorld, OctetOutcome}
use Rattle.world_steps.specs.declared.cause.Cause.{Cause}
use Rattle.world_steps.specs.declared.cause.Cause.TheVariants as causes
use Rattle.world_steps.specs.Gives.{stop_by}
use Rattle.world.specs.declared.stop.Stop.{Stop as WorldStop}
use Rattle.world.specs.declared.stop.Stop.TheVariants as world_stops
use Rattle.world.specs.Worlds.{WorldAt}
use Rattle.command_run.specs.declared.generate.end.GenerateEnd.{GenerateEnd}
use Rattle.command_run.specs.declared.generate.end.GenerateEnd.TheVariants.{Done, Outstanding, Spent}

-- ---- why a run stopped, and how the word ends then

abbrev pub cause_in : WorldStop → Cause
cause_in (world_stops.Outstanding o lines) = causes.Outstanding o
cause_in (world_stops.Spent counter lines) = causes.Spent counter
cause_in world_stops.Memory = causes.Memory

abbrev pub IsEndBy : Result (Unit {0}) Cause → ℕ → ℕ → GenerateEnd → Type 0
IsEndBy (Ok done) packets place end = end ≡ Done packets
IsEndBy (Err (causes.Outstanding o)) packets place end = end ≡ Outstanding place o
IsEndBy (Err (causes.Spent counter)) packets place end = end ≡ Spent place counter
IsEndBy (Err causes.Memory) packets place end = ⊥

-- ---- a run, from the line of the event that was applied last

-- all events were applied, and the run goes on; or it stops in the event of this line
pub data Passage : Type 0 where
  passed : (line : ℕ) (now : OctetState) → Passage
  halted : (line : ℕ) (why : Stop) → Passage

abbrev pub passed_on : ℕ → (OctetState → Passage) → OctetOutcome → Passage
passed_on line more (goes steps after) = more after
passed_on line more (stops steps why) = halted line why

unfoldable pub pass : OctetWorld → List Event → ℕ → OctetState → Passage
pass world [] line s = passed line s
pass world (event ∷ events) line s = passed_on (line + 1) (pass world events (line + 1)) (happens world event s)

-- ---- the run as code has it

pub record RunAt : Type 0 where
  pub world : WorldAt
  pub line : ℕ

abbrev pub run_at : WorldAt → ℕ → RunAt
run_at world line = record { world = world; line = line }

-- it stopped for this cause; out of memory nothing is said
abbrev pub HaltsBy : Passage → RunAt → Option Stop → Type 0
HaltsBy passage new None = Unit {0}
HaltsBy passage new (Some why) = passage ≡ halted new.line why

abbrev pub FollowsTo : Passage → ℕ → RunAt → Result (Unit {0}) Cause → Type 0
FollowsTo passage line new (Ok done) =
    (passage ≡ passed new.line new.world.state) × (new.world.stop ≡ None) × (new.line ≡ line)
FollowsTo passage line new (Err cause) = HaltsBy passage new (stop_by cause)

-- these events were applied, or the run stopped in one of them
abbrev pub Follows : OctetWorld → List Event → RunAt → RunAt → Result (Unit {0}) Cause → Type 0
Follows world events old new result =
    FollowsTo (pass world events old.line old.world.state) (old.line + length events) new result
