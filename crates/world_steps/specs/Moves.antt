-- Internal: what the code of a step gives that a unit makes, holds or refuses, against what the run makes of it.
use Rattle.std.specs.Prelude.{◌≡◌, List, [], ◌∷◌, Option, Some, None, Result, Ok, Err}
use Rattle.scenario_text.specs.declared.line.Link.{Link}
use Rattle.scenario_text.specs.declared.line.OutLine.{OutLine}
use Rattle.scenario_text.specs.declared.line.OutLine.TheVariants as outs
use Rattle.run_defs.specs.States.{Stop}
use Rattle.run_defs.specs.Steps.{Done, is_done, is_held, is_refused}
use Rattle.run_links.specs.Networks.{Octets, OctetState}
use Rattle.world_steps.specs.declared.cause.Cause.{Cause}
use Rattle.world_steps.specs.declared.asked.Moved.{Moved}
use Rattle.world_steps.specs.declared.asked.Moved.TheVariants as moves
use Rattle.run_links.specs.Told.{EndsAt}
use Rattle.world_steps.specs.Gives.{stop_by, EventStops}

abbrev pub OctetDone : Type 0
OctetDone = Done Octets Octets Octets Octets

-- where a run stands, with the lines that were printed
pub record RunPoint : Type 0 where
  pub state : OctetState
  pub lines : List OutLine

abbrev pub Moves : OctetDone → RunPoint → RunPoint → Moved → Type 0
Moves (is_done outcome) old new moves.Done = EndsAt old.lines outcome new.lines new.state
Moves (is_held reason) old new (moves.Holds r) = (r ≡ reason) × (new ≡ old)
Moves (is_refused reason) old new (moves.Refuses r) = (r ≡ reason) × (new ≡ old)
Moves done old new moved = ⊥

abbrev pub DoneStops : OctetDone → RunPoint → RunPoint → Option Stop → Type 0
DoneStops done old new None = Unit {0}
DoneStops (is_done outcome) old new (Some why) = EventStops old.lines outcome new.lines (Some why)
DoneStops done old new (Some why) = ⊥

abbrev pub StepOutcome : OctetDone → RunPoint → RunPoint → Result Moved Cause → Type 0
StepOutcome done old new (Ok moved) = Moves done old new moved
StepOutcome done old new (Err cause) = DoneStops done old new (stop_by cause)

abbrev pub moved_by : Result (Unit {0}) Cause → Result Moved Cause
moved_by (Ok done) = Ok moves.Done
moved_by (Err cause) = Err cause

-- what is printed of a step that wasn't made: that it is held or refused, or only the latter
abbrev pub held_lines : Link → Moved → List OutLine
held_lines link moves.Done = []
held_lines link (moves.Holds reason) = outs.Held link reason ∷ []
held_lines link (moves.Refuses reason) = outs.Refused reason ∷ []

abbrev pub refused_lines : Moved → List OutLine
refused_lines (moves.Refuses reason) = outs.Refused reason ∷ []
refused_lines moved = []
