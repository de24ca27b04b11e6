-- Internal: what reading, understanding and applying one line does.
use Rattle.std.specs.Prelude.{◌≡◌, ℕ, true, false, List, [], ◌∷◌, Option, Some, None, Result, Ok, Err}
use Rattle.gnb_base.specs.declared.lines.Line.{Line}
use Rattle.gnb_base.specs.Outside.{SourceAt, SinkAt}
use Rattle.gnb_base.specs.Reading.{Reading, NextMeets}
use Rattle.command_defs.specs.declared.input_defs.InputEnd.{InputEnd}
use Rattle.commands.specs.input_lines.ReadsLine.{StopsReading}
use Rattle.asn1_syntax.specs.declared.assignments.assignment.Syntax.{Syntax}
use Rattle.profile.specs.declared.version.Version.TheVariants.{One}
use Rattle.message_defs.specs.profile_defs.Profile.{profile_types}
use Rattle.message_defs.specs.profile_defs.Agreement.{differs}
use Rattle.commands.specs.declared.input_module.module.GivenModule.{GivenModule}
use Rattle.commands.specs.declared.input_module.module.GivenModule.TheVariants as given
use Rattle.commands.specs.declared.input_module.stop.ModuleStop.{ModuleStop}
use Rattle.commands.specs.input_module.Taking.{StopsTaking, HasModule}
use Rattle.scenario_text.specs.declared.event.Event.{Event}
use Rattle.scenario_text.specs.declared.line.OutLine.{OutLine}
use Rattle.scenario_text.specs.declared.line.OutLine.TheVariants as lines
use Rattle.scenario_text.specs.Grammar.{is_skipped, event_of}
use Rattle.scenario_text.specs.Texts.{InRange}
use Rattle.scenario_text.specs.Print.{print}
use Rattle.command_defs.specs.declared.CommonEnd.TheVariants.{WriteFault, Memory}
use Rattle.command_defs.specs.Ends.{end_of_input}
use Rattle.commands.specs.command_output.Writes.{WritesAll, WritesFront}
use Rattle.command_run.specs.declared.end.RunEnd.{RunEnd}
use Rattle.command_run.specs.declared.end.RunEnd.TheVariants.{Differs, Script, Common}
use Rattle.run_defs.specs.States.{RunStep, Stop, goes, stops}
use Rattle.run_defs.specs.Runs.{happens}
use Rattle.run_defs.specs.UnitRuns.{Records, unit_world}
use Rattle.run_links.specs.declared.network.Network.{Network}
use Rattle.run_links.specs.Networks.{OctetOutcome, OctetCore, state_of}
use Rattle.run_links.specs.Told.{EndsAt}
use Rattle.world_steps.specs.declared.cause.Cause.{Cause}
use Rattle.world_steps.specs.Gives.{printed_steps, stop_by, EventStops}
use Rattle.world.specs.Worlds.{WorldAt}
use Rattle.command_run.specs.declared.script.Happening.{Happening}
use Rattle.command_run.specs.Ends.{end_at}
use Rattle.command_run.specs.Run.{Setting, IsProfile}
use Rattle.command_run.specs.inside.Stops.{end_of_stop}
use Rattle.command_run.specs.declared.script.Meaning.{Meaning}
use Rattle.command_run.specs.declared.script.Meaning.TheVariants as meanings

-- ---- the parts of a run at one moment

abbrev pub world_at : Records → OctetCore → Network → Option Cause → WorldAt
world_at units core links stop = record { state = state_of units core links; stop = stop }

pub record WorkAt : Type 0 where
  pub world : WorldAt
  pub sink : SinkAt

abbrev pub work_at : WorldAt → SinkAt → WorkAt
work_at world sink = record { world = world; sink = sink }

pub record RunAt : Type 0 where
  pub reading : Reading
  pub source : SourceAt
  pub work : WorkAt

abbrev pub run_at : Reading → SourceAt → WorldAt → SinkAt → RunAt
run_at reading source world sink = record { reading = reading; source = source; work = work_at world sink }

-- ---- the profile

-- the lines that the reader handed out give the profile
pub record HasProfile (before after : SourceAt) (reading : Reading) : Type 0 where
  pub found : GivenModule
  pub has : HasModule One before after reading found
  pub profile : IsProfile found

-- why they don't: no module is there, or it isn't the profile's, or memory ran out
pub data ProfileStops (before after : SourceAt) (reading : Reading) (end : RunEnd) : Type 0 where
  Untaken : (stop : ModuleStop) → StopsTaking One before after stop → end ≡ end_of_stop stop → ProfileStops before after reading end
  Unlike : (m : Syntax) (name : List ℕ) → HasModule One before after reading (given.Text m) → differs (profile_types 1) m ≡ Some name
      → end ≡ Differs name
      → ProfileStops before after reading end
  Uncompared : (m : Syntax) → HasModule One before after reading (given.Text m) → end ≡ Common Memory → ProfileStops before after reading end

abbrev pub ProfileMeets : SourceAt → SourceAt → Reading → Result (Unit {0}) RunEnd → Type 0
ProfileMeets before after reading (Ok done) = HasProfile before after reading
ProfileMeets before after reading (Err end) = ProfileStops before after reading end

-- ---- a line after the module

-- it is an event
pub record IsEvent (text : List ℕ) (event : Event) : Type 0 where
  pub one : is_skipped text ≡ false
  pub read : event_of text ≡ Ok event
  pub range : InRange event

-- it is refused, or memory ran out
pub data LineStops (line : Line) (end : RunEnd) : Type 0 where
  Refused : (reason : _) → is_skipped line.text ≡ false → event_of line.text ≡ Err reason → end ≡ Script line.number reason
      → LineStops line end
  NoMemory : end ≡ Common Memory → LineStops line end

abbrev pub Means : Line → Result Meaning RunEnd → Type 0
Means line (Ok meanings.Skipped) = is_skipped line.text ≡ true
Means line (Ok (meanings.Event event)) = IsEvent line.text event
Means line (Err end) = LineStops line end

-- ---- an event is applied

abbrev pub outcome_at : Setting → WorldAt → Event → OctetOutcome
outcome_at setting world event = happens (unit_world setting.codec setting.answer) event world.state

-- the lines that an event prints, whether the run goes on or stops
abbrev pub told_by : OctetOutcome → List OutLine
told_by (goes steps after) = printed_steps steps
told_by (stops steps why) = printed_steps steps

-- what is written of an event
abbrev pub text_at : Setting → WorldAt → Event → List ℕ
text_at setting world event = print (lines.Happens event ∷ told_by (outcome_at setting world event))

-- The run goes on, or it stops so.
abbrev pub Comes : OctetOutcome → WorldAt → List OutLine → Option Cause → Type 0
Comes outcome new printed None = EndsAt [] outcome printed new.state × (new.stop ≡ None)
Comes outcome new printed (Some cause) = (why : Stop) × (stop_by cause ≡ Some why) × EventStops [] outcome printed (Some why)

abbrev pub IsHappening : Setting → Event → WorldAt → WorldAt → Happening → Type 0
IsHappening setting event old new h = Comes (outcome_at setting old event) new h.lines h.cause

pub record Applies (setting : Setting) (old new : WorkAt) (event : Event) : Type 0 where
  pub steps : List (RunStep (List ℕ))
  pub goes_on : outcome_at setting old.world event ≡ goes steps new.world.state
  pub going : new.world.stop ≡ None
  pub writes : WritesAll old.sink new.sink (text_at setting old.world event)

-- The run stops in the event; or a write failed after a front of its lines, or memory ran out before the first.
pub data ApplyStops (setting : Setting) (old new : WorkAt) (line : ℕ × Event) (end : RunEnd) : Type 0 where
  Ended : (steps : List (RunStep (List ℕ))) (cause : Cause) (why : Stop) → stop_by cause ≡ Some why
      → outcome_at setting old.world line.1 ≡ stops steps why → end ≡ end_at line.0 cause
      → WritesAll old.sink new.sink (text_at setting old.world line.1) → ApplyStops setting old new line end
  Faulty : end ≡ Common WriteFault → WritesFront old.sink new.sink (text_at setting old.world line.1) → ApplyStops setting old new line end
  NoRoom : end ≡ Common Memory → new.sink ≡ old.sink → ApplyStops setting old new line end

abbrev pub ApplyMeets : Setting → WorkAt → WorkAt → ℕ × Event → Result (Unit {0}) RunEnd → Type 0
ApplyMeets setting old new line (Ok done) = Applies setting old new line.1
ApplyMeets setting old new line (Err end) = ApplyStops setting old new line end

-- ---- one turn

-- the line was skipped, or it was an event, which was applied
pub data LineApplies (setting : Setting) (old new : WorkAt) (text : List ℕ) (events : ℕ) : Type 0 where
  Skips : events ≡ 0 → is_skipped text ≡ true → new ≡ old → LineApplies setting old new text events
  Happens : events ≡ 1 → (event : Event) → IsEvent text event → Applies setting old new event → LineApplies setting old new text events

pub record TakesLine (setting : Setting) (old new : RunAt) (events : ℕ) : Type 0 where
  pub line : Line
  pub meets : NextMeets old.reading new.reading old.source new.source (Ok (Some line))
  pub applies : LineApplies setting old.work new.work line.text events

pub record TakesEnd (old new : RunAt) : Type 0 where
  pub meets : NextMeets old.reading new.reading old.source new.source (Ok None)
  pub same : new.work ≡ old.work

pub data TurnStops (setting : Setting) (old new : RunAt) (end : RunEnd) : Type 0 where
  Unread : (why : InputEnd) → StopsReading old.reading new.reading old.source new.source why → end ≡ Common (end_of_input why)
      → new.work ≡ old.work → TurnStops setting old new end
  Unapplied : (line : Line) → NextMeets old.reading new.reading old.source new.source (Ok (Some line)) → LineStops line end
      → new.work ≡ old.work → TurnStops setting old new end
  Halted : (line : Line) (event : Event) → NextMeets old.reading new.reading old.source new.source (Ok (Some line))
      → IsEvent line.text event → ApplyStops setting old.work new.work (line.number, event) end → TurnStops setting old new end

abbrev pub TurnMeets : Setting → RunAt → RunAt → Result (Option ℕ) RunEnd → Type 0
TurnMeets setting old new (Ok None) = TakesEnd old new
TurnMeets setting old new (Ok (Some events)) = TakesLine setting old new events
TurnMeets setting old new (Err end) = TurnStops setting old new end
