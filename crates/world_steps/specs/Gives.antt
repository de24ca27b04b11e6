-- Internal: what the code of a part of an event gives, against what the run makes of that part.
use Rattle.std.specs.Prelude.{◌≡◌, ℕ, List, ◌++◌, Option, Some, None, Result, Ok, Err}
use Rattle.std.specs.List.{flat_map}
use Rattle.gnb_types.specs.declared.names.NodeId.{NodeId}
use Rattle.scenario_text.specs.declared.line.OutLine.{OutLine}
use Rattle.run_defs.specs.States.{RunStep, Stop, outstanding, spent_counter, goes, stops, ◌next◌}
use Rattle.run_defs.specs.Steps.{reconnect_node, put_out_all, check_spans}
use Rattle.run_defs.specs.UnitRuns.{OctetPut}
use Rattle.unit_messages.specs.declared.steps.StepError.{StepError}
use Rattle.unit_messages.specs.declared.steps.StepError.TheVariants as errors
use Rattle.run_links.specs.Networks.{Octets, OctetState, OctetWorld, OctetWithin, OctetOutcome}
use Rattle.run_links.specs.Told.{printed, GoesTo, EndsAt}
use Rattle.world_steps.specs.declared.cause.Cause.{Cause}
use Rattle.world_steps.specs.declared.cause.Cause.TheVariants as causes

abbrev pub printed_steps : List (RunStep Octets) → List OutLine
printed_steps steps = printed (flat_map (λ step. step.lines) steps)

-- why the run stops; out of memory the run says nothing
abbrev pub stop_by : Cause → Option Stop
stop_by (causes.Outstanding o) = Some (outstanding o.key o.span o.window)
stop_by (causes.Spent counter) = Some (spent_counter counter)
stop_by causes.Memory = None

abbrev pub cause_of : StepError → Cause
cause_of (errors.Spent counter) = causes.Spent counter
cause_of errors.Memory = causes.Memory

-- ---- a part of a step: it goes on with this state, or stops, and prints what `lines` have more than `before`

abbrev pub Stops : List OutLine → OctetWithin → List OutLine → Option Stop → Type 0
Stops before within lines None = Unit {0}
Stops before (goes told after) lines (Some why) = ⊥
Stops before (stops told cause) lines (Some why) = (lines ≡ before ++ printed told) × (cause ≡ why)

abbrev pub Gives : List OutLine → OctetWithin → List OutLine → OctetState → Result (Unit {0}) Cause → Type 0
Gives before within lines s (Ok done) = GoesTo before within lines s
Gives before within lines s (Err cause) = Stops before within lines (stop_by cause)

-- ---- the same of an event, which may make several steps

abbrev pub EventStops : List OutLine → OctetOutcome → List OutLine → Option Stop → Type 0
EventStops before outcome lines None = Unit {0}
EventStops before (goes steps after) lines (Some why) = ⊥
EventStops before (stops steps cause) lines (Some why) = (lines ≡ before ++ printed_steps steps) × (cause ≡ why)

abbrev pub EventGives : List OutLine → OctetOutcome → List OutLine → OctetState → Result (Unit {0}) Cause → Type 0
EventGives before outcome lines s (Ok done) = EndsAt before outcome lines s
EventGives before outcome lines s (Err cause) = EventStops before outcome lines (stop_by cause)

-- ---- the end of a step, once it has taken what it takes: the radios follow the terminal, the outputs are put, and spans are looked at

abbrev pub finished : OctetWorld → NodeId → Option ℕ → List OctetPut → OctetState → OctetWithin
finished world node taken puts s = reconnect_node world node s next put_out_all world node taken puts next check_spans
