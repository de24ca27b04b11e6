-- One part of an event after another: the lines of both, and the state after the second; or where the first or the second stops. For
-- events of several steps (`pump`, `start`, `tick`, a round of `settle`): `then_event` where the first part goes on, `first_stops` where it
-- stops, and `nothing_more` where no part is left.
use Rattle.std.proofs.Common.{◌≡◌, List, ◌++◌, Option, Some, None, refl, sym, ◌∙◌, ap, subst, append_assoc}
use Rattle.std.specs.Prelude.{Result, Ok, Err}
use Rattle.std.proofs.lemmas.List.{append-nil}
use Rattle.std.proofs.lemmas.Grind.{flat_map-append}
use Rattle.scenario_text.specs.declared.line.OutLine.{OutLine}
use Rattle.std.specs.List.{flat_map}
use Rattle.run_defs.specs.Lines.{RunLine}
use Rattle.run_defs.specs.States.{RunStep, Stop, goes, stops, told_before, ◌next◌, goes_on}
use Rattle.run_links.specs.Networks.{Octets, OctetState, OctetOutcome}
use Rattle.run_links.specs.Told.{printed, EndsAt}
use Rattle.run_links.proofs.Goes.{told_more}
use Rattle.world_steps.specs.declared.cause.Cause.{Cause}
use Rattle.world_steps.specs.Gives.{printed_steps, EventStops, EventGives, stop_by}

-- ---- the lines of steps, and of more steps

steps_more : (before middle lines : List OutLine) (steps more : List (RunStep Octets)) → middle ≡ before ++ printed_steps steps
    → lines ≡ middle ++ printed_steps more → lines ≡ before ++ printed_steps (steps ++ more)
steps_more before middle lines steps more e f =
    told_more before middle lines (flat_map (λ step. step.lines) steps) (flat_map (λ step. step.lines) more) e f
    ∙ ap (λ (l : List (RunLine Octets)). before ++ printed l) (sym (flat_map-append (λ (step : RunStep Octets). step.lines) steps more))

stops_after : (steps : List (RunStep Octets)) (o : OctetOutcome) (before middle lines : List OutLine) (why : Option Stop)
    → middle ≡ before ++ printed_steps steps → EventStops middle o lines why → EventStops before (told_before steps o) lines why
stops_after steps o before middle lines None e h = tt
stops_after steps (goes more after) before middle lines (Some why) e h = h
stops_after steps (stops more cause) before middle lines (Some why) e h = (steps_more before middle lines steps more e h.0, h.1)

gives_after : (steps : List (RunStep Octets)) (o : OctetOutcome) (before middle lines : List OutLine) (s : OctetState)
    (result : Result (Unit {0}) Cause) → middle ≡ before ++ printed_steps steps → EventGives middle o lines s result
    → EventGives before (told_before steps o) lines s result
gives_after steps (goes more after) before middle lines s (Ok done) e h = (steps_more before middle lines steps more e h.0, h.1)
gives_after steps (stops more why) before middle lines s (Ok done) e h = h
gives_after steps o before middle lines s (Err cause) e h = stops_after steps o before middle lines (stop_by cause) e h

-- ---- one part after another

pub then_event : (o : OctetOutcome) (f : OctetState → OctetOutcome) (before middle lines : List OutLine) (s t : OctetState)
    (result : Result (Unit {0}) Cause) → EndsAt before o middle s → EventGives middle (f s) lines t result
    → EventGives before (o next f) lines t result
then_event (goes steps after) f before middle lines s t result h k =
    gives_after steps (f after) before middle lines t result h.0
    (subst (λ (x : OctetState). EventGives middle (f x) lines t result) (sym h.1) k)
then_event (stops steps why) f before middle lines s t result h k = absurd h

pub first_stops : (o : OctetOutcome) (f : OctetState → OctetOutcome) (before lines : List OutLine) (s t : OctetState) (cause : Cause)
    → EventGives before o lines s (Err cause) → EventGives before (o next f) lines t (Err cause)
first_stops o f before lines s t cause h = by o (stop_by cause) h
  where
    by : (o : OctetOutcome) (why : Option Stop) → EventStops before o lines why → EventStops before (o next f) lines why
    by o None h = tt
    by (goes steps after) (Some why) h = absurd h
    by (stops steps cause) (Some why) h = h

-- no part is left
pub nothing_more : (lines : List OutLine) (s : OctetState) → EventGives lines (goes_on s) lines s (Ok tt)
nothing_more lines s = (sym (append-nil lines), refl)
