-- Three parts of an event, one after another.
use Rattle.std.proofs.Common.{List}
use Rattle.std.specs.Prelude.{Result, Ok, Err}
use Rattle.scenario_text.specs.declared.line.OutLine.{OutLine}
use Rattle.run_defs.specs.States.{◌next◌}
use Rattle.run_links.specs.Networks.{OctetState, OctetOutcome}
use Rattle.run_links.specs.Told.{EndsAt}
use Rattle.world_steps.specs.declared.cause.Cause.{Cause}
use Rattle.world_steps.specs.Gives.{EventGives}
use Rattle.world_steps.proofs.Following.{then_event, first_stops}

module _ (o : OctetOutcome) (f g : OctetState → OctetOutcome) (before : List OutLine) where
  pub stops_first : (lines : List OutLine) (t : OctetState) (cause : Cause) → EventGives before o lines t (Err cause)
      → EventGives before (o next f next g) lines t (Err cause)
  stops_first lines t cause h = first_stops (o next f) g before lines t t cause (first_stops o f before lines t t cause h)

  pub stops_second : (first lines : List OutLine) (s t : OctetState) (cause : Cause) → EndsAt before o first s
      → EventGives first (f s) lines t (Err cause) → EventGives before (o next f next g) lines t (Err cause)
  stops_second first lines s t cause h k =
      first_stops (o next f) g before lines t t cause (then_event o f before first lines s t (Err cause) h k)

  pub all_three : (first second lines : List OutLine) (s t u : OctetState) (result : Result (Unit {0}) Cause) → EndsAt before o first s
      → EndsAt first (f s) second t → EventGives second (g t) lines u result → EventGives before (o next f next g) lines u result
  all_three first second lines s t u result h k l =
      then_event (o next f) g before second lines t u result (then_event o f before first second s t (Ok tt) h k) l
