-- An event is applied.
use Rattle.std.proofs.Common.{◌≡◌, ℕ, ◌+◌, List, [], ◌∷◌, Option, Some, None, refl, sym, ap, ◌∙◌, subst, arith}
use Rattle.std.specs.Prelude.{Result, Ok, Err}
use Rattle.scenario_text.specs.declared.event.Event.{Event}
use Rattle.scenario_text.specs.declared.line.OutLine.{OutLine}
use Rattle.run_defs.specs.States.{Stop, goes, stops}
use Rattle.run_defs.specs.Runs.{happens}
use Rattle.run_links.specs.Networks.{OctetState, OctetWorld, OctetOutcome}
use Rattle.run_links.specs.Told.{EndsAt}
use Rattle.world_steps.specs.declared.cause.Cause.{Cause}
use Rattle.world_steps.specs.declared.cause.Cause.TheVariants as causes
use Rattle.world_steps.specs.Gives.{stop_by, EventStops}
use Rattle.world.specs.declared.stop.Stop.{Stop as WorldStop}
use Rattle.world.specs.Worlds.{WorldAt, IsUsable, stopped, AppliesTo, AppliesAt, Applies}
use Rattle.command_run.specs.generate.inside.Passing.{Passage, passed, halted, passed_on, pass, run_at, RunAt, HaltsBy, Follows, cause_in}

-- a run that goes on can be used
pub usable_on : {U : Type 0} (ready : U → Type 0) (units : U) (stop : Option Cause) → stop ≡ None → IsUsable ready units stop → ready units
usable_on ready units stop e h = subst (λ (o : Option Cause). IsUsable ready units o) e h

applies_on : (o : OctetOutcome) (stop : Option Cause) (old new : WorldAt) (result : Result (List OutLine) WorldStop) → stop ≡ None
    → AppliesAt o stop old new result → AppliesTo o new result
applies_on o stop old new result e h = subst (λ (s : Option Cause). AppliesAt o s old new result) e h

one_event : (world : OctetWorld) (event : Event) (line : ℕ) (s : OctetState)
    → pass world (event ∷ []) line s ≡ passed_on (line + 1) (λ t. passed (line + 1) t) (happens world event s)
unfolding pass
one_event world event line s = refl

goes_by : (o : OctetOutcome) (line : ℕ) (lines : List OutLine) (now : OctetState) → EndsAt [] o lines now
    → passed_on line (λ t. passed line t) o ≡ passed line now
goes_by (goes steps after) line lines now h = ap (λ (t : OctetState). passed line t) h.1
goes_by (stops steps why) line lines now h = absurd h

-- the run goes on
pub goes_one : (world : OctetWorld) (event : Event) (old new : WorldAt) (line next : ℕ) (lines : List OutLine) → old.stop ≡ None
    → next ≡ line + 1 → Applies world event old new (Ok lines) → Follows world (event ∷ []) (run_at old line) (run_at new next) (Ok tt)
goes_one world event old new line next lines going e h =
    let now = applies_on (happens world event old.state) old.stop old new (Ok lines) going h in (
      one_event world event line old.state ∙ goes_by (happens world event old.state) (line + 1) lines new.state now.0
          ∙ ap (λ (n : ℕ). passed n new.state) (sym e),
      now.1,
      (omega (arith, e)),
    )

-- or it stops in the event
cause_is : (cause : Cause) (lines : List OutLine) → cause_in (stopped cause lines) ≡ cause
cause_is (causes.Outstanding o) lines = refl
cause_is (causes.Spent counter) lines = refl
cause_is causes.Memory lines = refl

stops_by : (o : OctetOutcome) (line : ℕ) (lines : List OutLine) (why : Option Stop) (new : RunAt) → line ≡ new.line → EventStops [] o lines why
    → HaltsBy (passed_on line (λ t. passed line t) o) new why
stops_by o line lines None new e h = tt
stops_by (goes steps after) line lines (Some why) new e h = absurd h
stops_by (stops steps cause) line lines (Some why) new e h =
    ap (λ (n : ℕ). halted n cause) e ∙ ap (λ (w : Stop). halted new.line w) h.1

pub stops_one : (world : OctetWorld) (event : Event) (old new : WorldAt) (line next : ℕ) (stop : WorldStop) (cause : Cause) → old.stop ≡ None
    → next ≡ line + 1 → cause ≡ cause_in stop → Applies world event old new (Err stop)
    → Follows world (event ∷ []) (run_at old line) (run_at new next) (Err cause)
stops_one world event old new line next stop cause going e is h =
    let now = applies_on (happens world event old.state) old.stop old new (Err stop) going h in
    let same : now.0 ≡ cause = sym (is ∙ ap cause_in now.2 ∙ cause_is now.0 now.1) in
    subst (λ (c : Cause). HaltsBy (pass world (event ∷ []) line old.state) (run_at new next) (stop_by c)) same
    (subst (λ (p : Passage). HaltsBy p (run_at new next) (stop_by now.0)) (sym (one_event world event line old.state))
    (stops_by (happens world event old.state) (line + 1) now.1 (stop_by now.0) (run_at new next) (sym e) now.4))
