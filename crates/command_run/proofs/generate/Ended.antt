-- How far the run of the whole script comes, and how it ends.
use Rattle.std.proofs.Common.{◌≡◌, ℕ, ◌+◌, List, [], ◌∷◌, length, Some, None, refl, sym, ◌∙◌, subst, arith}
use Rattle.std.specs.Prelude.{Result, Ok, Err}
use Rattle.scenario_text.specs.declared.event.Event.{Event}
use Rattle.unit_defs.specs.octet_defs.Codec.{Codec}
use Rattle.run_defs.specs.States.{Stop, outstanding, spent_counter, new_state, goes, stops}
use Rattle.run_defs.specs.Runs.{Transcript, happens, run_on, run_from, run}
use Rattle.run_defs.specs.UnitRuns.{Meaning, unit_world, UnitRun}
use Rattle.run_links.specs.Networks.{OctetState, OctetWorld, OctetOutcome}
use Rattle.world_steps.specs.declared.cause.Cause.{Cause}
use Rattle.world_steps.specs.declared.cause.Cause.TheVariants as causes
use Rattle.command_run.specs.declared.generate.end.GenerateEnd.{GenerateEnd}
use Rattle.command_run.specs.declared.generate.end.GenerateEnd.TheVariants as ends
use Rattle.command_run.specs.generate.Ends.{EndMeets}
use Rattle.command_run.specs.generate.inside.Passing.{Passage, passed, halted, passed_on, pass, RunAt, FollowsTo, Follows, IsEndBy}

-- what a passage tells of the whole run
abbrev pub Tells : Passage → ℕ → Transcript (List ℕ) → Type 0
Tells (passed last now) line run = run.stop ≡ None
Tells (halted last why) line run = (run.stop ≡ Some why) × (last ≡ line + length run.events)

module _ (world : OctetWorld) where
  tells : (events : List Event) (line : ℕ) (s : OctetState) → Tells (pass world events line s) line (run_from world events s)
  unfolding pass run_from
  tells [] line s = refl
  tells (event ∷ events) line s = by (happens world event s) (λ t. tells events (line + 1) t)
    where
      later : (p : Passage) (t : Transcript (List ℕ)) (u : Transcript (List ℕ)) → u.stop ≡ t.stop → length u.events ≡ length t.events + 1
          → Tells p (line + 1) t → Tells p line u
      later (passed last now) t u e n h = e ∙ h
      later (halted last why) t u e n h = (e ∙ h.0, (omega (arith, n, h.1)))

      by : (o : OctetOutcome) → ((t : OctetState) → Tells (pass world events (line + 1) t) (line + 1) (run_from world events t))
          → Tells (passed_on (line + 1) (pass world events (line + 1)) o) line (run_on world event (run_from world events) o)
      by (goes steps after) rest =
          later (pass world events (line + 1) after) (run_from world events after) (run_on world event (run_from world events) (goes steps after)) refl
          (omega arith) (rest after)
      by (stops steps why) rest = (refl, (omega arith))

tells_run : (codec : Codec) (answer : Meaning) (events : List Event)
    → Tells (pass (unit_world codec answer) events 1 new_state) 1 (UnitRun codec answer events)
unfolding UnitRun run
tells_run codec answer events = tells (unit_world codec answer) events 1 new_state

goes_to_end : (p : Passage) (run : Transcript (List ℕ)) (last : ℕ) (now : OctetState) → Tells p 1 run → p ≡ passed last now → run.stop ≡ None
goes_to_end p run last now t e = subst (λ (q : Passage). Tells q 1 run) e t

stops_in : (p : Passage) (run : Transcript (List ℕ)) (last : ℕ) (why : Stop) → Tells p 1 run → p ≡ halted last why
    → (run.stop ≡ Some why) × (last ≡ 1 + length run.events)
stops_in p run last why t e = subst (λ (q : Passage). Tells q 1 run) e t

-- how the word ends then
meets_at : (p : Passage) (run : Transcript (List ℕ)) (line packets : ℕ) (new : RunAt) (result : Result (Unit {0}) Cause) (end : GenerateEnd)
    → Tells p 1 run → FollowsTo p line new result → IsEndBy result packets new.line end → EndMeets run packets end
meets_at p run line packets new (Ok done) end t f e =
    subst (λ (x : GenerateEnd). EndMeets run packets x) (sym e) (goes_to_end p run new.line new.world.state t f.0, refl)
meets_at p run line packets new (Err (causes.Outstanding o)) end t f e =
    subst (λ (x : GenerateEnd). EndMeets run packets x) (sym e) (stops_in p run new.line (outstanding o.key o.span o.window) t f)
meets_at p run line packets new (Err (causes.Spent counter)) end t f e =
    subst (λ (x : GenerateEnd). EndMeets run packets x) (sym e) (stops_in p run new.line (spent_counter counter) t f)
meets_at p run line packets new (Err causes.Memory) end t f e = absurd e

pub run_meets : (codec : Codec) (answer : Meaning) (events : List Event) (packets : ℕ) (old new : RunAt) (result : Result (Unit {0}) Cause)
    (end : GenerateEnd) → old.line ≡ 1 → old.world.state ≡ new_state → Follows (unit_world codec answer) events old new result
    → IsEndBy result packets new.line end → EndMeets (UnitRun codec answer events) packets end
run_meets codec answer events packets old new result end first start h e =
    let world = unit_world codec answer in
    let tells_here : Tells (pass world events old.line old.world.state) 1 (UnitRun codec answer events) =
    subst (λ (n : ℕ). Tells (pass world events n old.world.state) 1 (UnitRun codec answer events)) (sym first)
    (subst (λ (s : OctetState). Tells (pass world events 1 s) 1 (UnitRun codec answer events)) (sym start) (tells_run codec answer events)) in
    meets_at (pass world events old.line old.world.state) (UnitRun codec answer events) (old.line + length events) packets new result end tells_here h e
