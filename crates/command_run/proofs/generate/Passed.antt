-- Some events, and then more.
use Rattle.std.proofs.Common.{◌≡◌, ℕ, ◌+◌, List, [], ◌∷◌, ◌++◌, length, Option, Some, None, refl, sym, ap, ◌∙◌, subst, arith, append-nil, length-append}
use Rattle.std.specs.Prelude.{Result, Ok, Err}
use Rattle.scenario_text.specs.declared.event.Event.{Event}
use Rattle.run_defs.specs.States.{Stop, goes, stops}
use Rattle.run_defs.specs.Runs.{happens}
use Rattle.run_links.specs.Networks.{OctetState, OctetWorld, OctetOutcome}
use Rattle.world_steps.specs.declared.cause.Cause.{Cause}
use Rattle.world_steps.specs.Gives.{stop_by}
use Rattle.command_run.specs.generate.inside.Passing.{Passage, passed, halted, passed_on, pass, RunAt, HaltsBy, FollowsTo, Follows}

abbrev pub then_pass : OctetWorld → List Event → Passage → Passage
then_pass world events (passed line s) = pass world events line s
then_pass world events (halted line why) = halted line why

module _ (world : OctetWorld) where
  pub pass_both : (first second : List Event) (line : ℕ) (s : OctetState)
      → pass world (first ++ second) line s ≡ then_pass world second (pass world first line s)
  unfolding pass
  pass_both [] second line s = refl
  pass_both (event ∷ first) second line s =
      by (happens world event s) (λ t. pass_both first second (line + 1) t)
    where
      by : (o : OctetOutcome)
          → ((t : OctetState) → pass world (first ++ second) (line + 1) t ≡ then_pass world second (pass world first (line + 1) t))
          → passed_on (line + 1) (pass world (first ++ second) (line + 1)) o
          ≡ then_pass world second (passed_on (line + 1) (pass world first (line + 1)) o)
      by (goes steps after) rest = rest after
      by (stops steps why) rest = refl

  -- the run goes on after the first events
  pub then_follows : (first second : List Event) (old mid new : RunAt) (result : Result (Unit {0}) Cause)
      → Follows world first old mid (Ok tt) → Follows world second mid new result → Follows world (first ++ second) old new result
  then_follows first second old mid new result h k =
      let goes_on : pass world (first ++ second) old.line old.world.state ≡ pass world second mid.line mid.world.state =
      pass_both first second old.line old.world.state ∙ ap (λ (p : Passage). then_pass world second p) h.0 in
      let lines : mid.line + length second ≡ old.line + length (first ++ second) = omega (arith, h.2, length-append first second) in
      subst (λ (n : ℕ). FollowsTo (pass world (first ++ second) old.line old.world.state) n new result) lines
      (subst (λ (p : Passage). FollowsTo p (mid.line + length second) new result) (sym goes_on) k)

  -- or it stops in one of them
  halts_still : (o : Option Stop) (p q : Passage) (new : RunAt) → ((line : ℕ) (why : Stop) → p ≡ halted line why → q ≡ halted line why)
      → HaltsBy p new o → HaltsBy q new o
  halts_still None p q new later h = tt
  halts_still (Some why) p q new later h = later new.line why h

  pub stops_first : (first second : List Event) (old new : RunAt) (cause : Cause)
      → Follows world first old new (Err cause) → Follows world (first ++ second) old new (Err cause)
  stops_first first second old new cause h =
      halts_still (stop_by cause) (pass world first old.line old.world.state) (pass world (first ++ second) old.line old.world.state) new
      (λ line why e. pass_both first second old.line old.world.state ∙ ap (λ (p : Passage). then_pass world second p) e) h

  -- with no events nothing happens
  pub none_follow : (old : RunAt) → old.world.stop ≡ None → Follows world [] old old (Ok tt)
  unfolding pass
  none_follow old going = (refl, going, (omega arith))

  pub no_more : (events : List Event) (old new : RunAt) (result : Result (Unit {0}) Cause) → Follows world events old new result
      → Follows world (events ++ []) old new result
  no_more events old new result h =
      subst (λ (es : List Event). Follows world es old new result) (sym (append-nil events)) h
