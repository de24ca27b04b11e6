-- What is left after a part of a turn, and the steps of a unit that a turn makes.
use Rattle.std.proofs.Common.{◌≡◌, ◌==◌, ℕ, suc, false, ◌+◌, ◌-◌, ◌<◌, ◌≤◌, List, [], ◌∷◌, ◌++◌, Option, Some, None, sym, ◌∙◌, ap, subst, arith}
use Rattle.std.specs.Prelude.{Ok, Err}
use Rattle.std.proofs.lemmas.List.{append-nil}
use Rattle.std.proofs.lemmas.Bool.Decides.{nat_tests}
use Rattle.gnb_types.specs.declared.reasons.HeldReason.{HeldReason}
use Rattle.gnb_types.specs.declared.reasons.RefuseReason.{RefuseReason}
use Rattle.scenario_text.specs.declared.line.OutLine.{OutLine}
use Rattle.run_defs.specs.States.{Stop, ◌next◌, goes_on}
use Rattle.run_defs.specs.Steps.{is_done, is_held, is_refused}
use Rattle.run_defs.specs.Settling.{quietly_by}
use Rattle.run_links.specs.Networks.{OctetState, OctetWorld, OctetOutcome}
use Rattle.run_links.specs.Told.{EndsAt}
use Rattle.world_steps.specs.declared.cause.Cause.{Cause}
use Rattle.world_steps.specs.declared.asked.Moved.{Moved}
use Rattle.world_steps.specs.declared.asked.Moved.TheVariants as moves
use Rattle.world_steps.specs.Gives.{EventStops, EventGives, stop_by}
use Rattle.world_steps.specs.Moves.{OctetDone, RunPoint, Moves, DoneStops, StepOutcome}
use Rattle.world_steps.proofs.Following.{then_event, first_stops, nothing_more}
use Rattle.world.specs.turns.Turns.{Continues}

-- ---- a loop that counts

pub counted : (P : ℕ → Type 0) (times done : ℕ) → done < times → P (suc (times - (done + 1))) → P (times - done)
counted P times done h p = let e : suc (times - (done + 1)) ≡ times - done = omega arith in subst P e p

pub none_left : (P : ℕ → Type 0) (times done : ℕ) → times ≤ done → P 0 → P (times - done)
none_left P times done h p = let e : 0 ≡ times - done = omega arith in subst P e p

-- ---- one part after another

pub then_continues : (o : OctetOutcome) (f : OctetState → OctetOutcome) (before middle : List OutLine) (s : OctetState) → EndsAt before o middle s
    → Continues before (o next f) middle (f s)
then_continues o f before middle s h = λ t lines result k. then_event o f before middle lines s t result h k

-- each of a list, in order
module _ {X : Type 0} (f : X → OctetState → OctetOutcome) (each : List X → OctetState → OctetOutcome)
    (none : (s : OctetState) → each [] s ≡ goes_on s)
    (more : (x : X) (xs : List X) (s : OctetState) → each (x ∷ xs) s ≡ (f x s next each xs)) where
  pub each_goes : (x : X) (xs ys : List X) (s t : OctetState) (before middle : List OutLine) → ys ≡ x ∷ xs → EndsAt before (f x s) middle t
      → Continues before (each ys s) middle (each xs t)
  each_goes x xs ys s t before middle e h =
      λ u lines result k.
      subst (λ (o : OctetOutcome). EventGives before o lines u result) (sym (ap (λ (l : List X). each l s) e ∙ more x xs s))
      (then_event (f x s) (each xs) before middle lines t u result h k)

  pub each_stops : (x : X) (xs ys : List X) (s t : OctetState) (before lines : List OutLine) (cause : Cause) → ys ≡ x ∷ xs
      → EventGives before (f x s) lines t (Err cause) → EventGives before (each ys s) lines t (Err cause)
  each_stops x xs ys s t before lines cause e h =
      subst (λ (o : OctetOutcome). EventGives before o lines t (Err cause)) (sym (ap (λ (l : List X). each l s) e ∙ more x xs s))
      (first_stops (f x s) (each xs) before lines t t cause h)

  pub each_ends : (ys : List X) (s : OctetState) (lines : List OutLine) → ys ≡ [] → EventGives lines (each ys s) lines s (Ok tt)
  each_ends ys s lines e =
      subst (λ (o : OctetOutcome). EventGives lines o lines s (Ok tt)) (sym (ap (λ (l : List X). each l s) e ∙ none s)) (nothing_more lines s)

-- ---- a step that was made, held or refused

abbrev pub stands_at : OctetState → List OutLine → RunPoint
stands_at s lines = record { state = s; lines = lines }

pub is_same : (P : List OutLine → OctetState → Type 0) (s t : OctetState) (before lines : List OutLine)
    → stands_at t lines ≡ stands_at s before → P before s → P lines t
is_same P s t before lines e p = subst (λ (a : RunPoint). P a.lines a.state) (sym e) p

pub same_from : (P : List OutLine → OctetState → Type 0) (s t : OctetState) (before lines : List OutLine)
    → stands_at t lines ≡ stands_at s before → P lines t → P before s
same_from P s t before lines e p = subst (λ (a : RunPoint). P a.lines a.state) e p

pub made_stops : (o : OctetOutcome) (s t : OctetState) (why : Option Stop) (before lines : List OutLine)
    → DoneStops (is_done o) (record { state = s; lines = before }) (record { state = t; lines = lines }) why → EventStops before o lines why
made_stops o s t None before lines h = tt
made_stops o s t (Some why) before lines h = h

pub held_never_stops : (reason : HeldReason) (o : OctetOutcome) (s t : OctetState) (why : Option Stop) (before lines : List OutLine)
    → DoneStops (is_held reason) (record { state = s; lines = before }) (record { state = t; lines = lines }) why → EventStops before o lines why
held_never_stops reason o s t None before lines h = tt
held_never_stops reason o s t (Some why) before lines h = absurd h

pub refused_never_stops : (reason : RefuseReason) (o : OctetOutcome) (s t : OctetState) (why : Option Stop) (before lines : List OutLine)
    → DoneStops (is_refused reason) (record { state = s; lines = before }) (record { state = t; lines = lines }) why → EventStops before o lines why
refused_never_stops reason o s t None before lines h = tt
refused_never_stops reason o s t (Some why) before lines h = absurd h

-- the lines of a step that was made, and no more
pub no_more : (o : OctetOutcome) (before middle lines : List OutLine) (s : OctetState) → EndsAt before o middle s → lines ≡ middle ++ []
    → EndsAt before o lines s
no_more o before middle lines s h e = subst (λ (l : List OutLine). EndsAt before o l s) (sym (append-nil middle) ∙ sym e) h

pub not_zero : (a : ℕ) → (a ≡ 0 → ⊥) → (a == 0) ≡ false
not_zero a h = grind (arith, nat_tests)

-- a step of which nothing is printed where it wasn't made
pub quietly_moves : (world : OctetWorld) (s t : OctetState) (done : OctetDone) (moved : Moved) (before lines : List OutLine)
    → Moves done (record { state = s; lines = before }) (record { state = t; lines = lines }) moved
    → EventGives before (quietly_by world s done) lines t (Ok tt)
quietly_moves world s t (is_done o) moves.Done before lines h = h
quietly_moves world s t (is_held reason) (moves.Holds r) before lines h =
    is_same (λ l x. EventGives before (goes_on s) l x (Ok tt)) s t before lines h.1 (nothing_more before s)
quietly_moves world s t (is_refused reason) (moves.Refuses r) before lines h =
    is_same (λ l x. EventGives before (goes_on s) l x (Ok tt)) s t before lines h.1 (nothing_more before s)
quietly_moves world s t (is_done o) (moves.Holds r) before lines h = absurd h
quietly_moves world s t (is_done o) (moves.Refuses r) before lines h = absurd h
quietly_moves world s t (is_held reason) moves.Done before lines h = absurd h
quietly_moves world s t (is_held reason) (moves.Refuses r) before lines h = absurd h
quietly_moves world s t (is_refused reason) moves.Done before lines h = absurd h
quietly_moves world s t (is_refused reason) (moves.Holds r) before lines h = absurd h

pub quietly_stops : (world : OctetWorld) (s t : OctetState) (done : OctetDone) (cause : Cause) (before lines : List OutLine)
    → StepOutcome done (record { state = s; lines = before }) (record { state = t; lines = lines }) (Err cause)
    → EventGives before (quietly_by world s done) lines t (Err cause)
quietly_stops world s t (is_done o) cause before lines h = made_stops o s t (stop_by cause) before lines h
quietly_stops world s t (is_held reason) cause before lines h = held_never_stops reason (goes_on s) s t (stop_by cause) before lines h
quietly_stops world s t (is_refused reason) cause before lines h = refused_never_stops reason (goes_on s) s t (stop_by cause) before lines h
