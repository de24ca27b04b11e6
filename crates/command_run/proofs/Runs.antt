-- The run of one event more, and its text.
use Rattle.std.proofs.Common.{◌≡◌, ℕ, List, [], ◌∷◌, ◌++◌, true, Option, Some, None, Ok, refl, sym, ap, ◌∙◌, append-nil, append_assoc}
use Rattle.std.proofs.lemmas.Grind.{flat_map-append}
use Rattle.std.proofs.lemmas.List.{map-append}
use Rattle.std.specs.List.{flat_map}
use Rattle.scenario_text.specs.declared.event.Event.{Event}
use Rattle.scenario_text.specs.declared.line.OutLine.{OutLine}
use Rattle.scenario_text.specs.declared.line.OutLine.TheVariants as lines
use Rattle.scenario_text.specs.Grammar.{is_skipped}
use Rattle.scenario_text.specs.Print.{print, line_text}
use Rattle.run_defs.specs.States.{new_state, RunStep, Stop, goes, stops}
use Rattle.run_defs.specs.Runs.{Happened, Transcript, happens, run_on, run_from, run}
use Rattle.run_defs.specs.UnitRuns.{unit_world, UnitRun}
use Rattle.run_links.specs.Networks.{OctetState, OctetWorld, OctetOutcome}
use Rattle.world.specs.Worlds.{WorldAt}
use Rattle.command_run.specs.Run.{Setting, meanings, AreEvents, run_of, GoesOn, happened_text, run_text}
use Rattle.command_run.specs.inside.Turns.{IsEvent, told_by, text_at}

-- ---- what lines mean

meanings-more : (lines : List (List ℕ)) (line : List ℕ) → flat_map meanings (lines ++ line ∷ []) ≡ flat_map meanings lines ++ meanings line
meanings-more lines line =
    flat_map-append meanings lines (line ∷ []) ∙ ap (λ (ms : _). flat_map meanings lines ++ ms) (append-nil (meanings line))

pub skip_means : (line : List ℕ) → is_skipped line ≡ true → meanings line ≡ []
skip_means line e = rw e refl

pub event_means : (line : List ℕ) (event : Event) → IsEvent line event → meanings line ≡ Ok event ∷ []
event_means line event e = rw (e.one, e.read) refl

pub script_skips : (lines : List (List ℕ)) (line : List ℕ) (events : List Event) → AreEvents lines events → is_skipped line ≡ true
    → AreEvents (lines ++ line ∷ []) events
script_skips lines line events h e =
    meanings-more lines line ∙ ap (λ (ms : _). flat_map meanings lines ++ ms) (skip_means line e) ∙ append-nil _ ∙ h

pub script_more : (lines : List (List ℕ)) (line : List ℕ) (events : List Event) (event : Event) → AreEvents lines events
    → IsEvent line event
    → AreEvents (lines ++ line ∷ []) (events ++ event ∷ [])
script_more lines line events event h e =
    meanings-more lines line ∙ ap (λ (ms : _). flat_map meanings lines ++ ms) (event_means line event e)
    ∙ ap (λ (ms : _). ms ++ Ok event ∷ []) h ∙ sym (map-append (λ event. Ok event) events (event ∷ []))

-- ---- the run

abbrev pub world_of : Setting → OctetWorld
world_of setting = unit_world setting.codec setting.answer

-- an event with its steps, and a run whose first events came to this
abbrev pub happened : Event → List (RunStep (List ℕ)) → Happened (List ℕ)
happened event steps = record { event = event; steps = steps }

abbrev pub transcript : List (Happened (List ℕ)) → Option Stop → Transcript (List ℕ)
transcript done stop = record { events = done; stop = stop }

abbrev pub after_these : List (Happened (List ℕ)) → Transcript (List ℕ) → Transcript (List ℕ)
after_these done t = transcript (done ++ t.events) t.stop

-- these events came to this, and the run goes on from this state, whatever events come
pub record Reached (setting : Setting) (events : List Event) (done : List (Happened (List ℕ))) (now : OctetState) : Type 0 where
  pub all : (more : List Event) → run_of setting (events ++ more) ≡ after_these done (run_from (world_of setting) more now)

pub reached_first : (setting : Setting) → Reached setting [] [] new_state
unfolding UnitRun run
reached_first setting = record { all = λ more. refl }

pub no_text : (setting : Setting) → run_text setting [] ≡ []
unfolding UnitRun run run_from
no_text setting = refl

-- the text of one event more
step_text : (setting : Setting) (done : List (Happened (List ℕ))) (event : Event) (o : OctetOutcome)
    → flat_map happened_text (done ++ (run_on (world_of setting) event (run_from (world_of setting) []) o).events)
    ≡ flat_map happened_text done ++ print (lines.Happens event ∷ told_by o)
unfolding run_from
step_text setting done event (goes steps after) =
    flat_map-append happened_text done (happened event steps ∷ [])
    ∙ ap (λ (text : List ℕ). flat_map happened_text done ++ text) (append-nil (happened_text (happened event steps)))
step_text setting done event (stops steps why) =
    flat_map-append happened_text done (happened event steps ∷ [])
    ∙ ap (λ (text : List ℕ). flat_map happened_text done ++ text) (append-nil (happened_text (happened event steps)))

module _ {setting : Setting} {events : List Event} {done : List (Happened (List ℕ))} {now : OctetState} (r : Reached setting events done now) where
  pub reached_goes : GoesOn setting events
  unfolding run_from
  reached_goes =
      ap (λ (es : List Event). (run_of setting es).stop) (sym (append-nil events)) ∙ ap (λ (t : Transcript (List ℕ)). t.stop) (r.all [])

  text_now : run_text setting events ≡ flat_map happened_text done
  unfolding run_from
  text_now =
      ap (λ (es : List Event). run_text setting es) (sym (append-nil events))
      ∙ ap (λ (t : Transcript (List ℕ)). flat_map happened_text t.events) (r.all [])
      ∙ ap (λ (hs : List (Happened (List ℕ))). flat_map happened_text hs) (append-nil done)

  -- while it goes on, one event more comes to one happening
  pub reached_more : (event : Event) (steps : List (RunStep (List ℕ))) (after : OctetState) → happens (world_of setting) event now ≡ goes steps after
      → Reached setting (events ++ event ∷ []) (done ++ happened event steps ∷ []) after
  unfolding run_from
  reached_more event steps after e = record {
    all = λ more.
        ap (λ (es : List Event). run_of setting es) (append_assoc events (event ∷ []) more)
        ∙ r.all (event ∷ more)
        ∙ ap (λ (o : OctetOutcome). after_these done (run_on (world_of setting) event (run_from (world_of setting) more) o)) e
        ∙ ap (λ (hs : List (Happened (List ℕ))). transcript hs (run_from (world_of setting) more after).stop)
        (sym (append_assoc done (happened event steps ∷ []) (run_from (world_of setting) more after).events));
  }

  -- or the run stops in it
  pub reached_stops : (event : Event) (steps : List (RunStep (List ℕ))) (why : Stop) → happens (world_of setting) event now ≡ stops steps why
      → (run_of setting (events ++ event ∷ [])).stop ≡ Some why
  unfolding run_from
  reached_stops event steps why e =
      ap (λ (t : Transcript (List ℕ)). t.stop) (r.all (event ∷ []))
      ∙ ap (λ (o : OctetOutcome). (run_on (world_of setting) event (run_from (world_of setting) []) o).stop) e

  text-more-at : (event : Event) → run_text setting (events ++ event ∷ [])
      ≡ flat_map happened_text (done ++ (run_on (world_of setting) event (run_from (world_of setting) []) (happens (world_of setting) event now)).events)
  unfolding run_from
  text-more-at event = ap (λ (t : Transcript (List ℕ)). flat_map happened_text t.events) (r.all (event ∷ []))

  pub text-more : (world : WorldAt) (event : Event) → world.state ≡ now
      → run_text setting (events ++ event ∷ []) ≡ run_text setting events ++ text_at setting world event
  text-more world event same =
      text-more-at event ∙ step_text setting done event (happens (world_of setting) event now)
      ∙ ap (λ (s : OctetState). flat_map happened_text done ++ print (lines.Happens event ∷ told_by (happens (world_of setting) event s))) (sym same)
      ∙ ap (λ (text : List ℕ). text ++ text_at setting world event) (sym text_now)

-- a run that has stopped stays so
stopped_from : (setting : Setting) (events more : List Event) (s : OctetState) (why : Stop)
    → (run_from (world_of setting) events s).stop ≡ Some why
    → (run_from (world_of setting) (events ++ more) s).stop ≡ Some why
unfolding run_from
stopped_from setting [] more s why e = absurd (let clash : None ≡ Some why = e in cc)
stopped_from setting (event ∷ events) more s why e =
    by (happens (world_of setting) event s) (λ t h. stopped_from setting events more t why h) e
  where
    by : (o : OctetOutcome)
        → ((t : OctetState) → (run_from (world_of setting) events t).stop ≡ Some why → (run_from (world_of setting) (events ++ more) t).stop ≡ Some why)
        → (run_on (world_of setting) event (run_from (world_of setting) events) o).stop ≡ Some why
        → (run_on (world_of setting) event (run_from (world_of setting) (events ++ more)) o).stop ≡ Some why
    by (goes steps after) later e = later after e
    by (stops steps cause) later e = e

pub stopped_on : (setting : Setting) (events more : List Event) (why : Stop) → (run_of setting events).stop ≡ Some why
    → (run_of setting (events ++ more)).stop ≡ Some why
unfolding UnitRun run
stopped_on setting events more why e = stopped_from setting events more new_state why e

-- ---- an event's own line, and the lines after it

print-append : (a b : List OutLine) → print (a ++ b) ≡ print a ++ print b
print-append a b = flat_map-append (λ (line : OutLine). line_text line ++ 10 ∷ []) a b

pub print-cons : (line : OutLine) (printed : List OutLine) → print (line ∷ printed) ≡ print (line ∷ []) ++ print printed
print-cons line printed = print-append (line ∷ []) printed
