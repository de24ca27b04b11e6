-- An event that the code applied, as the definitions have it.
use Rattle.std.proofs.Common.{◌≡◌, ℕ, List, [], ◌∷◌, ◌++◌, Option, Some, None, Result, Ok, Err, refl, sym, ap, ◌∙◌, subst, inl, inr, append-nil}
use Rattle.std.proofs.lemmas.Grind.{flat_map-append}
use Rattle.std.specs.List.{flat_map}
use Rattle.std.specs.Option.{option_map}
use Rattle.gnb_types.specs.declared.items.Memory.{Memory}
use Rattle.std.specs.Prelude.{IfOk}
use Rattle.dup_defs.specs.declared.types.event.DupEvent.{DupEvent}
use Rattle.dup_defs.specs.declared.types.line.DupLine.{DupLine}
use Rattle.dup_defs.specs.declared.types.stop.DupEnd.{DupEnd}
use Rattle.dup_defs.specs.declared.types.stop.DupEnd.TheVariants as ends
use Rattle.dup_defs.specs.declared.types.stop.DupStop.{DupStop}
use Rattle.dup_defs.specs.declared.types.stop.DupStop.TheVariants as stop_variants
use Rattle.dup_defs.specs.dup_run_defs.Steps.{DupStep, passes, stops, steps, DupHappening, DupScript, with_step, with_event_at}
use Rattle.dup.specs.run.Runs.{DupState, new_dup, IsApplied as IsAppliedTo, IsEnding}
use Rattle.dup.specs.text.Print.{print, happens_text}
use Rattle.command_bearers.specs.declared.command_dup.config.DupConfig.{DupConfig}
use Rattle.command_bearers.specs.declared.script_word.end.StopCause.{StopCause}
use Rattle.command_bearers.specs.declared.script_word.end.StopCause.TheVariants.{Outstanding, Spent}
use Rattle.command_bearers.specs.declared.script_word.word.Happening.{Happening}
use Rattle.command_bearers.specs.command_dup.Run.{run_of, happening_text, script_text, counts, cause_of, dup_meaning}
use Rattle.command_bearers.specs.command_dup.inside.Laws.{run_begins, run_more}
use Rattle.command_bearers.specs.command_dup.inside.Ran.{dup_of, HasRun}
use Rattle.command_bearers.specs.script_word.inside.Applied.{IsApplied}

-- ---- the step that the code made

abbrev pub step_at : DupState → DupEvent → DupStep
step_at dup event = steps dup.sn dup.quota event dup.run

passes_on : (event : DupEvent) (old new : DupState) (printed : List DupLine) → IsAppliedTo (step_at old event) old new (Ok printed)
    → step_at old event ≡ passes printed new.run
passes_on event old new printed h = h.2

-- a run that hasn't ended ends in the event
ends_now : (event : DupEvent) (old new : DupState) (end : DupEnd) (printed : List DupLine) → old.ended ≡ None
    → IsEnding (step_at old event) old new end printed → step_at old event ≡ stops printed end
ends_now event old new end printed goes (inl h) = absurd (let clash : None ≡ Some end = sym goes ∙ h.0 in cc)
ends_now event old new end printed goes (inr h) = h.2

-- ---- the run of one event more

abbrev pub printed_of : DupStep → List DupLine
printed_of (passes printed after) = printed
printed_of (stops printed end) = printed

happened-step : (script : DupScript) (event : DupEvent) (step : DupStep)
    → (with_step script event step).happened ≡ script.happened ++ record { event = event; printed = printed_of step } ∷ []
happened-step script event (passes printed after) = refl
happened-step script event (stops printed end) = refl

module _ (config : DupConfig) (events : List DupEvent) (event : DupEvent) (old : DupState) (r : HasRun config old events) where
  run_steps : (step : DupStep) → step_at old event ≡ step → run_of config (events ++ event ∷ []) ≡ with_step (run_of config events) event step
  run_steps step e =
      run_more config events event
      ∙ ap (λ (o : Option DupEnd). with_event_at config.sn config.quota (run_of config events) event o) r.goes
      ∙ ap (λ (s : DupStep). with_step (run_of config events) event s) (sym (ap (λ (w : DupState). step_at w event) r.same) ∙ e)

  text_steps : (step : DupStep) → step_at old event ≡ step
      → script_text config (events ++ event ∷ []) ≡ script_text config events ++ (happens_text event ++ print (printed_of step))
  text_steps step e =
      let more : DupHappening = record { event = event; printed = printed_of step } in
      ap (λ (s : DupScript). flat_map happening_text s.happened) (run_steps step e)
      ∙ ap (λ (hs : List DupHappening). flat_map happening_text hs) (happened-step (run_of config events) event step)
      ∙ flat_map-append happening_text (run_of config events).happened (more ∷ [])
      ∙ ap (λ (text : List ℕ). script_text config events ++ text) (append-nil (happening_text more))

  module _ (new : DupState) (printed : List DupLine) (h : Happening) (text : h.text ≡ happens_text event ++ print printed) where
    pub goes_on : IsAppliedTo (step_at old event) old new (Ok printed) → h.cause ≡ None → IsApplied (dup_meaning config) (HasRun config new) events event h
    goes_on is none =
        let passing = passes_on event old new printed is in
        let after = run_steps (passes printed new.run) passing in
        let goes : (run_of config (events ++ event ∷ [])).ended ≡ None = ap (λ (s : DupScript). s.ended) after ∙ r.goes in
        record {
          text = text_steps (passes printed new.run) passing ∙ ap (λ (t : List ℕ). script_text config events ++ t) (sym text);
          stops = ap (λ (o : Option DupEnd). option_map cause_of o) goes ∙ sym none;
          goes = λ same_cause. record {
            same = is.3 ∙ ap (λ (w : DupState). record w { run = new.run }) r.same ∙ ap (λ (s : DupScript). dup_of config s) (sym after);
            goes = goes;
          };
        }

    pub stops_in : (end : DupEnd) → IsEnding (step_at old event) old new end printed → h.cause ≡ Some (cause_of end)
        → IsApplied (dup_meaning config) (HasRun config new) events event h
    stops_in end is some =
        let ending = ends_now event old new end printed (ap (λ (w : DupState). w.ended) r.same ∙ r.goes) is in
        let ended : (run_of config (events ++ event ∷ [])).ended ≡ Some end = ap (λ (s : DupScript). s.ended) (run_steps (stops printed end) ending) in
        record {
          text = text_steps (stops printed end) ending ∙ ap (λ (t : List ℕ). script_text config events ++ t) (sym text);
          stops = ap (λ (o : Option DupEnd). option_map cause_of o) ended ∙ sym some;
          goes = λ none. absurd (let clash : None ≡ Some (cause_of end) = sym none ∙ some in cc);
        }

-- ---- at the exits of the code

abbrev pub Shows : DupEvent → List DupLine → Option StopCause → Happening → Type 0
Shows event printed cause h = (h.text ≡ happens_text event ++ print printed) × (h.cause ≡ cause)

abbrev pub Comes : DupConfig → DupEvent → DupState → DupState → Happening → Type 0
Comes config event old new h = (events : List DupEvent) → HasRun config old events → IsApplied (dup_meaning config) (HasRun config new) events event h

module _ (config : DupConfig) (event : DupEvent) (old new : DupState) (printed : List DupLine) where
  pub event_passes : (result : Result Happening Memory) → IfOk result (Shows event printed None) → IsAppliedTo (step_at old event) old new (Ok printed)
      → IfOk result (Comes config event old new)
  event_passes (Ok h) shows is = λ events r. goes_on config events event old r new printed h shows.0 is shows.1
  event_passes (Err e) shows is = tt

  event_ends : (end : DupEnd) (result : Result Happening Memory) → IfOk result (Shows event printed (Some (cause_of end)))
      → IsEnding (step_at old event) old new end printed → IfOk result (Comes config event old new)
  event_ends end (Ok h) shows is = λ events r. stops_in config events event old r new printed h shows.0 end is shows.1
  event_ends end (Err e) shows is = tt

  pub event_outstanding : (stop : DupStop) (far window : ℕ) (result : Result Happening Memory) → stop ≡ stop_variants.Outstanding far window printed
      → IsAppliedTo (step_at old event) old new (Err stop) → IfOk result (Shows event printed (Some Outstanding)) → IfOk result (Comes config event old new)
  event_outstanding stop far window result e is shows =
      event_ends (ends.Outstanding far window) result shows (subst (λ (s : DupStop). IsAppliedTo (step_at old event) old new (Err s)) e is).1

  pub event_spends : (stop : DupStop) (result : Result Happening Memory) → stop ≡ stop_variants.CountsSpent printed
      → IsAppliedTo (step_at old event) old new (Err stop) → IfOk result (Shows event printed (Some (Spent counts))) → IfOk result (Comes config event old new)
  event_spends stop result e is shows =
      event_ends ends.CountsSpent result shows (subst (λ (s : DupStop). IsAppliedTo (step_at old event) old new (Err s)) e is).1

pub begins : (config : DupConfig) (result : Result DupState Memory) → IfOk result (λ run. run ≡ new_dup config.sn config.quota)
    → IfOk result (λ run. HasRun config run [])
begins config (Ok run) is = record {
  same = is ∙ ap (λ (s : DupScript). dup_of config s) (sym (run_begins config));
  goes = ap (λ (s : DupScript). s.ended) (run_begins config);
}
begins config (Err e) is = tt
