-- An event that the code applied, as the definitions have it.
use Rattle.std.proofs.Common.{◌≡◌, ◌<◌, ◌≤◌, ℕ, List, [], ◌∷◌, ◌++◌, Bool, true, false, cond, Option, Some, None, Result, Ok, Err, refl, sym, ap, ◌∙◌, subst, inl, inr, append-nil, arith, nat_lt}
use Rattle.std.proofs.lemmas.Bool.Decides.{nat_tests}
use Rattle.std.proofs.lemmas.Grind.{flat_map-append}
use Rattle.std.specs.List.{flat_map}
use Rattle.std.specs.Option.{option_map}
use Rattle.gnb_types.specs.declared.items.Memory.{Memory}
use Rattle.std.specs.Prelude.{IfOk}
use Rattle.pdcp.specs.Numbers.{half}
use Rattle.um_defs.specs.declared.types.event.UmEvent.{UmEvent}
use Rattle.um_defs.specs.declared.types.line.UmLine.{UmLine}
use Rattle.um_defs.specs.declared.types.line.UmLine.TheVariants as lines
use Rattle.um_defs.specs.declared.types.stop.UmEnd.{UmEnd}
use Rattle.um_defs.specs.declared.types.stop.UmEnd.TheVariants as ends
use Rattle.um_defs.specs.declared.types.stop.UmStop.{UmStop}
use Rattle.um_defs.specs.declared.types.stop.UmStop.TheVariants as stop_variants
use Rattle.um_defs.specs.um_run_defs.Run.{does_event, span}
use Rattle.um_defs.specs.um_run_defs.Script.{UmStep, passes, stops, step_of, steps, printed_of, UmHappening, UmScript, with_step, with_event_at}
use Rattle.um.specs.run.Worlds.{UmWorldState, new_world, IsApplied as IsAppliedTo, IsEnding, EndsIn}
use Rattle.um.specs.text.Print.{print, happens_text}
use Rattle.command_bearers.specs.declared.command_um.config.UmConfig.{UmConfig}
use Rattle.command_bearers.specs.declared.script_word.end.StopCause.{StopCause}
use Rattle.command_bearers.specs.declared.script_word.end.StopCause.TheVariants.{Outstanding, Spent}
use Rattle.command_bearers.specs.declared.script_word.word.Happening.{Happening}
use Rattle.command_bearers.specs.command_um.Run.{run_of, happening_text, script_text, cause_of, um_meaning}
use Rattle.command_bearers.specs.command_um.inside.Laws.{run_begins, run_more}
use Rattle.command_bearers.specs.command_um.inside.Ran.{world_of, HasRun}
use Rattle.command_bearers.specs.script_word.inside.Applied.{IsApplied}

-- ---- the step that the code made

abbrev pub step_at : UmWorldState → UmEvent → UmStep
step_at world event = steps world.sn world.ticks event world.run

not_less : (a b : ℕ) → b ≤ a → nat_lt a b ≡ false
not_less a b h = grind (arith, nat_tests)

is_less : (a b : ℕ) → a < b → nat_lt a b ≡ true
is_less a b h = grind (arith, nat_tests)

passes_on : (event : UmEvent) (old new : UmWorldState) (printed : List UmLine) → IsAppliedTo event old new (Ok printed)
    → step_at old event ≡ passes printed new.run
unfolding steps
passes_on event old new printed h =
    let within : nat_lt (half old.sn) (span new.run) ≡ false = not_less (half old.sn) (span new.run) h.2 in
    ap (step_of old.sn) h.1
    ∙ ap (λ (b : Bool). cond b (stops (printed ++ lines.Outstanding (span new.run) (half old.sn) ∷ []) (ends.Outstanding (span new.run) (half old.sn))) (passes printed new.run)) within

ends_in : (event : UmEvent) (old new : UmWorldState) (end : UmEnd) (printed : List UmLine)
    → EndsIn old.sn (does_event old.sn old.ticks event old.run) new.run end printed → step_at old event ≡ stops printed end
unfolding steps
ends_in event old new (ends.Outstanding far window) printed (front, outcome, shown, is_far, is_window, above) =
    ap (step_of old.sn) outcome
    ∙ ap (λ (b : Bool). cond b (stops (front ++ lines.Outstanding (span new.run) (half old.sn) ∷ []) (ends.Outstanding (span new.run) (half old.sn))) (passes front new.run)) (is_less (half old.sn) (span new.run) above)
    ∙ ap (λ (n : ℕ). stops (front ++ lines.Outstanding n (half old.sn) ∷ []) (ends.Outstanding n (half old.sn))) (sym is_far)
    ∙ ap (λ (n : ℕ). stops (front ++ lines.Outstanding far n ∷ []) (ends.Outstanding far n)) (sym is_window)
    ∙ ap (λ (ls : List UmLine). stops ls (ends.Outstanding far window)) (sym shown)
ends_in event old new (ends.Spent counter) printed (outcome, shown) =
    ap (step_of old.sn) outcome ∙ ap (λ (ls : List UmLine). stops ls (ends.Spent counter)) (sym shown)

-- a run that hasn't ended ends in the event
ends_now : (event : UmEvent) (old new : UmWorldState) (end : UmEnd) (printed : List UmLine) → old.ended ≡ None
    → IsEnding event old new end printed → step_at old event ≡ stops printed end
ends_now event old new end printed goes (inl h) = absurd (let clash : None ≡ Some end = sym goes ∙ h.0 in cc)
ends_now event old new end printed goes (inr h) = ends_in event old new end printed h.2

-- ---- the run of one event more

happened-step : (script : UmScript) (event : UmEvent) (step : UmStep)
    → (with_step script event step).happened ≡ script.happened ++ record { event = event; printed = printed_of step } ∷ []
happened-step script event (passes printed after) = refl
happened-step script event (stops printed end) = refl

module _ (config : UmConfig) (events : List UmEvent) (event : UmEvent) (old : UmWorldState) (r : HasRun config old events) where
  run_steps : (step : UmStep) → step_at old event ≡ step → run_of config (events ++ event ∷ []) ≡ with_step (run_of config events) event step
  run_steps step e =
      run_more config events event
      ∙ ap (λ (o : Option UmEnd). with_event_at config.sn config.ticks (run_of config events) event o) r.goes
      ∙ ap (λ (s : UmStep). with_step (run_of config events) event s) (sym (ap (λ (w : UmWorldState). step_at w event) r.same) ∙ e)

  text_steps : (step : UmStep) → step_at old event ≡ step
      → script_text config (events ++ event ∷ []) ≡ script_text config events ++ (happens_text event ++ print (printed_of step))
  text_steps step e =
      let more : UmHappening = record { event = event; printed = printed_of step } in
      ap (λ (s : UmScript). flat_map happening_text s.happened) (run_steps step e)
      ∙ ap (λ (hs : List UmHappening). flat_map happening_text hs) (happened-step (run_of config events) event step)
      ∙ flat_map-append happening_text (run_of config events).happened (more ∷ [])
      ∙ ap (λ (text : List ℕ). script_text config events ++ text) (append-nil (happening_text more))

  module _ (new : UmWorldState) (printed : List UmLine) (h : Happening) (text : h.text ≡ happens_text event ++ print printed) where
    pub goes_on : IsAppliedTo event old new (Ok printed) → h.cause ≡ None → IsApplied (um_meaning config) (HasRun config new) events event h
    goes_on is none =
        let passing = passes_on event old new printed is in
        let after = run_steps (passes printed new.run) passing in
        let goes : (run_of config (events ++ event ∷ [])).ended ≡ None = ap (λ (s : UmScript). s.ended) after ∙ r.goes in
        record {
          text = text_steps (passes printed new.run) passing ∙ ap (λ (t : List ℕ). script_text config events ++ t) (sym text);
          stops = ap (λ (o : Option UmEnd). option_map cause_of o) goes ∙ sym none;
          goes = λ same_cause. record {
            same = is.3 ∙ ap (λ (w : UmWorldState). record w { run = new.run }) r.same ∙ ap (λ (s : UmScript). world_of config s) (sym after);
            goes = goes;
          };
        }

    pub stops_in : (end : UmEnd) → IsEnding event old new end printed → h.cause ≡ Some (cause_of end)
        → IsApplied (um_meaning config) (HasRun config new) events event h
    stops_in end is some =
        let ending = ends_now event old new end printed (ap (λ (w : UmWorldState). w.ended) r.same ∙ r.goes) is in
        let ended : (run_of config (events ++ event ∷ [])).ended ≡ Some end = ap (λ (s : UmScript). s.ended) (run_steps (stops printed end) ending) in
        record {
          text = text_steps (stops printed end) ending ∙ ap (λ (t : List ℕ). script_text config events ++ t) (sym text);
          stops = ap (λ (o : Option UmEnd). option_map cause_of o) ended ∙ sym some;
          goes = λ none. absurd (let clash : None ≡ Some (cause_of end) = sym none ∙ some in cc);
        }

-- ---- at the exits of the code

abbrev pub Shows : UmEvent → List UmLine → Option StopCause → Happening → Type 0
Shows event printed cause h = (h.text ≡ happens_text event ++ print printed) × (h.cause ≡ cause)

abbrev pub Comes : UmConfig → UmEvent → UmWorldState → UmWorldState → Happening → Type 0
Comes config event old new h = (events : List UmEvent) → HasRun config old events → IsApplied (um_meaning config) (HasRun config new) events event h

module _ (config : UmConfig) (event : UmEvent) (old new : UmWorldState) (printed : List UmLine) where
  pub event_passes : (result : Result Happening Memory) → IfOk result (Shows event printed None) → IsAppliedTo event old new (Ok printed)
      → IfOk result (Comes config event old new)
  event_passes (Ok h) shows is = λ events r. goes_on config events event old r new printed h shows.0 is shows.1
  event_passes (Err e) shows is = tt

  event_ends : (end : UmEnd) (result : Result Happening Memory) → IfOk result (Shows event printed (Some (cause_of end)))
      → IsEnding event old new end printed → IfOk result (Comes config event old new)
  event_ends end (Ok h) shows is = λ events r. stops_in config events event old r new printed h shows.0 end is shows.1
  event_ends end (Err e) shows is = tt

  pub event_outstanding : (stop : UmStop) (far window : ℕ) (result : Result Happening Memory) → stop ≡ stop_variants.Outstanding far window printed
      → IsAppliedTo event old new (Err stop) → IfOk result (Shows event printed (Some Outstanding)) → IfOk result (Comes config event old new)
  event_outstanding stop far window result e is shows =
      event_ends (ends.Outstanding far window) result shows (subst (λ (s : UmStop). IsAppliedTo event old new (Err s)) e is).0

  pub event_spends : (stop : UmStop) (counter : ℕ) (result : Result Happening Memory) → stop ≡ stop_variants.Spent counter printed
      → IsAppliedTo event old new (Err stop) → IfOk result (Shows event printed (Some (Spent counter))) → IfOk result (Comes config event old new)
  event_spends stop counter result e is shows =
      event_ends (ends.Spent counter) result shows (subst (λ (s : UmStop). IsAppliedTo event old new (Err s)) e is).0

pub begins : (config : UmConfig) (result : Result UmWorldState Memory) → IfOk result (λ run. run ≡ new_world config.sn config.ticks)
    → IfOk result (λ run. HasRun config run [])
begins config (Ok run) is = record {
  same = is ∙ ap (λ (s : UmScript). world_of config s) (sym (run_begins config));
  goes = ap (λ (s : UmScript). s.ended) (run_begins config);
}
begins config (Err e) is = tt
