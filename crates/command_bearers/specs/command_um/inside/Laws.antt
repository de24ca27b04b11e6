-- Internal: a run begins with nothing, takes event by event, and once it stopped it stays so.
use Rattle.std.proofs.Common.{◌≡◌, List, [], ◌∷◌, ◌++◌, Option, Some, None, refl, ap, ◌∙◌}
use Rattle.std.proofs.lemmas.List.Sums.{fold-append}
use Rattle.std.specs.Option.{option_map}
use Rattle.um_defs.specs.declared.types.event.UmEvent.{UmEvent}
use Rattle.um_defs.specs.declared.types.stop.UmEnd.{UmEnd}
use Rattle.um_defs.specs.um_run_defs.Script.{UmScript, new_script, with_event, with_event_at, script_of}
use Rattle.command_bearers.specs.declared.command_um.config.UmConfig.{UmConfig}
use Rattle.command_bearers.specs.declared.script_word.end.StopCause.{StopCause}
use Rattle.command_bearers.specs.command_um.Run.{run_of, script_text, cause_of, um_meaning}
use Rattle.command_bearers.specs.script_word.Meaning.{IsLawful}

pub run_more : (config : UmConfig) (events : List UmEvent) (event : UmEvent)
    → run_of config (events ++ event ∷ []) ≡ with_event config.sn config.ticks (run_of config events) event
unfolding script_of
run_more config events event = fold-append (with_event config.sn config.ticks) new_script events (event ∷ [])

no_text : (config : UmConfig) → script_text config [] ≡ []
unfolding script_of
no_text config = refl

pub run_begins : (config : UmConfig) → run_of config [] ≡ new_script
unfolding script_of
run_begins config = refl

module _ (config : UmConfig) (events : List UmEvent) (event : UmEvent) (cause : StopCause) where
  stays_by : (o : Option UmEnd) → (run_of config events).ended ≡ o → option_map cause_of o ≡ Some cause
      → option_map cause_of (with_event_at config.sn config.ticks (run_of config events) event o).ended ≡ Some cause
  stays_by None e h = absurd (let clash : None ≡ Some cause = h in cc)
  stays_by (Some end) e h = ap (λ (o : Option UmEnd). option_map cause_of o) e ∙ h

  stays : (um_meaning config).stopped events ≡ Some cause → (um_meaning config).stopped (events ++ event ∷ []) ≡ Some cause
  stays h =
      ap (λ (s : UmScript). option_map cause_of s.ended) (run_more config events event)
      ∙ stays_by (run_of config events).ended refl h

pub um_lawful : (config : UmConfig) → IsLawful (um_meaning config)
um_lawful config = record {
  no_text = no_text config;
  goes_first = ap (λ (s : UmScript). option_map cause_of s.ended) (run_begins config);
  stays = stays config;
}
