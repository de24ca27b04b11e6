-- A run whose lines are local, whatever messages are, and whose messages are of their interfaces, is local with these.
use Rattle.std.proofs.Common.{◌≡◌, Bool, true, List, [], ◌∷◌, ◌++◌, map, Option, Some, None, refl, subst, get_or}
use Rattle.std.specs.List.{AllByRecursion}
use Rattle.gnb_types.specs.declared.names.NodeId.{NodeId}
use Rattle.message_types.specs.declared.rrc.Token.{Token}
use Rattle.scenario_text.specs.declared.event.Event.{Event}
use Rattle.unit_defs.specs.Ways.{Message}
use Rattle.run_defs.specs.Lines.{RunLine, put_message}
use Rattle.run_defs.specs.States.{Lengths, RunStep}
use Rattle.run_defs.specs.Runs.{Reading, Happened, Run}
use Rattle.run_defs.specs.Local.{Act, IsLocalLine, IsLocalBy, LocalFrom, acts_of_event, acts_of, sn_in, Local}
use Rattle.intervals.proofs.Intervals.{all_append}
use Rattle.law_units_act_locally.specs.local.Offered.{OffersHaveOctets}
use Rattle.law_units_act_locally.proofs.local.Whole.{all_of, whole_local}
use Rattle.law_units_act_locally.specs.cu_cp_interfaces.Interfaces.{IsOf}
use Rattle.law_units_act_locally.specs.run_interfaces.Lines.{IsLineOf, IsStepOf, AreOf}
use Rattle.law_units_act_locally.proofs.run_interfaces.Runs.{run_is_of}

abbrev Said : Type 0
Said = Message Token

abbrev Told : Type 0
Told = Act Said

-- whatever a message is
abbrev Any : NodeId → NodeId → Said → Type 0
Any from to message = true ≡ true

module _ (L : Lengths) (IsSpelled : NodeId → NodeId → Said → Type 0)
    (spelled : (from to : NodeId) (message : Said) → IsOf from to message → IsSpelled from to message) where
  abbrev Whole : NodeId → NodeId → Said → Type 0
  Whole from to message = IsOf from to message × IsSpelled from to message

  line_whole : (acts : List Told) (actor : NodeId) (line : RunLine Said) → IsLocalLine L Any acts actor line → IsLineOf line
      → IsLocalLine L Whole acts actor line
  line_whole acts actor (put_message number l) p q =
      let is : IsOf actor l.to l.message =
      subst (λ (n : NodeId). IsOf n l.to l.message) p.0 q in (p.0, (is, spelled actor l.to l.message is))
  line_whole acts actor line p q = p

  step_whole : (acts : List Told) (actor : Option NodeId) (lines : List (RunLine Said)) → IsLocalBy L Any acts actor lines
      → AllByRecursion IsLineOf lines
      → IsLocalBy L Whole acts actor lines
  step_whole acts None lines p q = p
  step_whole acts (Some actor) lines p q = λ k d low. line_whole acts actor (get_or lines k d) (p k d low) (all_of IsLineOf lines q k d low)

  from_whole : (past acts : List Told) → LocalFrom L Any past acts → AllByRecursion (λ (act : Told). IsStepOf act.step) acts
      → LocalFrom L Whole past acts
  from_whole past [] p q = tt
  from_whole past (act ∷ acts) p q = (
    step_whole (past ++ act ∷ []) act.step.actor act.step.lines p.0 q.0,
    from_whole (past ++ act ∷ []) acts p.1 q.1,
  )

steps_of : (event : Event) (was : Bool) (steps : List (RunStep Said)) → AllByRecursion IsStepOf steps
    → AllByRecursion (λ (act : Told). IsStepOf act.step)
    (map (λ (step : RunStep Said). record { event = event; refused = was; step = step }) steps)
steps_of event was [] all = tt
steps_of event was (step ∷ steps) all = (all.0, steps_of event was steps all.1)

acts_are : (happened : List (Happened Said)) → AreOf happened → AllByRecursion (λ (act : Told). IsStepOf act.step) (acts_of happened)
acts_are [] all = tt
acts_are (h ∷ happened) all =
    all_append (λ (act : Told). IsStepOf act.step) (acts_of_event h) (acts_of happened) (steps_of h.event _ h.steps all.0)
    (acts_are happened all.1)

pub local_on_interfaces : (reading : Reading) (script : List Event) (is_spelled : NodeId → NodeId → Said → Bool) → OffersHaveOctets script
    → ((from to : NodeId) (message : Said) → IsOf from to message → is_spelled from to message ≡ true)
    → Local (λ from to message. IsOf from to message × (is_spelled from to message ≡ true)) (Run reading script).events
local_on_interfaces reading script is_spelled octets spelled =
    let happened : List (Happened Said) = (Run reading script).events in
    from_whole (sn_in happened) (λ from to message. is_spelled from to message ≡ true) spelled [] (acts_of happened)
    (whole_local reading script (λ from to message. true) octets (λ from to message. refl)) (acts_are happened (run_is_of reading script))
