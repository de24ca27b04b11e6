-- Steps that are no business of a terminal leave its whole projection.
use Rattle.std.proofs.Common.{◌≡◌, true, List, [], Option, Some, None, refl, sym, subst}
use Rattle.std.proofs.lemmas.Bool.{or_parts}
use Rattle.std.specs.Prelude.{◌≢◌}
use Rattle.gnb_types.specs.declared.names.NodeId.{NodeId}
use Rattle.gnb_types.specs.declared.names.UeId.{UeId}
use Rattle.message_types.specs.declared.rrc.Token.{Token}
use Rattle.scenario_text.specs.declared.event.Event.{Event}
use Rattle.unit_defs.specs.Ways.{Message, Pdu, Load}
use Rattle.run_defs.specs.Lines.{RunLine}
use Rattle.run_defs.specs.Units.{Units}
use Rattle.run_defs.specs.Written.{Written}
use Rattle.run_defs.specs.States.{goes, stops, told_before, ◌next◌, goes_on, Within, as_step, RunStep, was_attached}
use Rattle.run_defs.specs.Steps.{carried_out}
use Rattle.run_defs.specs.Conditions.{statically}
use Rattle.run_defs.specs.Runs.{Reading, plain_world}
use Rattle.proof_run_steps.specs.steps.Causes.{node_of, given_of, count_of, first_of}
use Rattle.proof_run_steps.specs.steps.IsOutcome.{IsOutcome, stays, ends, then_made, sets_up, starts, acts, holds_item, holds_pdu, offers, core_takes, core_reads, lands, loses_control_message, loses_item, remarks}
use Rattle.law_terminals_are_isolated.specs.projections.Projections.{message_ue}
use Rattle.law_terminals_are_isolated.specs.run_projections.Units.{given_ue}
use Rattle.law_terminals_are_isolated.specs.own_steps.Own.{IsActed}
use Rattle.law_terminals_are_isolated.proofs.own_steps.Leaves.{act_leaves}
use Rattle.law_terminals_are_isolated.specs.own_events.Events.{RunState, RunOutcome, AllFor}
use Rattle.law_terminals_are_isolated.proofs.own_events.Leaves.{LeavesAt, made_leaves}
use Rattle.law_terminals_are_isolated.specs.all_steps.Projections.{ShareProjection}
use Rattle.law_terminals_are_isolated.specs.all_steps.Steps.{AfterSteps, one_more, IsNotFor, NoneFor}
use Rattle.law_terminals_are_isolated.proofs.all_steps.Paths.{sound_on}
use Rattle.law_terminals_are_isolated.proofs.all_steps.Nones.{RunCause, RunPuts, next_ue, differs, another, none_leaves}
use Rattle.law_terminals_are_isolated.proofs.all_steps.Statics.{static_leaves}
use Rattle.law_terminals_are_isolated.proofs.all_steps.Shared.{share_same, share_then, share_left}

module _ (reading : Reading) (ue : UeId) where
  abbrev pub SharesAt : RunState → RunOutcome → Type 0
  SharesAt s (goes told t) = ShareProjection ue s t
  SharesAt s (stops told why) = Unit {0}

  abbrev After : RunState → Type 0
  After s = AfterSteps reading s

  then_shares : (s : RunState) (d : RunOutcome) (more : RunState → RunOutcome) → SharesAt s d
      → ((x : RunState) (told : List (RunStep (Message Token))) → d ≡ goes told x → SharesAt x (more x)) → SharesAt s (d next more)
  then_shares s (goes told x) more p q = by (more x) (q x told refl)
    where
      by : (e : RunOutcome) → SharesAt x e → SharesAt s (told_before told e)
      by (goes more_told t) h = share_then ue s x t p h
      by (stops more_told why) h = tt
  then_shares s (stops told why) more p q = tt

  from_left : (who : UeId) (s : RunState) (e : RunOutcome) → ue ≢ who → LeavesAt reading who s e → SharesAt s e
  from_left who s (goes told t) apart h = share_left ue who s t apart h
  from_left who s (stops told why) apart h = tt

  -- a step that is another terminal's alone
  anothers : (who : UeId) (event : Event) (s : RunState) (e : RunOutcome) (made : IsOutcome (plain_world reading) event s e) → After s → ue ≢ who
      → AllFor reading event who s e made → SharesAt s e
  anothers who event s e made after apart all =
      from_left who s e apart
      (made_leaves reading who (AfterSteps reading) (sound_on reading) event (one_more event) s e made after all)

  step_shares : (s : RunState) (actor : Option NodeId) (w : Within (Message Token) Token (Written (Load Pdu)) (Written Pdu))
      → ((lines : List (RunLine (Message Token))) (t : RunState) → w ≡ goes lines t → ShareProjection ue s t) → SharesAt s (as_step actor w)
  step_shares s actor (goes lines t) f = f lines t refl
  step_shares s actor (stops lines why) f = tt

  -- a step of a unit
  act_shares : (event : Event) (cause : RunCause) (outputs : RunPuts) (units : Units (Message Token) Token) (s t : RunState)
      (lines : List (RunLine (Message Token))) → After s → IsActed (plain_world reading) event s cause outputs units
      → (o : Option UeId) → given_ue reading s.units (node_of cause) (given_of cause) ≡ o → IsNotFor ue cause o
      → carried_out (plain_world reading) (node_of cause) (count_of cause) (first_of (plain_world reading) cause) outputs units s ≡ goes lines t
      → ShareProjection ue s t
  act_shares event cause outputs units s t lines after acted (Some who) is apart goes_so =
      share_left ue who s t (λ e. apart (sym e)) (act_leaves reading s (sound_on reading s after) who event cause outputs units t lines is acted goes_so)
  act_shares event cause outputs units s t lines after acted None is apart goes_so =
      let who = another ue (node_of cause) apart.1 in
      share_left ue who.0 s t who.1.1
      (none_leaves reading s (sound_on reading s after) who.0 event cause outputs units t lines acted apart.0 is who.1.0 goes_so)

  pub made_shares : (event : Event) (s : RunState) (e : RunOutcome) (made : IsOutcome (plain_world reading) event s e) → After s
      → NoneFor reading event ue s e made → SharesAt s e
  made_shares event s e (stays x) after none = share_same ue x
  made_shares event s e (ends x why) after none = tt
  made_shares event s e (then_made x d more p q) after none =
      then_shares x d more (made_shares event x d p after none.0)
      (λ y told ends_so. made_shares event y (more y) (q y)
      (one_more event x y told after (subst (λ (o : RunOutcome). IsOutcome (plain_world reading) event x o) ends_so p)) (none.1 y told ends_so))
  made_shares event s e (sets_up x plan is free room teids) after none =
      share_left ue plan.ue x (statically plan x) (λ e. none (sym e))
      (static_leaves plan x (or_parts (was_attached x plan.ue) _ free).1 teids (sound_on reading x after).owned)
  made_shares event s e (starts x d p) after none =
      let y : RunState = record x { started = true } in
      from_started x d (made_shares event y d p (one_more event x y [] after (starts x (goes_on y) (stays y))) none)
    where
      from_started : (x : RunState) (d : RunOutcome) → SharesAt (record x { started = true }) d → SharesAt x d
      from_started x (goes told t) h = record {
        units = h.units;
        tunnels = h.tunnels;
        core = h.core;
        control_messages = h.control_messages;
        items = h.items;
        radios = h.radios;
        books = h.books;
        connected = h.connected;
        plan = h.plan;
      }
      from_started x (stops told why) h = tt
  made_shares event s e (acts x cause outputs units at is fine few) after none =
      let world = plain_world reading in
      step_shares x (Some (node_of cause)) (carried_out world (node_of cause) (count_of cause) (first_of world cause) outputs units x)
      (λ lines y goes_so. act_shares event cause outputs units x y lines after (record { stands = at; answers = is; few = few })
      (given_ue reading x.units (node_of cause) (given_of cause)) refl none goes_so)
  made_shares event s e (holds_item x end reason) after none = share_same ue x
  made_shares event s e (holds_pdu x key home reason) after none = share_same ue x
  made_shares event s e (offers x who bearer p path is found) after none =
      anothers who event x _ (offers x who bearer p path is found) after (λ e. none (sym e)) refl
  made_shares event s e (core_takes x number l outputs core found at is few) after none =
      anothers (message_ue l.from l.message) event x _ (core_takes x number l outputs core found at is few) after (λ e. none (sym e)) refl
  made_shares event s e (core_reads x from octets outputs core is) after none =
      anothers (next_ue ue) event x _ (core_reads x from octets outputs core is) after (differs ue) tt
  made_shares event s e (lands x number l to found at) after none =
      anothers (next_ue ue) event x _ (lands x number l to found at) after (differs ue) tt
  made_shares event s e (loses_control_message x number) after none = anothers (next_ue ue) event x _ (loses_control_message x number) after (differs ue) tt
  made_shares event s e (loses_item x end item rest found) after none =
      anothers item.key.ue event x _ (loses_item x end item rest found) after (λ e. none (sym e)) refl
  made_shares event s e (remarks x lines plain) after none = share_same ue x
