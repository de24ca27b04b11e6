-- A release, by which CU-CP lets the terminal go.
use Rattle.std.proofs.Common.{◌≡◌, Bool, true, false, not, if◌then◌else◌, List, [], ◌∷◌, ◌++◌, None, refl, sym, ◌∙◌, ap, subst}
use Rattle.std.specs.Prelude.{Result, Ok, Err}
use Rattle.gnb_types.specs.declared.names.Gnb.{Gnb}
use Rattle.gnb_types.specs.declared.names.NodeId.TheVariants.{CuCp}
use Rattle.gnb_types.specs.declared.names.UeId.{UeId}
use Rattle.gnb_types.specs.declared.inputs.Order.TheVariants as orders
use Rattle.gnb_types.specs.declared.reasons.RefuseReason.{RefuseReason}
use Rattle.gnb_types.specs.declared.reasons.RefuseReason.TheVariants.{NoUe, Busy}
use Rattle.scenario_text.specs.declared.line.OutLine.{OutLine}
use Rattle.scenario_text.specs.declared.line.OutLine.TheVariants as outs
use Rattle.run_defs.specs.States.{order_for, refused, is_attached}
use Rattle.run_defs.specs.Steps.{does, ordered_by}
use Rattle.run_defs.specs.Conditions.{serving_gnb, is_busy_with}
use Rattle.run_defs.specs.Events.{leaves, release}
use Rattle.run_links.specs.Networks.{OctetWorld, OctetState, OctetOutcome}
use Rattle.world_steps.specs.declared.asked.Moved.{Moved}
use Rattle.world_steps.specs.declared.cause.Cause.{Cause}
use Rattle.world_steps.specs.Gives.{EventGives, stop_by}
use Rattle.world_steps.specs.Moves.{OctetDone, StepOutcome, refused_lines}
use Rattle.world_steps.proofs.Shown.{shows_refused, refused_stops}
use Rattle.world_events.specs.orders.Orders.{releaser_of}

-- what the order to that CU-CP comes to, once the terminal is gone
abbrev pub gone_by : OctetWorld → UeId → OctetState → Gnb → OctetDone
gone_by world ue s gnb = does world (CuCp gnb) (order_for (orders.Release ue)) None (leaves world ue) s

abbrev released : OctetWorld → UeId → OctetState → Result Gnb RefuseReason → OctetOutcome
released world ue s (Ok gnb) = ordered_by world s (gone_by world ue s gnb)
released world ue s (Err reason) = refused reason s

release_is : (world : OctetWorld) (ue : UeId) (s : OctetState) → release world ue s ≡ released world ue s (releaser_of s ue)
unfolding release
release_is world ue s = by (is_attached s ue) (is_busy_with s ue)
  where
    by : (there busy : Bool)
        → (if not there then refused NoUe s else (if busy then refused Busy s else ordered_by world s (gone_by world ue s (serving_gnb s ue))))
        ≡ released world ue s (if not there then Err NoUe else (if busy then Err Busy else Ok (serving_gnb s ue)))
    by false busy = refl
    by true true = refl
    by true false = refl

release_by : (world : OctetWorld) (ue : UeId) (s : OctetState) (by : Result Gnb RefuseReason) → by ≡ releaser_of s ue
    → release world ue s ≡ released world ue s by
release_by world ue s by h = release_is world ue s ∙ ap (released world ue s) (sym h)

pub release_refuses : (world : OctetWorld) (ue : UeId) (s : OctetState) (reason : RefuseReason) (before lines : List OutLine)
    → Err reason ≡ releaser_of s ue → lines ≡ before ++ outs.Refused reason ∷ [] → EventGives before (release world ue s) lines s (Ok tt)
release_refuses world ue s reason before lines h told =
    subst (λ (o : OctetOutcome). EventGives before o lines s (Ok tt)) (sym (release_by world ue s (Err reason) h)) (told, refl)

pub release_moves : (world : OctetWorld) (ue : UeId) (s t : OctetState) (gnb : Gnb) (moved : Moved) (before middle lines : List OutLine)
    → Ok gnb ≡ releaser_of s ue
    → StepOutcome (gone_by world ue s gnb) (record { state = s; lines = before }) (record { state = t; lines = middle }) (Ok moved)
    → lines ≡ middle ++ refused_lines moved → EventGives before (release world ue s) lines t (Ok tt)
release_moves world ue s t gnb moved before middle lines h gives told =
    subst (λ (o : OctetOutcome). EventGives before o lines t (Ok tt)) (sym (release_by world ue s (Ok gnb) h))
    (shows_refused world s t (gone_by world ue s gnb) moved before middle lines gives told)

pub release_stops : (world : OctetWorld) (ue : UeId) (s t : OctetState) (gnb : Gnb) (cause : Cause) (before lines : List OutLine)
    → Ok gnb ≡ releaser_of s ue
    → StepOutcome (gone_by world ue s gnb) (record { state = s; lines = before }) (record { state = t; lines = lines }) (Err cause)
    → EventGives before (release world ue s) lines t (Err cause)
release_stops world ue s t gnb cause before lines h gives =
    subst (λ (o : OctetOutcome). EventGives before o lines t (Err cause)) (sym (release_by world ue s (Ok gnb) h))
    (refused_stops world s t (gone_by world ue s gnb) (stop_by cause) before lines gives)
