-- An attach, by whether it is begun.
use Rattle.std.proofs.Common.{◌≡◌, Bool, true, false, not, if◌then◌else◌, List, [], ◌∷◌, ◌++◌, Option, Some, None, refl, sym, ◌∙◌, ap, subst}
use Rattle.std.specs.Prelude.{Ok, Err}
use Rattle.gnb_types.specs.declared.names.NodeId.TheVariants.{CuCp}
use Rattle.gnb_types.specs.declared.plans.Plan.{Plan}
use Rattle.gnb_types.specs.declared.inputs.Order.TheVariants as orders
use Rattle.gnb_types.specs.declared.reasons.RefuseReason.{RefuseReason}
use Rattle.gnb_types.specs.declared.reasons.RefuseReason.TheVariants.{Attached, NotStarted}
use Rattle.scenario_text.specs.declared.line.OutLine.{OutLine}
use Rattle.scenario_text.specs.declared.line.OutLine.TheVariants as outs
use Rattle.run_defs.specs.States.{order_for, refused, was_attached}
use Rattle.run_defs.specs.Steps.{does, ordered_by}
use Rattle.run_defs.specs.Conditions.{has_started}
use Rattle.run_defs.specs.Events.{with_terminal, attach}
use Rattle.run_links.specs.Networks.{OctetWorld, OctetState, OctetOutcome}
use Rattle.world_steps.specs.declared.asked.Moved.{Moved}
use Rattle.world_steps.specs.declared.cause.Cause.{Cause}
use Rattle.world_steps.specs.Gives.{EventGives, stop_by}
use Rattle.world_steps.specs.Moves.{OctetDone, StepOutcome, refused_lines}
use Rattle.world_steps.proofs.Shown.{shows_refused, refused_stops}
use Rattle.world_events.specs.attaches.Comings.{attach_refusal}

-- what the order to the CU-CP comes to
abbrev pub begun : OctetWorld → Plan → OctetState → OctetDone
begun world plan s = does world (CuCp plan.gnb) (order_for (orders.Attach plan)) None (with_terminal world plan) s

abbrev attached : OctetWorld → Plan → OctetState → Option RefuseReason → OctetOutcome
attached world plan s None = ordered_by world s (begun world plan s)
attached world plan s (Some reason) = refused reason s

attach_is : (world : OctetWorld) (plan : Plan) (s : OctetState) → attach world plan s ≡ attached world plan s (attach_refusal plan s)
unfolding attach
attach_is world plan s = by (was_attached s plan.ue) (has_started plan s)
  where
    by : (there started : Bool)
        → (if there then refused Attached s else (if not started then refused NotStarted s else ordered_by world s (begun world plan s)))
        ≡ attached world plan s (if there then Some Attached else (if not started then Some NotStarted else None))
    by true started = refl
    by false true = refl
    by false false = refl

attach_by : (world : OctetWorld) (plan : Plan) (s : OctetState) (by : Option RefuseReason) → by ≡ attach_refusal plan s
    → attach world plan s ≡ attached world plan s by
attach_by world plan s by h = attach_is world plan s ∙ ap (attached world plan s) (sym h)

pub attach_refuses : (world : OctetWorld) (plan : Plan) (s : OctetState) (reason : RefuseReason) (before lines : List OutLine)
    → Some reason ≡ attach_refusal plan s → lines ≡ before ++ outs.Refused reason ∷ [] → EventGives before (attach world plan s) lines s (Ok tt)
attach_refuses world plan s reason before lines h told =
    subst (λ (o : OctetOutcome). EventGives before o lines s (Ok tt)) (sym (attach_by world plan s (Some reason) h)) (told, refl)

pub attach_moves : (world : OctetWorld) (plan : Plan) (s t : OctetState) (moved : Moved) (before middle lines : List OutLine)
    → None ≡ attach_refusal plan s
    → StepOutcome (begun world plan s) (record { state = s; lines = before }) (record { state = t; lines = middle }) (Ok moved)
    → lines ≡ middle ++ refused_lines moved → EventGives before (attach world plan s) lines t (Ok tt)
attach_moves world plan s t moved before middle lines h gives told =
    subst (λ (o : OctetOutcome). EventGives before o lines t (Ok tt)) (sym (attach_by world plan s None h))
    (shows_refused world s t (begun world plan s) moved before middle lines gives told)

pub attach_stops : (world : OctetWorld) (plan : Plan) (s t : OctetState) (cause : Cause) (before lines : List OutLine)
    → None ≡ attach_refusal plan s
    → StepOutcome (begun world plan s) (record { state = s; lines = before }) (record { state = t; lines = lines }) (Err cause)
    → EventGives before (attach world plan s) lines t (Err cause)
attach_stops world plan s t cause before lines h gives =
    subst (λ (o : OctetOutcome). EventGives before o lines t (Err cause)) (sym (attach_by world plan s None h))
    (refused_stops world s t (begun world plan s) (stop_by cause) before lines gives)
