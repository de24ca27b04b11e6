-- Each of some nodes has its turn, in order; and which nodes have a tick.
use Rattle.std.proofs.Common.{◌≡◌, ◌==◌, ℕ, ◌+◌, ◌<◌, ◌≤◌, Bool, true, false, if◌then◌else◌, List, [], ◌∷◌, ◌++◌, length, drop, get_or, drop-cons, add-one, refl, sym, ap, subst}
use Rattle.std.specs.Prelude.{Result, Ok, Err}
use Rattle.std.specs.List.{list_any}
use Rattle.std.specs.Map.{keys_of}
use Rattle.std.proofs.Math.ListN.{drop_of_length-le}
use Rattle.std.proofs.lemmas.List.Folds.{flat_map-map}
use Rattle.gnb_types.specs.declared.names.Gnb.TheVariants.{A}
use Rattle.gnb_types.specs.declared.names.NodeId.{NodeId}
use Rattle.gnb_types.specs.declared.names.NodeId.TheVariants.{CuCp, Ue}
use Rattle.gnb_types.specs.declared.names.UeId.{UeId}
use Rattle.gnb_types.specs.declared.inputs.Order.TheVariants as orders
use Rattle.gnb_types.specs.declared.reasons.RefuseReason.TheVariants as reasons
use Rattle.scenario_text.specs.declared.line.OutLine.{OutLine}
use Rattle.scenario_text.specs.declared.line.OutLine.TheVariants as outs
use Rattle.unit_defs.specs.Ue.{UeNode}
use Rattle.run_defs.specs.States.{order_for, tick_for, refused}
use Rattle.run_defs.specs.Steps.{step}
use Rattle.run_defs.specs.Units.{starting_nodes, gnb_nodes}
use Rattle.run_defs.specs.Conditions.{ticking}
use Rattle.run_defs.specs.Events.{order_each, start, tick}
use Rattle.run_links.specs.Networks.{OctetState, OctetWorld, OctetOutcome}
use Rattle.run_links.specs.Told.{EndsAt}
use Rattle.world_steps.specs.declared.cause.Cause.{Cause}
use Rattle.world_steps.specs.Gives.{EventGives}
use Rattle.world_steps.specs.control_messages.Turns.{nodes_there}
use Rattle.world_steps.proofs.Following.{then_event, first_stops, nothing_more}

-- the first of what is left, and that nothing is left
pub first_of : (nodes : List NodeId) (i : ℕ) → i < length nodes → drop i nodes ≡ get_or nodes i (CuCp A) ∷ drop (i + 1) nodes
first_of nodes i h = rw add-one (drop-cons nodes i (CuCp A) h)

pub none_of : (nodes : List NodeId) (i : ℕ) → length nodes ≤ i → drop i nodes ≡ []
none_of nodes i h = drop_of_length-le nodes h

-- ---- each has its turn

module _ (world : OctetWorld) (f : NodeId → OctetState → OctetOutcome) where
  pub each_none : (nodes : List NodeId) (s : OctetState) (lines : List OutLine) → nodes ≡ []
      → EventGives lines (order_each world f nodes s) lines s (Ok tt)
  each_none nodes s lines is =
      subst (λ (l : List NodeId). EventGives lines (order_each world f l s) lines s (Ok tt)) (sym is) (nothing_more lines s)

  pub each_one : (all nodes : List NodeId) (node : NodeId) (s t u : OctetState) (before middle lines : List OutLine)
      (result : Result (Unit {0}) Cause) → all ≡ node ∷ nodes → EndsAt before (f node s) middle t
      → EventGives middle (order_each world f nodes t) lines u result → EventGives before (order_each world f all s) lines u result
  each_one all nodes node s t u before middle lines result is h k =
      subst (λ (l : List NodeId). EventGives before (order_each world f l s) lines u result) (sym is)
      (then_event (f node s) (order_each world f nodes) before middle lines t u result h k)

  pub each_stops : (all nodes : List NodeId) (node : NodeId) (s t : OctetState) (before lines : List OutLine) (cause : Cause)
      → all ≡ node ∷ nodes → EventGives before (f node s) lines t (Err cause) → EventGives before (order_each world f all s) lines t (Err cause)
  each_stops all nodes node s t before lines cause is h =
      subst (λ (l : List NodeId). EventGives before (order_each world f l s) lines t (Err cause)) (sym is)
      (first_stops (f node s) (order_each world f nodes) before lines t t cause h)

-- ---- the nodes that have a tick

pub ticking_is : (s : OctetState) → gnb_nodes ++ nodes_there s.gone (keys_of s.units.ues) ≡ ticking s
ticking_is s =
    ap (λ (l : List NodeId). gnb_nodes ++ l)
    (flat_map-map (λ (ue : UeId). if list_any (λ u. u.0 == ue.0) s.gone then [] else Ue ue.0 ∷ []) (λ (e : UeId × UeNode). e.0) s.units.ues)

-- ---- the events

pub starts_again : (world : OctetWorld) (s : OctetState) (before lines : List OutLine) → s.started ≡ true
    → lines ≡ before ++ outs.Refused reasons.Busy ∷ [] → EventGives before (start world s) lines s (Ok tt)
unfolding start
starts_again world s before lines is told =
    subst (λ (b : Bool). EventGives before (if b then refused reasons.Busy s else
    order_each world (λ node. step world node (order_for orders.Start)) starting_nodes (record s { started = true })) lines s (Ok tt)) (sym is)
    (told, refl)

pub starts : (world : OctetWorld) (s u t : OctetState) (nodes : List NodeId) (before lines : List OutLine) (result : Result (Unit {0}) Cause)
    → s.started ≡ false → u ≡ record s { started = true } → nodes ≡ starting_nodes
    → EventGives before (order_each world (λ node. step world node (order_for orders.Start)) nodes u) lines t result
    → EventGives before (start world s) lines t result
unfolding start
starts world s u t nodes before lines result is same these h =
    let all : OctetState → List NodeId → OctetOutcome = λ x ns. order_each world (λ node. step world node (order_for orders.Start)) ns x in
    subst (λ (b : Bool). EventGives before (if b then refused reasons.Busy s else all (record s { started = true }) starting_nodes) lines t result)
    (sym is)
    (subst (λ (x : OctetState). EventGives before (all x starting_nodes) lines t result) same
    (subst (λ (ns : List NodeId). EventGives before (all u ns) lines t result) these h))

pub ticks : (world : OctetWorld) (s t : OctetState) (nodes : List NodeId) (before lines : List OutLine) (result : Result (Unit {0}) Cause)
    → nodes ≡ ticking s → EventGives before (order_each world (λ node. step world node tick_for) nodes s) lines t result
    → EventGives before (tick world s) lines t result
unfolding tick
ticks world s t nodes before lines result these h =
    subst (λ (ns : List NodeId). EventGives before (order_each world (λ node. step world node tick_for) ns s) lines t result) these h
