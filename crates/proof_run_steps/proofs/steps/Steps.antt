-- What an input comes to, and how outcomes are joined.
use Rattle.std.proofs.Common.{◌≡◌, Bool, true, false, List, [], ◌∷◌, Some, None, refl}
use Rattle.std.specs.Prelude.{if◌then◌else◌}
use Rattle.gnb_types.specs.declared.names.NodeId.{NodeId}
use Rattle.gnb_types.specs.declared.inputs.Order.{Order}
use Rattle.gnb_types.specs.declared.reasons.RefuseReason.{RefuseReason}
use Rattle.scenario_text.specs.declared.event.Event.{Event}
use Rattle.unit_defs.specs.Ways.{Put, held, no}
use Rattle.run_defs.specs.Lines.{was_refused}
use Rattle.run_defs.specs.Units.{Units}
use Rattle.run_defs.specs.States.{State, Stepped, stepped, step_spent, World, sn_of, spent_counter, stops, goes_on, Outcome, as_step, refused, order_for}
use Rattle.run_defs.specs.Steps.{control_messages_spent, too_many_control_messages, Done, is_done, is_held, is_refused, carried_out, done_with, does, ordered_by, step}
use Rattle.proof_run_steps.specs.steps.Causes.{Cause, by_order, node_of, given_of, count_of, first_of, IsNoAttach, Stands}
use Rattle.proof_run_steps.specs.steps.IsOutcome.{IsDone, IsOutcome, stays, ends, acts, remarks}

module _ {M C L P : Type 0} (world : World M C L P) (event : Event) where
  abbrev pub Keeps : (State M C L P → Outcome M C L P) → Type 0
  Keeps f = (s : State M C L P) → IsOutcome world event s (f s)

  pub goes_refused : (reason : RefuseReason) → Keeps (refused reason)
  goes_refused reason s = remarks s (was_refused reason ∷ []) (tt, tt)

  pub choose : (s : State M C L P) (t : Bool) (a b : Outcome M C L P) → (t ≡ true → IsOutcome world event s a) → (t ≡ false → IsOutcome world event s b)
      → IsOutcome world event s (if t then a else b)
  choose s true a b p q = p refl
  choose s false a b p q = q refl

  -- ---- what an input comes to

  abbrev pub DoneMade : State M C L P → Done M C L P → Type 0
  DoneMade s (is_done outcome) = IsOutcome world event s outcome
  DoneMade s (is_held reason) = Unit {0}
  DoneMade s (is_refused reason) = Unit {0}

  module _ (cause : Cause M L P) (s : State M C L P) (stands : Stands event s cause) where
    if_few : (outputs : List (Put M L P)) (units : Units M C) → world.answer (sn_of s) s.units (node_of cause) (given_of cause) ≡ stepped outputs units
        → IsDone outputs → (t : Bool) → too_many_control_messages world outputs s ≡ t
        → DoneMade s (if t then is_done (stops [] (spent_counter control_messages_spent))
        else is_done (as_step (Some (node_of cause)) (carried_out world (node_of cause) (count_of cause) (first_of world cause) outputs units s)))
    if_few outputs units is fine true many = ends s (spent_counter control_messages_spent)
    if_few outputs units is fine false few = acts s cause outputs units stands is fine few

    made_done : (answer : Stepped M C L P) → world.answer (sn_of s) s.units (node_of cause) (given_of cause) ≡ answer
        → DoneMade s (done_with world (node_of cause) (count_of cause) (first_of world cause) s answer)
    made_done (stepped (held reason ∷ []) units) is = tt
    made_done (stepped (no reason ∷ []) units) is = tt
    made_done (stepped outputs units) is = if_few outputs units is tt (too_many_control_messages world outputs s) refl
    made_done (step_spent counter) is = ends s (spent_counter counter)

    pub goes_does : DoneMade s (does world (node_of cause) (given_of cause) (count_of cause) (first_of world cause) s)
    unfolding does
    goes_does = made_done (world.answer (sn_of s) s.units (node_of cause) (given_of cause)) refl

  pub goes_ordered : (s : State M C L P) (d : Done M C L P) → DoneMade s d → IsOutcome world event s (ordered_by world s d)
  goes_ordered s (is_done outcome) p = p
  goes_ordered s (is_held reason) p = stays s
  goes_ordered s (is_refused reason) p = goes_refused reason s

  pub goes_order : (node : NodeId) (order : Order) → IsNoAttach order → Keeps (step world node (order_for order))
  unfolding step
  goes_order node order other s = goes_ordered s (does world node (order_for order) None goes_on s) (goes_does (by_order node order) s other)
