-- Two worlds whose units answer alike wherever facts hold come from there to the same, and the facts go on to hold: outcomes, and
-- what an input comes to.
use Rattle.std.proofs.Common.{◌≡◌, ℕ, Bool, true, false, ◌&&◌, List, [], ◌∷◌, Option, Some, None, refl, ◌∙◌, ap, subst}
use Rattle.std.specs.Prelude.{if◌then◌else◌}
use Rattle.gnb_types.specs.declared.names.NodeId.{NodeId}
use Rattle.gnb_types.specs.declared.names.NodeId.TheVariants.{CuUp, Core}
use Rattle.gnb_types.specs.declared.names.UeId.{UeId}
use Rattle.gnb_types.specs.declared.names.BearerId.{BearerId}
use Rattle.gnb_types.specs.declared.names.Dir.TheVariants.{Dl}
use Rattle.gnb_types.specs.declared.inputs.Input.{Input}
use Rattle.gnb_types.specs.declared.inputs.Input.TheVariants as ins
use Rattle.gnb_types.specs.declared.inputs.Order.{Order}
use Rattle.gnb_types.specs.declared.plans.Plan.{Plan}
use Rattle.gnb_types.specs.declared.plans.Tunnel.{Tunnel}
use Rattle.gnb_types.specs.Orders.{ue_cmp}
use Rattle.tables.specs.Tables.{find, put}
use Rattle.scenario_text.specs.declared.event.Event.{Event}
use Rattle.scenario_text.specs.declared.event.Event.TheVariants as events
use Rattle.unit_defs.specs.Ways.{Put, held, no}
use Rattle.unit_defs.specs.Messages.{teid_of}
use Rattle.unit_defs.specs.Core.{CorePath, CoreRecord}
use Rattle.unit_defs.specs.Static.{cu_up_has_room, cu_up_has_teids, du_has_teids}
use Rattle.unit_defs.specs.Ue.{new_ue}
use Rattle.run_defs.specs.Units.{Units, cu_up_of, du_of, with_ue}
use Rattle.run_defs.specs.States.{State, Given, offer_for, order_for, octets_from, octets_on, Stepped, stepped, step_spent, core_stepped, World, Lengths, spent_counter, goes, stops, told_before, ◌next◌, goes_on, Outcome, as_step, entity, sn_of}
use Rattle.run_defs.specs.Steps.{control_messages_spent, too_many_control_messages, Done, is_done, is_held, is_refused, carried_out, done_with, does, ordered_by, step}
use Rattle.run_defs.specs.Conditions.{is_held_by_units, units_placed, all_set_up}
use Rattle.proof_run_steps.specs.steps.Causes.{Cause, IsNoAttach, by_order, by_attach, node_of, given_of, count_of, first_of, Stands}
use Rattle.proof_run_steps.specs.facts.Facts.{Facts, Hold, PutsFit, GivenFits}
use Rattle.proof_run_steps.proofs.facts.Within.{HoldsWith}
use Rattle.proof_run_steps.proofs.facts.Steps.{taken_has, act_holds}
use Rattle.proof_run_steps.proofs.facts.Runs.{step_holds}
use Rattle.law_octets_say_the_same.specs.units_follow.Ranges.{IsScripted}
use Rattle.law_octets_say_the_same.proofs.units_follow.Sames.{answered_by, same_many, same_carried}

-- what a script hands over by itself is in range
abbrev pub FromScript : {M L P : Type 0} → (NodeId → Input → Type 0) → NodeId → Given M L P → Type 0
FromScript input node (offer_for ue bearer p) = input node (ins.Offer ue bearer p)
FromScript input node (octets_from from octets) = input node (ins.Control from octets)
FromScript input node (octets_on teid octets) = input node (ins.Packet teid octets)
FromScript input node given = Unit {0}

-- a world, other answers of units, facts of the world, and the ranges of what a script hands over
pub record Two (M C L P : Type 0) : Type 1 where
  pub world : World M C L P
  pub answer : Lengths → Units M C → NodeId → Given M L P → Stepped M C L P
  pub facts : Facts M C L P
  pub input : NodeId → Input → Type 0
  pub packet : List ℕ → Type 0
  pub plan : Plan → Type 0

-- they answer alike where the facts hold, and the facts go on to hold
pub record SameThere {M C L P : Type 0} (two : Two M C L P) : Type 0 where
  pub answers : (lengths : Lengths) (u : Units M C) (node : NodeId) (taken : Option ℕ) (given : Given M L P) → two.facts.units u
      → GivenFits two.facts node taken given → FromScript two.input node given → two.world.answer lengths u node given ≡ two.answer lengths u node given
  pub keeps : (lengths : Lengths) (u v : Units M C) (node : NodeId) (taken : Option ℕ) (given : Given M L P) (outputs : List (Put M L P))
      → two.facts.units u → GivenFits two.facts node taken given → FromScript two.input node given
      → two.world.answer lengths u node given ≡ stepped outputs v → two.facts.units v × PutsFit two.facts node taken outputs
  pub comes : (u : Units M C) (plan : Plan) → two.plan plan → two.facts.units u → two.facts.units (with_ue u plan.ue (new_ue plan))
  pub placed : (u : Units M C) (plan : Plan) → two.plan plan → is_held_by_units plan u ≡ false → cu_up_has_room (cu_up_of u plan.gnb plan.up) plan ≡ true
      → cu_up_has_teids (cu_up_of u plan.gnb plan.up) plan && du_has_teids (du_of u plan.gnb plan.du) plan ≡ true
      → two.facts.units u → two.facts.units (all_set_up (units_placed plan u))
  pub core_answers : (lengths : Lengths) (r q : CoreRecord M C) (given : Given M L P) (outputs : List (Put M L P)) → two.facts.core r
      → GivenFits two.facts Core None given → FromScript two.input Core given → two.world.core_answer lengths r given ≡ core_stepped outputs q
      → two.facts.core q × PutsFit two.facts Core None outputs
  pub core_placed : (r : CoreRecord M C) (plan : Plan) → two.plan plan → (n3 : List Tunnel) → two.facts.core r
      → two.facts.core (record r { paths = put ue_cmp r.paths plan.ue (record { up = CuUp plan.gnb plan.up; n3 = n3 }) })
  pub lays : (r : CoreRecord M C) (ue : UeId) (bearer : BearerId) (p : List ℕ) (path : CorePath) → two.facts.core r → two.packet p
      → find ue_cmp r.paths ue ≡ Some path
      → two.facts.on_tunnel (record { node = path.up; teid = teid_of path.n3 bearer })
      (record { key = entity ue bearer Dl; count = None; content = two.world.lay_n3 (teid_of path.n3 bearer) p })
  pub uncounted : two.facts.counted → ⊥

module _ {M C L P : Type 0} (two : Two M C L P) where
  abbrev pub first : World M C L P
  first = two.world

  abbrev pub second : World M C L P
  second = answered_by two.world two.answer

  -- ---- the same, where the facts go on to hold

  abbrev pub Both : Outcome M C L P → Outcome M C L P → Type 0
  Both e d = (e ≡ d) × HoldsWith first two.facts 0 e

  abbrev pub BothKeep : (State M C L P → Outcome M C L P) → (State M C L P → Outcome M C L P) → Type 0
  BothKeep f g = (s : State M C L P) → Hold two.facts s → Both (f s) (g s)

  pub both_choose : (t : Bool) (a b c d : Outcome M C L P) → (t ≡ true → Both a c) → (t ≡ false → Both b d)
      → Both (if t then a else b) (if t then c else d)
  both_choose true a b c d p q = p refl
  both_choose false a b c d p q = q refl

  pub both_then : (e d : Outcome M C L P) (f g : State M C L P → Outcome M C L P) → Both e d → BothKeep f g → Both (e next f) (d next g)
  both_then (goes told t) d f g p q =
      subst (λ (x : Outcome M C L P). Both (told_before told (f t)) (x next g)) p.0
      (ap (λ (x : Outcome M C L P). told_before told x) (q t p.1).0, by (f t) (q t p.1).1)
    where
      by : (e : Outcome M C L P) → HoldsWith first two.facts 0 e → HoldsWith first two.facts 0 (told_before told e)
      by (goes more s) k = k
      by (stops more why) k = tt
  both_then (stops told why) d f g p q = subst (λ (x : Outcome M C L P). Both (stops told why) (x next g)) p.0 (refl, tt)

  -- ---- what an input comes to

  abbrev pub DoneHolds : Done M C L P → Type 0
  DoneHolds (is_done outcome) = HoldsWith first two.facts 0 outcome
  DoneHolds (is_held reason) = Unit {0}
  DoneHolds (is_refused reason) = Unit {0}

  abbrev pub BothDone : Done M C L P → Done M C L P → Type 0
  BothDone d c = (d ≡ c) × DoneHolds d

  pub both_by : (d c : Done M C L P) (f g : Done M C L P → Outcome M C L P) → BothDone d c → ((x : Done M C L P) → DoneHolds x → Both (f x) (g x))
      → Both (f d) (g c)
  both_by d c f g p q = subst (λ (x : Done M C L P). Both (f d) (g x)) p.0 (q d p.1)

  pub both_ordered : (s : State M C L P) → Hold two.facts s → (d c : Done M C L P) → BothDone d c → Both (ordered_by first s d) (ordered_by second s c)
  both_ordered s h d c p = both_by d c (ordered_by first s) (ordered_by second s) p by
    where
      by : (x : Done M C L P) → DoneHolds x → Both (ordered_by first s x) (ordered_by second s x)
      by (is_done outcome) k = (refl, k)
      by (is_held reason) k = (refl, h)
      by (is_refused reason) k = (refl, h)

  module _ (there : SameThere two) (event : Event) (known : IsScripted two.input two.packet two.plan event) where
    module _ (cause : Cause M L P) (s : State M C L P) (h : Hold two.facts s) (stands : Stands event s cause)
        (scripted : FromScript two.input (node_of cause) (given_of cause)) where
      -- a terminal that comes is that of the script
      of_script : (plan : Plan) → cause ≡ by_attach plan → two.plan plan
      of_script plan is =
          let attaches : event ≡ events.Attach plan = (subst (Stands event s) is stands).0 in subst (IsScripted two.input two.packet two.plan) attaches known

      if_few : (outputs : List (Put M L P)) (units : Units M C) → first.answer (sn_of s) s.units (node_of cause) (given_of cause) ≡ stepped outputs units
          → (t : Bool) → too_many_control_messages first outputs s ≡ t
          → DoneHolds (if t then is_done (stops [] (spent_counter control_messages_spent))
          else is_done (as_step (Some (node_of cause)) (carried_out first (node_of cause) (count_of cause) (first_of first cause) outputs units s)))
      if_few outputs units is true many = tt
      if_few outputs units is false few =
          let kept = there.keeps (sn_of s) s.units units (node_of cause) (count_of cause) (given_of cause) outputs h.units (taken_has first two.facts event cause s h stands)
          scripted is in
          step_holds first two.facts (Some (node_of cause)) _
          (act_holds first two.facts event cause outputs units s (λ plan by. there.comes units plan (of_script plan by) kept.0) h stands kept few)

      done_holds : (a : Stepped M C L P) → first.answer (sn_of s) s.units (node_of cause) (given_of cause) ≡ a
          → DoneHolds (done_with first (node_of cause) (count_of cause) (first_of first cause) s a)
      done_holds (stepped (held reason ∷ []) units) is = tt
      done_holds (stepped (no reason ∷ []) units) is = tt
      done_holds (stepped outputs units) is = if_few outputs units is (too_many_control_messages first outputs s) refl
      done_holds (step_spent counter) is = tt

      same_done : (a : Stepped M C L P) → done_with first (node_of cause) (count_of cause) (first_of first cause) s a
          ≡ done_with second (node_of cause) (count_of cause) (first_of second cause) s a
      same_done (stepped (held reason ∷ []) units) = refl
      same_done (stepped (no reason ∷ []) units) = refl
      same_done (stepped outputs units) =
          λ i. if same_many first two.answer outputs s i then is_done (stops [] (spent_counter control_messages_spent))
          else is_done (as_step (Some (node_of cause)) (same_carried first two.answer cause outputs units s i))
      same_done (step_spent counter) = refl

      pub both_does : BothDone (does first (node_of cause) (given_of cause) (count_of cause) (first_of first cause) s)
          (does second (node_of cause) (given_of cause) (count_of cause) (first_of second cause) s)
      unfolding does
      both_does = (
        same_done (first.answer (sn_of s) s.units (node_of cause) (given_of cause))
            ∙ ap (λ (a : Stepped M C L P). done_with second (node_of cause) (count_of cause) (first_of second cause) s a)
            (there.answers (sn_of s) s.units (node_of cause) (count_of cause) (given_of cause) h.units (taken_has first two.facts event cause s h stands) scripted),
        done_holds (first.answer (sn_of s) s.units (node_of cause) (given_of cause)) refl,
      )

    pub both_order : (node : NodeId) (order : Order) → IsNoAttach order → BothKeep (step first node (order_for order)) (step second node (order_for order))
    unfolding step
    both_order node order other s h =
        both_ordered s h (does first node (order_for order) None goes_on s) (does second node (order_for order) None goes_on s)
        (both_does (by_order node order) s h other tt)
