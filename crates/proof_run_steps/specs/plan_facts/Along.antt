-- Facts that may speak of the plans that a run keeps of its terminals, and what is asked of units and of the core that they go on to hold: a
-- terminal comes with its plan, and no plan is lost.
use Rattle.std.specs.Prelude.{ℕ, ◌≡◌, true, false, ◌&&◌, List, Option, Some, None, is_some, ◌⊎◌}
use Rattle.gnb_types.specs.declared.names.NodeId.{NodeId}
use Rattle.gnb_types.specs.declared.names.NodeId.TheVariants.{CuCp, CuUp, Core}
use Rattle.gnb_types.specs.declared.names.UeId.{UeId}
use Rattle.gnb_types.specs.declared.names.BearerId.{BearerId}
use Rattle.gnb_types.specs.declared.names.Dir.{Dir}
use Rattle.gnb_types.specs.declared.names.Dir.TheVariants.{Dl, Ul}
use Rattle.gnb_types.specs.declared.keys.TunnelEnd.{TunnelEnd}
use Rattle.gnb_types.specs.declared.keys.EntityKey.{EntityKey}
use Rattle.gnb_types.specs.declared.inputs.Order.TheVariants as orders
use Rattle.gnb_types.specs.declared.plans.Plan.{Plan}
use Rattle.gnb_types.specs.Orders.{ue_cmp}
use Rattle.tables.specs.Tables.{find, put}
use Rattle.scenario_text.specs.declared.event.Event.{Event}
use Rattle.scenario_text.specs.declared.event.Event.TheVariants as events
use Rattle.unit_defs.specs.Ways.{Put}
use Rattle.unit_defs.specs.Messages.{teid_of}
use Rattle.unit_defs.specs.Core.{CorePath, CoreRecord}
use Rattle.unit_defs.specs.Static.{cu_up_has_room, cu_up_has_teids, du_has_teids}
use Rattle.unit_defs.specs.Ue.{new_ue}
use Rattle.transport_defs.specs.declared.Item.{Item}
use Rattle.transport_defs.specs.declared.ControlMessage.{ControlMessage}
use Rattle.run_defs.specs.Units.{Units, cu_up_of, du_of, with_ue}
use Rattle.run_defs.specs.States.{State, Given, offer_for, order_for, octets_from, Lengths, sn_in, stepped, core_stepped, World, goes, stops, Ending, entity}
use Rattle.run_defs.specs.Steps.{count_control_messages}
use Rattle.run_defs.specs.Conditions.{is_held_by_units, units_placed, all_set_up, n3_from}
use Rattle.proof_run_steps.specs.steps.Causes.{IsNoAttach}
use Rattle.proof_run_steps.specs.plans.Plans.{Plans, PlansStay}
use Rattle.proof_run_steps.specs.facts.Facts.{Facts, Hold, PutsFit, GivenFits}

-- how long numbers are, by plans
abbrev pub lengths_by : Plans → Lengths
lengths_by plans ue = sn_in (find ue_cmp plans ue)

abbrev pub with_plan : Plans → Plan → Plans
with_plan plans plan = put ue_cmp plans plan.ue plan

abbrev pub IsNew : Plans → Plan → Type 0
IsNew plans plan = is_some (find ue_cmp plans plan.ue) ≡ false

-- with which plans terminals may come, and what may be offered
pub record Allowed : Type 1 where
  pub comes : Plan → Type 0
  pub offered : Dir → List ℕ → Type 0

abbrev pub anything : Allowed
anything = record { comes = λ plan. Unit {0}; offered = λ dir packet. Unit {0} }

-- a terminal that comes by this event, and isn't there, has such a plan; and a packet is offered that may be
abbrev pub IsAllowed : Allowed → Event → Plans → Type 0
IsAllowed allowed event plans =
    ((plan : Plan) → (event ≡ events.Attach plan) ⊎ (event ≡ events.Static plan) → IsNew plans plan → allowed.comes plan)
    × ((ue : UeId) (bearer : BearerId) (dir : Dir) (packet : List ℕ) → event ≡ events.Offer ue bearer dir packet → allowed.offered dir packet)

-- no terminal comes by this
abbrev pub Brings : {M L P : Type 0} → Allowed → Given M L P → Type 0
Brings allowed (order_for order) = IsNoAttach order
Brings allowed (offer_for ue bearer packet) = allowed.offered Ul packet
Brings allowed given = Unit {0}

-- what holds by some facts holds by others
pub record Grows {M C L P : Type 0} (f g : Facts M C L P) : Type 0 where
  pub units : (u : Units M C) → f.units u → g.units u
  pub core : (r : CoreRecord M C) → f.core r → g.core r
  pub control_message : (l : ControlMessage M) → f.control_message l → g.control_message l
  pub on_tunnel : (end : TunnelEnd) (item : Item L) → f.on_tunnel end item → g.on_tunnel end item
  pub on_radio : (key : EntityKey) (item : Item P) → f.on_radio key item → g.on_radio key item
  pub counted : g.counted → f.counted

module _ {M C L P : Type 0} (world : World M C L P) (facts : Plans → Facts M C L P) where
  -- a terminal may be set up without messages
  abbrev pub HasRoom : Units M C → Plan → Type 0
  HasRoom u plan =
      (is_held_by_units plan u ≡ false) × (cu_up_has_room (cu_up_of u plan.gnb plan.up) plan ≡ true)
      × (cu_up_has_teids (cu_up_of u plan.gnb plan.up) plan && du_has_teids (du_of u plan.gnb plan.du) plan ≡ true)

  pub record AreKeptAlong (allowed : Allowed) : Type 0 where
    pub grows : (before after : Plans) → PlansStay before after → Grows (facts before) (facts after)
    pub answers : (plans : Plans) (u v : Units M C) (node : NodeId) (taken : Option ℕ) (given : Given M L P) (outputs : List (Put M L P))
        → Brings allowed given → (facts plans).units u → GivenFits (facts plans) node taken given → world.answer (lengths_by plans) u node given ≡ stepped outputs v
        → (facts plans).units v × PutsFit (facts plans) node taken outputs
    -- it is asked before its plan is kept
    pub attaches : (plans : Plans) (plan : Plan) (u v : Units M C) (outputs : List (Put M L P)) → allowed.comes plan → IsNew plans plan
        → (facts (with_plan plans plan)).units u → world.answer (lengths_by plans) u (CuCp plan.gnb) (order_for (orders.Attach plan)) ≡ stepped outputs v
        → (facts (with_plan plans plan)).units v × PutsFit (facts (with_plan plans plan)) (CuCp plan.gnb) None outputs
    pub comes : (plans : Plans) (plan : Plan) (u : Units M C) → allowed.comes plan → (facts (with_plan plans plan)).units u
        → (facts (with_plan plans plan)).units (with_ue u plan.ue (new_ue plan))
    pub placed : (plans : Plans) (plan : Plan) (u : Units M C) → allowed.comes plan → HasRoom u plan → (facts (with_plan plans plan)).units u
        → (facts (with_plan plans plan)).units (all_set_up (units_placed plan u))
    pub core_placed : (plans : Plans) (plan : Plan) (u : Units M C) (r : CoreRecord M C) → allowed.comes plan → HasRoom u plan → (facts (with_plan plans plan)).core r
        → (facts (with_plan plans plan)).core (record r { paths = put ue_cmp r.paths plan.ue (record { up = CuUp plan.gnb plan.up; n3 = n3_from 1 (cu_up_of u plan.gnb plan.up).next_teid plan.bearers }) })
    pub core_answers : (plans : Plans) (r q : CoreRecord M C) (given : Given M L P) (outputs : List (Put M L P)) → (facts plans).core r
        → GivenFits (facts plans) Core None given → world.core_answer (lengths_by plans) r given ≡ core_stepped outputs q
        → (facts plans).core q × PutsFit (facts plans) Core None outputs
    pub lays : (plans : Plans) (r : CoreRecord M C) (ue : UeId) (bearer : BearerId) (p : List ℕ) (path : CorePath) → allowed.offered Dl p → (facts plans).core r
        → find ue_cmp r.paths ue ≡ Some path
        → (facts plans).puts_on Core (record { node = path.up; teid = teid_of path.n3 bearer })
        (record { key = entity ue bearer Dl; count = None; content = world.lay_n3 (teid_of path.n3 bearer) p })
    pub silent : (plans : Plans) → (facts plans).counted → (lengths : Lengths) (r q : CoreRecord M C) (from : NodeId) (octets : List ℕ) (outputs : List (Put M L P))
        → world.core_answer lengths r (octets_from from octets) ≡ core_stepped outputs q → count_control_messages world outputs ≡ 0

  -- where it goes on, they hold of the plans of that state
  abbrev pub HoldsNow : {X : Type 0} → Ending X (State M C L P) → Type 0
  HoldsNow (goes told t) = Hold (facts t.plans) t
  HoldsNow (stops told why) = Unit {0}
