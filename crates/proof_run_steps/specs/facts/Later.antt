-- What is asked of units and of the core where only some of what they may answer leads on: to units from which the run goes on as it
-- does. So a fact may speak of the units that a run ends with.
use Rattle.std.specs.Prelude.{ℕ, ◌≡◌, true, false, ◌&&◌, List, Option, Some, None}
use Rattle.gnb_types.specs.declared.names.NodeId.{NodeId}
use Rattle.gnb_types.specs.declared.names.NodeId.TheVariants.{CuUp, Core}
use Rattle.gnb_types.specs.declared.names.UeId.{UeId}
use Rattle.gnb_types.specs.declared.names.BearerId.{BearerId}
use Rattle.gnb_types.specs.declared.names.Dir.TheVariants.{Dl}
use Rattle.gnb_types.specs.declared.plans.Plan.{Plan}
use Rattle.gnb_types.specs.Orders.{ue_cmp}
use Rattle.tables.specs.Tables.{find, put}
use Rattle.unit_defs.specs.Ways.{Put}
use Rattle.unit_defs.specs.Messages.{teid_of}
use Rattle.unit_defs.specs.Core.{CorePath, CoreRecord}
use Rattle.unit_defs.specs.Static.{cu_up_has_room, cu_up_has_teids, du_has_teids}
use Rattle.unit_defs.specs.Ue.{new_ue}
use Rattle.run_defs.specs.Units.{Units, cu_up_of, du_of, with_ue}
use Rattle.run_defs.specs.States.{Given, octets_from, Lengths, stepped, core_stepped, World, entity}
use Rattle.run_defs.specs.Steps.{count_control_messages}
use Rattle.run_defs.specs.Conditions.{is_held_by_units, units_placed, all_set_up, n3_from}
use Rattle.proof_run_steps.specs.facts.Facts.{Facts, PutsFit, GivenFits}

module _ {M C L P : Type 0} (world : World M C L P) (facts : Facts M C L P) (later : Units M C → Type 0) where
  -- a terminal may be set up without messages
  abbrev pub MayPlace : Units M C → Plan → Type 0
  MayPlace u plan =
      (is_held_by_units plan u ≡ false) × (cu_up_has_room (cu_up_of u plan.gnb plan.up) plan ≡ true)
      × (cu_up_has_teids (cu_up_of u plan.gnb plan.up) plan && du_has_teids (du_of u plan.gnb plan.du) plan ≡ true)

  pub record AreKeptTo : Type 0 where
    -- what leads on was led to
    pub before_answer : (lengths : Lengths) (u v : Units M C) (node : NodeId) (given : Given M L P) (outputs : List (Put M L P))
        → world.answer lengths u node given ≡ stepped outputs v → later v → later u
    pub before_coming : (u : Units M C) (plan : Plan) → later (with_ue u plan.ue (new_ue plan)) → later u
    pub before_placing : (u : Units M C) (plan : Plan) → MayPlace u plan → later (all_set_up (units_placed plan u)) → later u
    -- where it leads on, the facts go on to hold
    pub answers : (lengths : Lengths) (u v : Units M C) (node : NodeId) (taken : Option ℕ) (given : Given M L P) (outputs : List (Put M L P))
        → facts.units u → GivenFits facts node taken given → world.answer lengths u node given ≡ stepped outputs v → later v
        → facts.units v × PutsFit facts node taken outputs
    pub comes : (u : Units M C) (plan : Plan) → facts.units u → facts.units (with_ue u plan.ue (new_ue plan))
    pub placed : (u : Units M C) (plan : Plan) → MayPlace u plan → later (all_set_up (units_placed plan u)) → facts.units u
        → facts.units (all_set_up (units_placed plan u))
    pub core_placed : (u : Units M C) (r : CoreRecord M C) (plan : Plan) → MayPlace u plan → later (all_set_up (units_placed plan u)) → facts.units u → facts.core r
        → facts.core (record r { paths = put ue_cmp r.paths plan.ue (record { up = CuUp plan.gnb plan.up; n3 = n3_from 1 (cu_up_of u plan.gnb plan.up).next_teid plan.bearers }) })
    pub core_answers : (lengths : Lengths) (r q : CoreRecord M C) (given : Given M L P) (outputs : List (Put M L P)) → facts.core r
        → GivenFits facts Core None given → world.core_answer lengths r given ≡ core_stepped outputs q → facts.core q × PutsFit facts Core None outputs
    pub lays : (r : CoreRecord M C) (ue : UeId) (bearer : BearerId) (p : List ℕ) (path : CorePath) → facts.core r
        → find ue_cmp r.paths ue ≡ Some path
        → facts.puts_on Core (record { node = path.up; teid = teid_of path.n3 bearer })
        (record { key = entity ue bearer Dl; count = None; content = world.lay_n3 (teid_of path.n3 bearer) p })
    pub silent : facts.counted → (lengths : Lengths) (r q : CoreRecord M C) (from : NodeId) (octets : List ℕ) (outputs : List (Put M L P))
        → world.core_answer lengths r (octets_from from octets) ≡ core_stepped outputs q → count_control_messages world outputs ≡ 0
