-- The plans that a run keeps of its terminals: they stay, and a terminal's record is of its plan.
use Rattle.std.specs.Prelude.{◌≡◌, List, Some}
use Rattle.gnb_types.specs.declared.names.UeId.{UeId}
use Rattle.gnb_types.specs.declared.plans.Plan.{Plan}
use Rattle.gnb_types.specs.Orders.{ue_cmp}
use Rattle.tables.specs.Tables.{find}
use Rattle.unit_defs.specs.Ue.{UeNode}
use Rattle.run_defs.specs.Units.{Units, ue_of}

abbrev pub Plans : Type 0
Plans = List (UeId × Plan)

-- what is kept of a terminal is kept later
abbrev pub PlansStay : Plans → Plans → Type 0
PlansStay before after = (ue : UeId) (plan : Plan) → find ue_cmp before ue ≡ Some plan → find ue_cmp after ue ≡ Some plan

-- each terminal is there with the plan that is kept of it
abbrev pub AreOfTheirPlans : {M C : Type 0} → Units M C → Plans → Type 0
AreOfTheirPlans units plans = (ue : UeId) (u : UeNode) → ue_of units ue ≡ Some u → find ue_cmp plans ue ≡ Some u.plan
