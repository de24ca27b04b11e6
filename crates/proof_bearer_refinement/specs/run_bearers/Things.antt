-- What happens to the units over a run, in the order in which it happens, and what their tables make of it.
use Rattle.std.specs.Prelude.{ℕ, List, [], ◌∷◌, Option, Some, None}
use Rattle.gnb_types.specs.declared.names.NodeId.{NodeId}
use Rattle.gnb_types.specs.declared.names.NodeId.TheVariants.{CuCp, CuUp as up_id, Du as du_id, Core, Ue}
use Rattle.gnb_types.specs.declared.plans.Plan.{Plan}
use Rattle.message_types.specs.declared.rrc.Token.{Token}
use Rattle.unit_defs.specs.Ways.{Message, Pdu, Input}
use Rattle.unit_defs.specs.Ue.{UeNode, new_ue, ue_acts}
use Rattle.unit_defs.specs.CuUp.{cu_up_acts}
use Rattle.unit_defs.specs.Du.{du_acts}
use Rattle.unit_defs.specs.CuCp.{cu_cp_acts}
use Rattle.run_defs.specs.Units.{Units, cu_cp_of, with_cu_cp, cu_up_of, with_cu_up, du_of, with_du, ue_of, with_ue}
use Rattle.run_defs.specs.Conditions.{units_placed, all_set_up}
use Rattle.run_defs.specs.Runs.{plain_way}
use Rattle.proof_bearer_refinement.specs.run_unit_inputs.Happenings.{kept_of}

-- a terminal comes; one is set up without messages; a unit is given an input
pub data Thing : Type 0 where
  comes : (plan : Plan) → Thing
  set_up : (plan : Plan) → Thing
  takes : (node : NodeId) (input : Input Token Pdu) → Thing

abbrev pub PlainUnits : Type 0
PlainUnits = Units (Message Token) Token

-- a terminal that isn't there takes nothing
abbrev pub ue_after : PlainUnits → ℕ → Input Token Pdu → Option UeNode → PlainUnits
ue_after u ue input None = u
ue_after u ue input (Some x) = with_ue u (record { 0 = ue }) (kept_of x (ue_acts plain_way x input))

abbrev pub taken : PlainUnits → NodeId → Input Token Pdu → PlainUnits
taken u (CuCp gnb) input = with_cu_cp u gnb (kept_of (cu_cp_of u gnb) (cu_cp_acts plain_way (cu_cp_of u gnb) input))
taken u (up_id gnb number) input = with_cu_up u gnb number (kept_of (cu_up_of u gnb number) (cu_up_acts plain_way (cu_up_of u gnb number) input))
taken u (du_id gnb number) input = with_du u gnb number (kept_of (du_of u gnb number) (du_acts plain_way (du_of u gnb number) input))
taken u (Ue ue) input = ue_after u ue input (ue_of u (record { 0 = ue }))
taken u Core input = u

abbrev pub after_thing : PlainUnits → Thing → PlainUnits
after_thing u (comes plan) = with_ue u plan.ue (new_ue plan)
after_thing u (set_up plan) = all_set_up (units_placed plan u)
after_thing u (takes node input) = taken u node input

unfoldable pub after_things : PlainUnits → List Thing → PlainUnits
after_things u [] = u
after_things u (thing ∷ things) = after_things (after_thing u thing) things
