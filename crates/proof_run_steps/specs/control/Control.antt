-- The control of a run: its units, its core, and all control messages ever put, in order; and what is asked of a fact of these that
-- each step of a unit, and of the core, keeps it.
use Rattle.std.specs.Prelude.{ℕ, ◌≡◌, true, false, ◌&&◌, List, [], ◌∷◌, ◌++◌, map}
use Rattle.std.specs.List.{Contains}
use Rattle.gnb_types.specs.declared.names.NodeId.{NodeId}
use Rattle.gnb_types.specs.declared.names.NodeId.TheVariants.{CuUp, Core}
use Rattle.gnb_types.specs.declared.plans.Plan.{Plan}
use Rattle.gnb_types.specs.declared.plans.Tunnel.{Tunnel}
use Rattle.gnb_types.specs.Orders.{ue_cmp}
use Rattle.tables.specs.Tables.{put}
use Rattle.unit_defs.specs.Ways.{Put, control}
use Rattle.unit_defs.specs.Core.{CoreRecord}
use Rattle.unit_defs.specs.Static.{cu_up_has_room, cu_up_has_teids, du_has_teids}
use Rattle.unit_defs.specs.Ue.{new_ue}
use Rattle.transport_defs.specs.declared.ControlMessage.{ControlMessage}
use Rattle.run_defs.specs.Units.{Units, cu_up_of, du_of, with_ue}
use Rattle.run_defs.specs.States.{State, Given, control_message_for, Lengths, stepped, core_stepped, World}
use Rattle.run_defs.specs.Conditions.{is_held_by_units, units_placed, all_set_up}

pub record Control (M C : Type 0) : Type 0 where
  pub units : Units M C
  pub core : CoreRecord M C
  pub control_messages : List (ControlMessage M)

abbrev pub control_of : {M C L P : Type 0} → State M C L P → Control M C
control_of s = record { units = s.units; core = s.core; control_messages = map (λ e. e.1) s.bag.control_messages }

-- the control messages that a node puts
abbrev pub control_message_in : {M L P : Type 0} → NodeId → Put M L P → List (ControlMessage M)
control_message_in node (control to ue message) = record { from = node; to = to; ue = ue; message = message } ∷ []
control_message_in node output = []

abbrev pub control_messages_in : {M L P : Type 0} → NodeId → List (Put M L P) → List (ControlMessage M)
control_messages_in node [] = []
control_messages_in node (output ∷ outputs) = control_message_in node output ++ control_messages_in node outputs

abbrev pub with_control_messages : {M C : Type 0} → Control M C → List (ControlMessage M) → Control M C
with_control_messages k more = record k { control_messages = k.control_messages ++ more }

-- a control message that a node is given was put to it
abbrev pub WasPut : {M L P : Type 0} → List (ControlMessage M) → NodeId → Given M L P → Type 0
WasPut control_messages node (control_message_for from message) =
    (ue : ℕ) × Contains control_messages (record { from = from; to = node; ue = ue; message = message })
WasPut control_messages node given = Unit {0}

-- each step keeps H; so does a terminal that comes, and one that is set up without messages
pub record IsKept {M C L P : Type 0} (world : World M C L P) (H : Control M C → Type 0) : Type 0 where
  pub answers : (lengths : Lengths) (k : Control M C) (v : Units M C) (node : NodeId) (given : Given M L P) (outputs : List (Put M L P)) → H k
      → WasPut k.control_messages node given → world.answer lengths k.units node given ≡ stepped outputs v
      → H (with_control_messages (record k { units = v }) (control_messages_in node outputs))
  pub comes : (k : Control M C) (plan : Plan) → H k → H (record k { units = with_ue k.units plan.ue (new_ue plan) })
  pub placed : (k : Control M C) (plan : Plan) (n3 : List Tunnel) → is_held_by_units plan k.units ≡ false
      → cu_up_has_room (cu_up_of k.units plan.gnb plan.up) plan ≡ true
      → cu_up_has_teids (cu_up_of k.units plan.gnb plan.up) plan && du_has_teids (du_of k.units plan.gnb plan.du) plan ≡ true → H k
      → H (record k {
        units = all_set_up (units_placed plan k.units);
        core = record k.core { paths = put ue_cmp k.core.paths plan.ue (record { up = CuUp plan.gnb plan.up; n3 = n3 }) };
      })
  pub core_answers : (lengths : Lengths) (k : Control M C) (q : CoreRecord M C) (given : Given M L P) (outputs : List (Put M L P)) → H k
      → WasPut k.control_messages Core given → world.core_answer lengths k.core given ≡ core_stepped outputs q
      → H (with_control_messages (record k { core = q }) (control_messages_in Core outputs))
