-- What all units of a run keep of one terminal, and whose a step of a unit is.
use Rattle.std.specs.Prelude.{ℕ, ◌≡◌, Option, Some, None}
use Rattle.std.specs.List.{AllByRecursion}
use Rattle.gnb_types.specs.declared.names.Gnb.{Gnb}
use Rattle.gnb_types.specs.declared.names.NodeId.{NodeId}
use Rattle.gnb_types.specs.declared.names.NodeId.TheVariants.{CuCp, CuUp as up_id, Du as du_id, Core, Ue}
use Rattle.gnb_types.specs.declared.names.UeId.{UeId}
use Rattle.message_types.specs.declared.rrc.Token.{Token}
use Rattle.unit_defs.specs.Ways.{Message, Pdu, Input}
use Rattle.unit_defs.specs.Ue.{UeNode}
use Rattle.run_defs.specs.Units.{Units, cu_cp_of, cu_up_of, du_of, ue_of}
use Rattle.run_defs.specs.States.{Stepped, stepped, step_spent}
use Rattle.run_defs.specs.Runs.{PlainGiven, Reading, input_of}
use Rattle.law_terminals_are_isolated.specs.projections.Steps.{IsFor, StaysFor}
use Rattle.law_terminals_are_isolated.specs.cu_cp_projection.CuCps.{CuCpProjection, cu_cp_projection, cu_cp_ue}
use Rattle.law_terminals_are_isolated.specs.cu_up_projection.CuUps.{CuUpWithoutTeids, cu_up_without_teids, cu_up_ue}
use Rattle.law_terminals_are_isolated.specs.du_projection.Dus.{DuProjection, du_projection, du_ue, IsApart}

pub record UnitsProjection (M C : Type 0) : Type 0 where
  pub cps : Gnb → CuCpProjection M C
  pub ups : Gnb → ℕ → CuUpWithoutTeids M C
  pub dus : Gnb → ℕ → DuProjection M C
  pub node : Option UeNode

abbrev pub units_projection : {M C : Type 0} → UeId → Units M C → UnitsProjection M C
units_projection ue units = record {
  cps = λ gnb. cu_cp_projection ue (cu_cp_of units gnb);
  ups = λ gnb number. cu_up_without_teids ue (cu_up_of units gnb number);
  dus = λ gnb number. du_projection ue (du_of units gnb number);
  node = ue_of units ue;
}

-- the terminal that an input of a unit is for: none where it is for each of them, or changes nothing of any
abbrev pub unit_ue : {M C P : Type 0} → Units M C → NodeId → Input C P → Option UeId
unit_ue units (CuCp gnb) input = cu_cp_ue input
unit_ue units (up_id gnb number) input = cu_up_ue (cu_up_of units gnb number) input
unit_ue units (du_id gnb number) input = du_ue (du_of units gnb number) input
unit_ue units Core input = None
unit_ue units (Ue ue) input = Some (record { 0 = ue })

abbrev pub given_in : Units (Message Token) Token → NodeId → Option (Input Token Pdu) → Option UeId
given_in units node None = None
given_in units node (Some input) = unit_ue units node input

abbrev pub given_ue : Reading → Units (Message Token) Token → NodeId → PlainGiven → Option UeId
given_ue reading units node given = given_in units node (input_of reading given)

-- all that is put out is the terminal's, and what all units keep of the others stays
abbrev pub IsUnitsStepOf : {M C L P : Type 0} → UeId → Units M C → Stepped M C L P → Type 0
IsUnitsStepOf ue units (stepped outputs after) = AllByRecursion (IsFor ue.0) outputs × StaysFor units_projection ue units after
IsUnitsStepOf ue units (step_spent counter) = Unit {0}

-- no TEID of a DU is two terminals'
abbrev pub AreApart : {M C : Type 0} → Units M C → Type 0
AreApart units = (gnb : Gnb) (number : ℕ) → IsApart (du_of units gnb number)

-- what is kept as a terminal's is of its plan
abbrev pub AreThemselves : {M C : Type 0} → Units M C → Type 0
AreThemselves units = (ue : UeId) (u : UeNode) → ue_of units ue ≡ Some u → u.plan.ue ≡ ue
