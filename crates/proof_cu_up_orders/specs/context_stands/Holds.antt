-- What is so of all bearers of a CU-UP, and of one of them before and after an input.
use Rattle.std.specs.Prelude.{◌≡◌, Some}
use Rattle.gnb_types.specs.declared.names.UeId.{UeId}
use Rattle.gnb_types.specs.declared.names.BearerId.{BearerId}
use Rattle.unit_defs.specs.Ways.{Answer, gives, spent}
use Rattle.unit_defs.specs.CuUpRecords.{CuUp}
use Rattle.proof_cu_up_orders.specs.context_orders.Orders.{CuUpModel, model_of}
use Rattle.proof_cu_up_orders.specs.context_stands.Stands.{Stands, IsSame}

abbrev pub AllStand : {M C : Type 0} → CuUp M C → Type 0
AllStand r = (ue : UeId) (bearer : BearerId) (p : CuUpModel) → model_of r ue bearer ≡ Some p → Stands p

-- it is of the same context then; where there was none, of one whose instance is the TEID that was the next one
abbrev pub IsSameAfter : {M C P : Type 0} → CuUp M C → UeId → BearerId → Answer M P (CuUp M C) → Type 0
IsSameAfter r ue bearer (gives outputs s) = IsSame r.next_teid (model_of r ue bearer) (model_of s ue bearer)
IsSameAfter r ue bearer (spent counter) = Unit {0}
