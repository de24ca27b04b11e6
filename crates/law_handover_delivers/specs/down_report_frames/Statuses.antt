-- What is assumed of control of an SN status beside what `assumptions` asks of it: that each COUNT above its first one which it says was
-- received was carried up. A CU-UP passes that on to the terminal where this arrived before the SN status came; elsewhere nothing is asked.
use Rattle.std.specs.Prelude.{◌≡◌, ◌<◌, ◌-◌, ℕ, true, List, [], ◌∷◌, Option, Some, None, ⊤}
use Rattle.gnb_types.specs.declared.names.UeId.{UeId}
use Rattle.gnb_types.specs.declared.names.BearerId.{BearerId}
use Rattle.gnb_types.specs.declared.plans.SnStatus.{SnStatus}
use Rattle.pdcp_defs.specs.Senders.{is_set}
use Rattle.unit_defs.specs.Ways.{Pdu}
use Rattle.unit_defs.specs.CuUpBearers.{bits_in}
use Rattle.run_defs.specs.Runs.{plain_way}
use Rattle.bearer_defs.specs.uplink_defs.Models as up_models
use Rattle.bearer_defs.specs.uplink_defs.Orders as up
use Rattle.bearer_defs.specs.uplink_defs.Assumptions as up_assumptions
use Rattle.proof_cu_up_orders.specs.context_orders.Orders.{CuUpModel, ContextStep, knows}
use Rattle.proof_cu_up_orders.specs.bearer_orders.Happenings.{Happening, asks, Contexts, context_after}
use Rattle.proof_cu_up_orders.specs.bearer_orders.Up as ups

abbrev pub BitsAreTrue : ℕ → SnStatus → Type 0
BitsAreTrue reached status =
    (i : ℕ) → status.ul_first < i → is_set (bits_in status.ul_received) (i - status.ul_first - 1) ≡ true → i < reached

abbrev pub AssumesStatus : up_models.Model → CuUpModel → ContextStep Pdu → Type 0
AssumesStatus u p (knows status) = p.at.flags.arrived ≡ true → BitsAreTrue u.reached status
AssumesStatus u p order = ⊤

abbrev pub AssumesStatusIn : up_models.Model → Option CuUpModel → ContextStep Pdu → Type 0
AssumesStatusIn u None order = ⊤
AssumesStatusIn u (Some p) order = AssumesStatus u p order

abbrev pub AssumesStatusBy : up_models.Model → Contexts → Happening Pdu → Type 0
AssumesStatusBy u cs (asks x order b) = AssumesStatusIn u (cs x) order
AssumesStatusBy u cs h = ⊤

-- of all that a step asks
abbrev pub AllAssumeStatus : UeId → BearerId → up_models.Model → Contexts → List (Happening Pdu) → Type 0
AllAssumeStatus ue bearer u cs [] = ⊤
AllAssumeStatus ue bearer u cs (h ∷ hs) =
    AssumesStatusBy u cs h × AllAssumeStatus ue bearer (up.run u (ups.orders_by cs h)) (context_after plain_way ue bearer cs h) hs

-- the uplink's model came about by orders each of which asked what it does
pub record UpCameAbout (u : up_models.Model) : Type 0 where
  pub first : ℕ
  pub teid : ℕ
  pub orders : List up.ModelStep
  pub is : u ≡ up.run (up_models.initial first teid) orders
  pub kept : up_assumptions.AreKept (up_models.initial first teid) orders
