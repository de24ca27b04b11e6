-- What is assumed of the orders that a CU-UP is asked for a bearer, where what stands on the bearer's tunnels reports only what was
-- received: all but what an item reports.
use Rattle.std.specs.Prelude.{ℕ, List, [], ◌∷◌, Option, Some, None, ⊤}
use Rattle.gnb_types.specs.declared.names.SnBits.{SnBits}
use Rattle.gnb_types.specs.declared.names.UeId.{UeId}
use Rattle.gnb_types.specs.declared.names.BearerId.{BearerId}
use Rattle.unit_defs.specs.Ways.{Pdu}
use Rattle.run_defs.specs.Runs.{plain_way}
use Rattle.bearer_defs.specs.chain_defs.Models as down_models
use Rattle.bearer_defs.specs.chain_defs.Orders as down
use Rattle.bearer_defs.specs.uplink_defs.Models as up_models
use Rattle.bearer_defs.specs.uplink_defs.Orders as up
use Rattle.proof_cu_up_orders.specs.context_orders.Orders.{CuUpModel, ContextStep, takes}
use Rattle.proof_cu_up_orders.specs.bearer_orders.Happenings.{Beside, Happening, asks, Contexts, context_after}
use Rattle.proof_cu_up_orders.specs.bearer_orders.Down as downs
use Rattle.proof_cu_up_orders.specs.bearer_orders.Up as ups
use Rattle.proof_bearer_refinement.specs.run_bearers.Things.{PlainUnits}
use Rattle.proof_bearer_refinement.specs.run_bearers.Bearers.{Numbering}
use Rattle.law_handover_delivers.specs.assumptions.Assumed.{OfItem, Assumes, AssumesAnew}

module _ (n : Numbering) (ue : UeId) (bearer : BearerId) (units : PlainUnits) where
  abbrev pub AssumesStill : down_models.Model → up_models.Model → ℕ → Beside → CuUpModel → ContextStep Pdu → Type 0
  AssumesStill d u x b p (takes kind teid item) = OfItem p kind item
  AssumesStill d u x b p order = Assumes n ue bearer units d u x b p order

  module _ (sn : SnBits) (quota : ℕ) where
    abbrev pub AssumesStillIn : down_models.Model → up_models.Model → ℕ → Beside → Option CuUpModel → ContextStep Pdu → Type 0
    AssumesStillIn d u x b None order = AssumesAnew n ue bearer units sn quota order
    AssumesStillIn d u x b (Some p) order = AssumesStill d u x b p order

    abbrev pub AssumesStillBy : down_models.Model → up_models.Model → Contexts → Happening Pdu → Type 0
    AssumesStillBy d u cs (asks x order b) = AssumesStillIn d u x b (cs x) order
    AssumesStillBy d u cs h = ⊥

    abbrev pub AllAssumeStill : down_models.Model → up_models.Model → Contexts → List (Happening Pdu) → Type 0
    AllAssumeStill d u cs [] = ⊤
    AllAssumeStill d u cs (h ∷ hs) =
        AssumesStillBy d u cs h
        × AllAssumeStill (down.run d (downs.orders_by cs h)) (up.run u (ups.orders_by cs h)) (context_after plain_way ue bearer cs h) hs
