-- Events that are an order to a unit, or are refused.
use Rattle.std.proofs.Common.{◌≡◌, ℕ, Bool, true, false, not, if◌then◌else◌, Option, Some, None, is_some, refl}
use Rattle.std.specs.Prelude.{Ok, Err}
use Rattle.gnb_types.specs.declared.names.Gnb.{Gnb}
use Rattle.gnb_types.specs.declared.names.Gnb.TheVariants.{A, B}
use Rattle.gnb_types.specs.declared.names.NodeId.TheVariants.{CuCp, Ue}
use Rattle.gnb_types.specs.declared.names.UeId.{UeId}
use Rattle.gnb_types.specs.declared.plans.Plan.{Plan}
use Rattle.gnb_types.specs.declared.inputs.Order.TheVariants as orders
use Rattle.gnb_types.specs.declared.reasons.RefuseReason.TheVariants.{Empty, NoRadio, NotAllowed, NoUe, NotAccessing, NoHome, Busy, Same}
use Rattle.gnb_types.specs.Orders.{ue_cmp}
use Rattle.tables.specs.Tables.{find}
use Rattle.unit_defs.specs.Ue.{is_connected, is_accessing, may_return}
use Rattle.unit_defs.specs.Accessors.{ue_home}
use Rattle.run_defs.specs.Units.{ue_of, is_source}
use Rattle.run_defs.specs.States.{order_for, refused, is_attached}
use Rattle.run_defs.specs.Steps.{step}
use Rattle.run_defs.specs.Conditions.{serving_gnb, serving_place, state_at, goal_of, is_same_place, is_other_up, is_busy_with}
use Rattle.run_defs.specs.Events.{order_ue, fail, arrive, come_back, handover_to, handover, cancel}
use Rattle.run_links.specs.Networks.{OctetWorld, OctetState}
use Rattle.world_events.specs.orders.Orders.{ordered, fail_order, arrive_order, return_order, goal_order, handover_order, cancel_order}

pub fail_is : (world : OctetWorld) (ue : UeId) (s : OctetState) → fail world ue s ≡ ordered world s (fail_order s ue)
unfolding fail
fail_is world ue s = by (is_attached s ue) (is_connected (state_at s ue))
  where
    by : (there connected : Bool)
        → (if not there then refused NoUe s else (if connected then order_ue world ue (orders.Fail ue) s else refused NoRadio s))
        ≡ ordered world s (if not there then Err NoUe else (if connected then Ok (Ue ue.0, orders.Fail ue) else Err NoRadio))
    by false connected = refl
    by true true = refl
    by true false = refl

pub arrive_is : (world : OctetWorld) (ue : UeId) (s : OctetState) → arrive world ue s ≡ ordered world s (arrive_order s ue)
unfolding arrive
arrive_is world ue s = by (is_attached s ue) (is_accessing (state_at s ue))
  where
    by : (there accessing : Bool)
        → (if not there then refused NoUe s else (if accessing then order_ue world ue (orders.Arrive ue) s else refused NotAccessing s))
        ≡ ordered world s (if not there then Err NoUe else (if accessing then Ok (Ue ue.0, orders.Arrive ue) else Err NotAccessing))
    by false accessing = refl
    by true true = refl
    by true false = refl

pub come_back_is : (world : OctetWorld) (ue : UeId) (s : OctetState) → come_back world ue s ≡ ordered world s (return_order s ue)
unfolding come_back
come_back_is world ue s = by (is_attached s ue) (is_some (ue_home (ue_of s.units ue))) (may_return (state_at s ue))
  where
    by : (there home may : Bool)
        → (if not there then refused NoUe s else
        (if not home then refused NoHome s else (if may then order_ue world ue (orders.Return ue) s else refused Busy s)))
        ≡ ordered world s (if not there then Err NoUe else (if not home then Err NoHome else (if may then Ok (Ue ue.0, orders.Return ue) else Err Busy)))
    by false home may = refl
    by true false may = refl
    by true true true = refl
    by true true false = refl

pub handover_is : (world : OctetWorld) (ue : UeId) (gnb : Gnb) (up du : ℕ) (s : OctetState)
    → handover world ue gnb up du s ≡ ordered world s (handover_order s ue gnb up du)
unfolding handover
handover_is world ue gnb up du s =
    by (is_attached s ue) (is_same_place gnb du (serving_gnb s ue) (serving_place s ue)) (is_other_up gnb up (serving_gnb s ue) (serving_place s ue))
    (is_busy_with s ue) (serving_gnb s ue) (goal_of (find ue_cmp s.plans ue) ue gnb up du)
  where
    by : (there same other busy : Bool) (serving : Gnb) (goal : Option Plan)
        → (if not there then refused NoUe s else (if same then refused Same s else
        (if other then refused NotAllowed s else (if busy then refused Busy s else handover_to world s serving goal))))
        ≡ ordered world s (if not there then Err NoUe else (if same then Err Same else
        (if other then Err NotAllowed else (if busy then Err Busy else goal_order serving goal))))
    by false same other busy serving goal = refl
    by true true other busy serving goal = refl
    by true false true busy serving goal = refl
    by true false false true serving goal = refl
    by true false false false serving None = refl
    by true false false false serving (Some goal) = refl

pub cancel_is : (world : OctetWorld) (ue : UeId) (s : OctetState) → cancel world ue s ≡ ordered world s (cancel_order s ue)
unfolding cancel
cancel_is world ue s = by (is_attached s ue) (is_source s.units.cu_cp_a ue) (is_source s.units.cu_cp_b ue)
  where
    by : (there at_a at_b : Bool)
        → (if not there then refused NoUe s else
        (if at_a then step world (CuCp A) (order_for (orders.Cancel ue)) s else
        (if at_b then step world (CuCp B) (order_for (orders.Cancel ue)) s else refused Empty s)))
        ≡ ordered world s (if not there then Err NoUe else
        (if at_a then Ok (CuCp A, orders.Cancel ue) else (if at_b then Ok (CuCp B, orders.Cancel ue) else Err Empty)))
    by false at_a at_b = refl
    by true true at_b = refl
    by true false true = refl
    by true false false = refl
