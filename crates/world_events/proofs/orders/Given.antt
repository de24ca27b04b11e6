-- A run may give these orders: none of them is a poll.
use Rattle.std.proofs.Common.{ℕ, Bool, true, false, not, if◌then◌else◌, Option, Some, None, is_some}
use Rattle.std.specs.Prelude.{Ok, Err}
use Rattle.gnb_types.specs.declared.names.Gnb.{Gnb}
use Rattle.gnb_types.specs.declared.names.Gnb.TheVariants.{A, B}
use Rattle.gnb_types.specs.declared.names.NodeId.TheVariants.{CuCp, Ue}
use Rattle.gnb_types.specs.declared.names.UeId.{UeId}
use Rattle.gnb_types.specs.declared.plans.Plan.{Plan}
use Rattle.gnb_types.specs.declared.inputs.Order.TheVariants as orders
use Rattle.gnb_types.specs.declared.reasons.RefuseReason.TheVariants.{Empty, NoRadio, NotAllowed, NoUe, NotAccessing, NoHome, Busy, Same}
use Rattle.gnb_types.specs.Orders.{ue_cmp}
use Rattle.tables.specs.Tables.{find}
use Rattle.unit_defs.specs.declared.StateName.TheVariants as states
use Rattle.unit_defs.specs.Ue.{is_connected, is_accessing, may_return}
use Rattle.unit_defs.specs.Accessors.{ue_home}
use Rattle.run_defs.specs.Units.{ue_of, is_source}
use Rattle.run_defs.specs.States.{is_attached}
use Rattle.run_defs.specs.Conditions.{serving_gnb, serving_place, state_at, goal_of, is_same_place, is_other_up, is_busy_with}
use Rattle.run_links.specs.Networks.{OctetState}
use Rattle.world_events.specs.orders.Orders.{MayBeGiven, fail_order, arrive_order, return_order, goal_order, handover_order, cancel_order}

-- ---- terminals may be given any order

pub fail_may : (s : OctetState) (ue : UeId) → MayBeGiven s.units (fail_order s ue)
fail_may s ue = by (is_attached s ue) (is_connected (state_at s ue))
  where
    by : (there connected : Bool)
        → MayBeGiven s.units (if not there then Err NoUe else (if connected then Ok (Ue ue.0, orders.Fail ue) else Err NoRadio))
    by false connected = tt
    by true true = tt
    by true false = tt

pub arrive_may : (s : OctetState) (ue : UeId) → MayBeGiven s.units (arrive_order s ue)
arrive_may s ue = by (is_attached s ue) (is_accessing (state_at s ue))
  where
    by : (there accessing : Bool)
        → MayBeGiven s.units (if not there then Err NoUe else (if accessing then Ok (Ue ue.0, orders.Arrive ue) else Err NotAccessing))
    by false accessing = tt
    by true true = tt
    by true false = tt

pub come_back_may : (s : OctetState) (ue : UeId) → MayBeGiven s.units (return_order s ue)
come_back_may s ue = by (is_attached s ue) (is_some (ue_home (ue_of s.units ue))) (may_return (state_at s ue))
  where
    by : (there home may : Bool) → MayBeGiven s.units (if not there then Err NoUe else
        (if not home then Err NoHome else (if may then Ok (Ue ue.0, orders.Return ue) else Err Busy)))
    by false home may = tt
    by true false may = tt
    by true true true = tt
    by true true false = tt

-- ---- and so may CU-CPs

pub cancel_may : (s : OctetState) (ue : UeId) → MayBeGiven s.units (cancel_order s ue)
cancel_may s ue = by (is_attached s ue) (is_source s.units.cu_cp_a ue) (is_source s.units.cu_cp_b ue)
  where
    by : (there at_a at_b : Bool) → MayBeGiven s.units (if not there then Err NoUe else
        (if at_a then Ok (CuCp A, orders.Cancel ue) else (if at_b then Ok (CuCp B, orders.Cancel ue) else Err Empty)))
    by false at_a at_b = tt
    by true true at_b = tt
    by true false true = tt
    by true false false = tt

pub handover_may : (s : OctetState) (ue : UeId) (gnb : Gnb) (up du : ℕ) → MayBeGiven s.units (handover_order s ue gnb up du)
handover_may s ue gnb up du =
    by (is_attached s ue) (is_same_place gnb du (serving_gnb s ue) (serving_place s ue)) (is_other_up gnb up (serving_gnb s ue) (serving_place s ue))
    (is_busy_with s ue) (goal_of (find ue_cmp s.plans ue) ue gnb up du)
  where
    by : (there same other busy : Bool) (goal : Option Plan)
        → MayBeGiven s.units (if not there then Err NoUe else (if same then Err Same else
        (if other then Err NotAllowed else (if busy then Err Busy else goal_order (serving_gnb s ue) goal))))
    by false same other busy goal = tt
    by true true other busy goal = tt
    by true false true busy goal = tt
    by true false false true goal = tt
    by true false false false None = tt
    by true false false false (Some goal) = tt
