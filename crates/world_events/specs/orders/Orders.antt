-- Internal: which unit an event gives which order, or why the event can't apply.
use Rattle.std.specs.Prelude.{ℕ, not, if◌then◌else◌, Option, Some, None, is_some, Result, Ok, Err}
use Rattle.gnb_types.specs.declared.names.Gnb.{Gnb}
use Rattle.gnb_types.specs.declared.names.Gnb.TheVariants.{A, B}
use Rattle.gnb_types.specs.declared.names.NodeId.{NodeId}
use Rattle.gnb_types.specs.declared.names.NodeId.TheVariants.{CuCp, Ue}
use Rattle.gnb_types.specs.declared.names.UeId.{UeId}
use Rattle.gnb_types.specs.declared.plans.Plan.{Plan}
use Rattle.gnb_types.specs.declared.inputs.Order.{Order}
use Rattle.gnb_types.specs.declared.inputs.Order.TheVariants as orders
use Rattle.gnb_types.specs.declared.reasons.RefuseReason.{RefuseReason}
use Rattle.gnb_types.specs.declared.reasons.RefuseReason.TheVariants.{Empty, NoRadio, NotAllowed, NoUe, NotAccessing, NoHome, Busy, Same}
use Rattle.gnb_types.specs.Orders.{ue_cmp}
use Rattle.tables.specs.Tables.{find}
use Rattle.unit_defs.specs.Ue.{is_connected, is_accessing, may_return}
use Rattle.unit_defs.specs.Accessors.{ue_home}
use Rattle.run_defs.specs.Units.{ue_of, is_source}
use Rattle.run_defs.specs.States.{order_for, refused, is_attached}
use Rattle.run_defs.specs.Steps.{step}
use Rattle.run_defs.specs.Conditions.{serving_gnb, serving_place, state_at, goal_of, is_same_place, is_other_up, is_busy_with}
use Rattle.run_defs.specs.UnitRuns.{Records}
use Rattle.run_links.specs.Networks.{OctetWorld, OctetState, OctetOutcome}
use Rattle.run_units.specs.Steps.{IsOrderedThere}

abbrev pub Ordered : Type 0
Ordered = Result (NodeId × Order) RefuseReason

-- a run may give that order
abbrev pub MayBeGiven : Records → Ordered → Type 0
MayBeGiven r (Ok to) = IsOrderedThere r to.0 to.1
MayBeGiven r (Err reason) = Unit {0}

-- what an event comes to that is no more than an order to a unit
abbrev pub ordered : OctetWorld → OctetState → Ordered → OctetOutcome
ordered world s (Ok to) = step world to.0 (order_for to.1) s
ordered world s (Err reason) = refused reason s

-- ---- the terminal's state decides

abbrev pub fail_order : OctetState → UeId → Ordered
fail_order s ue =
    if not (is_attached s ue) then Err NoUe else (if is_connected (state_at s ue) then Ok (Ue ue.0, orders.Fail ue) else Err NoRadio)

abbrev pub arrive_order : OctetState → UeId → Ordered
arrive_order s ue =
    if not (is_attached s ue) then Err NoUe else
    (if is_accessing (state_at s ue) then Ok (Ue ue.0, orders.Arrive ue) else Err NotAccessing)

abbrev pub return_order : OctetState → UeId → Ordered
return_order s ue =
    if not (is_attached s ue) then Err NoUe else
    (if not (is_some (ue_home (ue_of s.units ue))) then Err NoHome else
    (if may_return (state_at s ue) then Ok (Ue ue.0, orders.Return ue) else Err Busy))

-- ---- the CU-CPs decide

abbrev pub goal_order : Gnb → Option Plan → Ordered
goal_order serving None = Err NoUe
goal_order serving (Some goal) = Ok (CuCp serving, orders.Handover goal)

abbrev pub handover_order : OctetState → UeId → Gnb → ℕ → ℕ → Ordered
handover_order s ue gnb up du =
    let serving = serving_gnb s ue in
    if not (is_attached s ue) then Err NoUe else
    (if is_same_place gnb du serving (serving_place s ue) then Err Same else
    (if is_other_up gnb up serving (serving_place s ue) then Err NotAllowed else
    (if is_busy_with s ue then Err Busy else goal_order serving (goal_of (find ue_cmp s.plans ue) ue gnb up du))))

abbrev pub cancel_order : OctetState → UeId → Ordered
cancel_order s ue =
    if not (is_attached s ue) then Err NoUe else
    (if is_source s.units.cu_cp_a ue then Ok (CuCp A, orders.Cancel ue) else
    (if is_source s.units.cu_cp_b ue then Ok (CuCp B, orders.Cancel ue) else Err Empty))

-- which CU-CP lets a terminal go, or why none does
abbrev pub releaser_of : OctetState → UeId → Result Gnb RefuseReason
releaser_of s ue =
    if not (is_attached s ue) then Err NoUe else (if is_busy_with s ue then Err Busy else Ok (serving_gnb s ue))
