use Rattle.gnb_types.specs.declared.names.UeId.{UeId}
use Rattle.gnb_types.specs.declared.names.BearerId.{BearerId}
use Rattle.unit_defs.specs.CuUp.{cu_up_acts}
use Rattle.proof_cu_up_orders.specs.context_orders.Orders.{carried, model_of}
use Rattle.proof_cu_up_orders.specs.context_orders.Inputs.{orders_of}
use Rattle.proof_cu_up_orders.proofs.context_rows.Rows.{all_does, follows, stays_in_order}
use Rattle.proof_cu_up_orders.proofs.context_rows.inputs_are_orders.Goals as goal

pub returns-clause-does : goal.returns-clause-does
returns-clause-does g c = λ way r input ue bearer order.
    follows way ue bearer (cu_up_acts way r input) (carried way ue bearer (orders_of way r ue bearer input) (model_of r ue bearer))
    (all_does way ue bearer r input order)

pub returns-clause-in_order : goal.returns-clause-in_order
returns-clause-in_order g c = λ way r input order.
    let ue : UeId = record { 0 = 0 } in
    let bearer : BearerId = record { 0 = 0 } in
    stays_in_order way ue bearer (cu_up_acts way r input) (carried way ue bearer (orders_of way r ue bearer input) (model_of r ue bearer))
    (all_does way ue bearer r input order)
