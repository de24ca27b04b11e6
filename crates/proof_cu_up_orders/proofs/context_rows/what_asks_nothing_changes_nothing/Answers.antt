use Rattle.unit_defs.specs.CuUp.{cu_up_acts}
use Rattle.proof_cu_up_orders.specs.context_orders.Inputs.{orders_of}
use Rattle.proof_cu_up_orders.proofs.context_rows.Rows.{all_does, untouched}
use Rattle.proof_cu_up_orders.proofs.context_rows.what_asks_nothing_changes_nothing.Goals as goal

pub returns : goal.returns
returns g c = λ way r input ue bearer order none.
    untouched way ue bearer r (cu_up_acts way r input) (orders_of way r ue bearer input) none (all_does way ue bearer r input order)
