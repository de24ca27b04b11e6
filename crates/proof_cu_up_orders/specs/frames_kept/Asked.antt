-- What is asked of a context that sends to a DU.
use Rattle.std.specs.Prelude.{false, []}
use Rattle.proof_cu_up_orders.specs.bearer_orders.Happenings.{Beside}
use Rattle.proof_cu_up_orders.specs.context_orders.Orders.{ContextStep}
use Rattle.proof_cu_up_orders.specs.context_orders.Orders as ups

-- orders by which the context goes on on its downlink
abbrev pub GoesOn : {P : Type 0} → ContextStep P → Type 0
GoesOn (ups.switches du teid) = ⊥
GoesOn ups.closes = ⊥
GoesOn order = Unit {0}

-- nothing is left on a tunnel, and the radio is the first one
abbrev pub alone : Beside
alone = record { left_down = []; left_up = []; to = 0; epoch = 0; final = false }
